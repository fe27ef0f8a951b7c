-- The tests on closes decide the cases.
use Rattle.std.proofs.Common.{◌≡◌, ℕ, zero, suc, ◌+◌, ◌*◌, ◌<◌, max, Bool, true, false, not, ◌&&◌, if◌then◌else◌, nat_lt, IsTrue, ◌↔◌, ℤ, pos, negsuc, ◌+ℤ◌, neg_ℤ, ◌<ℤ◌, int_lt, unsigned_abs, List, [], Option, Some, None, refl, sym, ap, ◌∙◌, subst, arith}
use Rattle.std.proofs.lemmas.Int.{ints}
use Rattle.std.proofs.lemmas.Bool.Decides.{nat_tests}
use Rattle.index_forms.specs.declared.form.Side.{Side}
use Rattle.index_forms.specs.declared.form.Side.TheVariants.{One, Two}
use Rattle.index_forms.specs.Form.{Atom, start, iter, inner, inv, version, read, opaque, start2, iter2, Form, form, Terms, no_terms, term}
use Rattle.index_knowledge.specs.Knowledge.{KnownFact, KnownPair}
use Rattle.index_ranges.specs.Ranges.{KnownRange}
use Rattle.certificate_rules.specs.Derivations.{Close, distinct, residue, range, fact, Derived}
use Rattle.certificate_rules.specs.Surveys.{Survey, numbered, range_of, fact_serves}
use Rattle.certificate_rules.specs.Disjoint.{is_nested}
use Rattle.certificate_rules.specs.Accepted.{apart_by, by_iterations, by_second_iterations, IsDistinct, IsSecondDistinct, ClosesDistinct, low_end, high_end, Within, nothing_within, more_within, IsRange, IsSecondRange, ClosesRange, IsFact, Closes, Accepted}
use Rattle.certificate_rules.specs.Tests.{lines_are, all_forms, is_zero, is_iter, is_iter2, followed, apart_of, iterations_of, second_iterations_of, has_none, is_last, is_distinct, is_second_distinct, holds_of, closes_distinct, has_residue, Interval, with_multiple, ended_at, inner_of, interval_by, interval, lies_between, ends_between, range_by, is_range, size_of, is_less_twice, second_lies, second_ends, second_range_by, is_second_range, range_holds, fact_closes, closes, closes_all, accepts}
use Rattle.certificate_rules.proofs.Same.{and-left, and-right, and-both, side-from, iter-to, iter2-to}
use Rattle.certificate_rules.proofs.Gcds.{residue-to, residue-from}
use Rattle.certificate_rules.proofs.DecidedLines.{lines-to, lines-from, all-to, all-from}

-- ---- numbers

zero-to : (z : ℤ) → is_zero z ≡ true → z ≡ pos 0
zero-to (pos zero) e = refl
zero-to (pos (suc n)) e = cc
zero-to (negsuc n) e = cc

zero-from : (z : ℤ) → z ≡ pos 0 → is_zero z ≡ true
zero-from z e = ap is_zero e

nonzero-to : (z : ℤ) → not (is_zero z) ≡ true → ¬ (z ≡ pos 0)
nonzero-to z e h = let p = zero-from z h in let q : not true ≡ true = ap not (sym p) ∙ e in cc

nonzero-from : (z : ℤ) → ¬ (z ≡ pos 0) → not (is_zero z) ≡ true
nonzero-from (pos zero) h = absurd (h refl)
nonzero-from (pos (suc n)) h = refl
nonzero-from (negsuc n) h = refl

opposite : (a b : ℤ) → a +ℤ b ≡ pos 0 → b ≡ neg_ℤ a
opposite a b e = omega (arith, ints, e)

with-opposite : (a : ℤ) → a +ℤ neg_ℤ a ≡ pos 0
with-opposite a = omega (arith, ints)

-- ---- two atoms apart

chosen : {A : Type 0} (b : Bool) (x y : A) → (if b then Some x else None) ≡ Some y → (b ≡ true) × (x ≡ y)
chosen true x y e = (refl, cc)
chosen false x y e = cc

branch : {A : Type 0} (b : Bool) (o : Option A) (y : A) → (if b then o else None) ≡ Some y → (b ≡ true) × (o ≡ Some y)
branch true o y e = (refl, e)
branch false o y e = cc

followed-to : (q : Atom → Bool) (y : Atom) → ((z : Atom) → q z ≡ true → z ≡ y) → (a : ℤ) (ts : Terms) (r : ℤ × Terms) → followed q a ts ≡ Some r → (a ≡ r.0) × (ts ≡ term y (neg_ℤ a) r.1)
followed-to q y h a no_terms r e = cc
followed-to q y h a (term z b ts) r e =
    let w = chosen {A = ℤ × Terms} (q z && is_zero (a +ℤ b)) (a, ts) r e in
    let p : z ≡ y = h z (and-left (q z) (is_zero (a +ℤ b)) w.0) in
    let k : b ≡ neg_ℤ a = opposite a b (zero-to (a +ℤ b) (and-right (q z) (is_zero (a +ℤ b)) w.0)) in
    let t : ts ≡ r.1 = ap (λ (m : ℤ × Terms). m.1) w.1 in
    (ap (λ (m : ℤ × Terms). m.0) w.1, ap (λ (m : Atom). term m b ts) p ∙ ap (λ (m : ℤ). term y m ts) k ∙ ap (term y (neg_ℤ a)) t)

apart-to : (p q : Atom → Bool) (x y : Atom) → ((z : Atom) → p z ≡ true → z ≡ x) → ((z : Atom) → q z ≡ true → z ≡ y) → (ts : Terms) (r : ℤ × Terms) → apart_of p q ts ≡ Some r →
    ¬ (r.0 ≡ pos 0) × (ts ≡ apart_by r.0 x y r.1)
apart-to p q x y h g no_terms r e = cc
apart-to p q x y h g (term z a ts) r e =
    let w = branch {A = ℤ × Terms} (p z && not (is_zero a)) (followed q a ts) r e in
    let i : z ≡ x = h z (and-left (p z) (not (is_zero a)) w.0) in
    let n : ¬ (a ≡ pos 0) = nonzero-to a (and-right (p z) (not (is_zero a)) w.0) in
    let f = followed-to q y g a ts r w.1 in
    ((λ k. n (f.0 ∙ k)), ap (λ (m : Atom). term m a ts) i ∙ ap (term x a) f.1 ∙ ap (λ (m : ℤ). apart_by m x y r.1) f.0)

apart-from : (p q : Atom → Bool) (x y : Atom) → p x ≡ true → q y ≡ true → (a : ℤ) (ts : Terms) → ¬ (a ≡ pos 0) → apart_of p q (apart_by a x y ts) ≡ Some (a, ts)
apart-from p q x y h g a ts n =
    let k : (p x && not (is_zero a)) ≡ true = and-both (p x) (not (is_zero a)) h (nonzero-from a n) in
    let l : (q y && is_zero (a +ℤ neg_ℤ a)) ≡ true = and-both (q y) (is_zero (a +ℤ neg_ℤ a)) g (zero-from (a +ℤ neg_ℤ a) (with-opposite a)) in
    ap (λ (b : Bool). if b then followed q a (term y (neg_ℤ a) ts) else None) k ∙ ap (λ (b : Bool). if b then Some (a, ts) else None) l

iterations-to : (ts : Terms) (r : ℤ × Terms) → iterations_of ts ≡ Some r → ¬ (r.0 ≡ pos 0) × (ts ≡ by_iterations r.0 r.1)
iterations-to ts r e = apart-to (is_iter One) (is_iter Two) (iter One) (iter Two) (iter-to One) (iter-to Two) ts r e

iterations-from : (a : ℤ) (ts : Terms) → ¬ (a ≡ pos 0) → iterations_of (by_iterations a ts) ≡ Some (a, ts)
iterations-from a ts n = apart-from (is_iter One) (is_iter Two) (iter One) (iter Two) (side-from One) (side-from Two) a ts n

second-to : (ts : Terms) (r : ℤ × Terms) → second_iterations_of ts ≡ Some r → ¬ (r.0 ≡ pos 0) × (ts ≡ by_second_iterations r.0 r.1)
second-to ts r e = apart-to (is_iter2 One) (is_iter2 Two) (iter2 One) (iter2 Two) (iter2-to One) (iter2-to Two) ts r e

second-from : (a : ℤ) (ts : Terms) → ¬ (a ≡ pos 0) → second_iterations_of (by_second_iterations a ts) ≡ Some (a, ts)
second-from a ts n = apart-from (is_iter2 One) (is_iter2 Two) (iter2 One) (iter2 Two) (side-from One) (side-from Two) a ts n

none-to : (ts : Terms) → has_none ts ≡ true → ts ≡ no_terms
none-to no_terms e = refl
none-to (term a k ts) e = cc

-- ---- distinct

last-to : (o : Option (ℤ × Terms)) → is_last o ≡ true → (a : ℤ) × (o ≡ Some (a, no_terms))
last-to None e = absurd (clash e) where
  clash : false ≡ true → ⊥
  clash e = cc
last-to (Some r) e = (r.0, ap (λ (t : Terms). Some (r.0, t)) (none-to r.1 e))

pub distinct-to : (f : Form) → is_distinct f ≡ true → IsDistinct f
distinct-to (form c ts) e =
    let z : c ≡ pos 0 = zero-to c (and-left (is_zero c) (is_last (iterations_of ts)) e) in
    let l = last-to (iterations_of ts) (and-right (is_zero c) (is_last (iterations_of ts)) e) in
    let w = iterations-to ts (l.0, no_terms) l.1 in
    (l.0, w.0, ap (λ (k : ℤ). form k ts) z ∙ ap (form (pos 0)) w.1)

distinct-from : (f : Form) → IsDistinct f → is_distinct f ≡ true
distinct-from f h = ap is_distinct h.2 ∙ ap is_last (iterations-from h.0 no_terms h.1)

pub second-distinct-to : (f : Form) → is_second_distinct f ≡ true → IsSecondDistinct f
second-distinct-to (form c ts) e =
    let z : c ≡ pos 0 = zero-to c (and-left (is_zero c) (is_last (second_iterations_of ts)) e) in
    let l = last-to (second_iterations_of ts) (and-right (is_zero c) (is_last (second_iterations_of ts)) e) in
    let w = second-to ts (l.0, no_terms) l.1 in
    (l.0, w.0, ap (λ (k : ℤ). form k ts) z ∙ ap (form (pos 0)) w.1)

second-distinct-from : (f : Form) → IsSecondDistinct f → is_second_distinct f ≡ true
second-distinct-from f h = ap is_second_distinct h.2 ∙ ap is_last (second-from h.0 no_terms h.1)

holds-to : (test : Form → Bool) (o : Option Form) → holds_of test o ≡ true → (f : Form) × (o ≡ Some f) × (test f ≡ true)
holds-to test None e = absurd (clash e) where
  clash : false ≡ true → ⊥
  clash e = cc
holds-to test (Some f) e = (f, refl, e)

holds-from : (test : Form → Bool) (o : Option Form) (f : Form) → o ≡ Some f → test f ≡ true → holds_of test o ≡ true
holds-from test o f e h = ap (holds_of test) e ∙ h

closes-distinct-to : (b : Bool) (above : List Form) (l : ℕ) (m : Option ℕ) → closes_distinct b above l m ≡ true → ClosesDistinct b above l m
closes-distinct-to false above l None e = let w = holds-to is_distinct (numbered above l) e in (w.0, w.1, distinct-to w.0 w.2)
closes-distinct-to false above l (Some m) e = cc
closes-distinct-to true above l None e = cc
closes-distinct-to true above l (Some m) e =
    let w = holds-to is_distinct (numbered above l) (and-left (holds_of is_distinct (numbered above l)) (holds_of is_second_distinct (numbered above m)) e) in
    let x = holds-to is_second_distinct (numbered above m) (and-right (holds_of is_distinct (numbered above l)) (holds_of is_second_distinct (numbered above m)) e) in
    (w.0, x.0, w.1, x.1, distinct-to w.0 w.2, second-distinct-to x.0 x.2)

closes-distinct-from : (b : Bool) (above : List Form) (l : ℕ) (m : Option ℕ) → ClosesDistinct b above l m → closes_distinct b above l m ≡ true
closes-distinct-from false above l None h = holds-from is_distinct (numbered above l) h.0 h.1 (distinct-from h.0 h.2)
closes-distinct-from false above l (Some m) h = absurd h
closes-distinct-from true above l None h = absurd h
closes-distinct-from true above l (Some m) h =
    and-both (holds_of is_distinct (numbered above l)) (holds_of is_second_distinct (numbered above m))
    (holds-from is_distinct (numbered above l) h.0 h.2 (distinct-from h.0 h.4)) (holds-from is_second_distinct (numbered above m) h.1 h.3 (second-distinct-from h.1 h.5))

-- ---- range

inner-to : (x : Atom) (l : ℕ) → inner_of x ≡ Some l → (side : Side) × (x ≡ inner side l)
inner-to start l e = absurd (clash l e) where
  clash : (l : ℕ) → None ≡ Some l → ⊥
  clash l e = cc
inner-to (iter s) l e = absurd (clash l e) where
  clash : (l : ℕ) → None ≡ Some l → ⊥
  clash l e = cc
inner-to (inner s m) l e = (s, let p : m ≡ l = cc in ap (inner s) p)
inner-to (inv x) l e = absurd (clash l e) where
  clash : (l : ℕ) → None ≡ Some l → ⊥
  clash l e = cc
inner-to (version s n x) l e = absurd (clash l e) where
  clash : (l : ℕ) → None ≡ Some l → ⊥
  clash l e = cc
inner-to (read x fs) l e = absurd (clash l e) where
  clash : (l : ℕ) → None ≡ Some l → ⊥
  clash l e = cc
inner-to (opaque s a n) l e = absurd (clash l e) where
  clash : (l : ℕ) → None ≡ Some l → ⊥
  clash l e = cc
inner-to start2 l e = absurd (clash l e) where
  clash : (l : ℕ) → None ≡ Some l → ⊥
  clash l e = cc
inner-to (iter2 s) l e = absurd (clash l e) where
  clash : (l : ℕ) → None ≡ Some l → ⊥
  clash l e = cc

ended-to : (rs : List KnownRange) (ts : Terms) (w : Interval) → ended_at ts ≡ Some w → Within rs w.last ts w.low w.high
ended-to rs ts w e = elim-some (record { low = pos 0; high = pos 0; last = ts }) w e nothing_within where
  elim-some : (a b : Interval) → Some a ≡ Some b → Within rs a.last ts a.low a.high → Within rs b.last ts b.low b.high
  elim-some a b e h = let p : a ≡ b = cc in subst (λ (z : Interval). Within rs z.last ts z.low z.high) p h

multiple-to : (rs : List KnownRange) (s : Side) (l : ℕ) (k : ℤ) (ts : Terms) (o : Option KnownRange) (rest : Option Interval) (w : Interval) → range_of rs l ≡ o →
    ((u : Interval) → rest ≡ Some u → Within rs u.last ts u.low u.high) → with_multiple k o rest ≡ Some w → Within rs w.last (term (inner s l) k ts) w.low w.high
multiple-to rs s l k ts None rest w r h e = absurd (clash e) where
  clash : None ≡ Some w → ⊥
  clash e = cc
multiple-to rs s l k ts (Some x) None w r h e = absurd (clash e) where
  clash : None ≡ Some w → ⊥
  clash e = cc
multiple-to rs s l k ts (Some x) (Some u) w r h e = elim-some (record { low = low_end k x +ℤ u.low; high = high_end k x +ℤ u.high; last = u.last }) w e (more_within s l k ts x u.low u.high r (h u refl)) where
  elim-some : (a b : Interval) → Some a ≡ Some b → Within rs a.last (term (inner s l) k ts) a.low a.high → Within rs b.last (term (inner s l) k ts) b.low b.high
  elim-some a b e h = let p : a ≡ b = cc in subst (λ (z : Interval). Within rs z.last (term (inner s l) k ts) z.low z.high) p h

interval-by-to : (rs : List KnownRange) (o : Option ℕ) (x : Atom) (k : ℤ) (ts : Terms) (rest : Option Interval) (w : Interval) → inner_of x ≡ o →
    ((u : Interval) → rest ≡ Some u → Within rs u.last ts u.low u.high) → interval_by rs o x k ts rest ≡ Some w → Within rs w.last (term x k ts) w.low w.high
interval-by-to rs None x k ts rest w i h e = ended-to rs (term x k ts) w e
interval-by-to rs (Some l) x k ts rest w i h e =
    let s = inner-to x l i in
    subst (λ (z : Atom). Within rs w.last (term z k ts) w.low w.high) (sym s.1) (multiple-to rs s.0 l k ts (range_of rs l) rest w refl h e)

interval-to : (rs : List KnownRange) (ts : Terms) (w : Interval) → interval rs ts ≡ Some w → Within rs w.last ts w.low w.high
interval-to rs no_terms w e = ended-to rs no_terms w e
interval-to rs (term x k ts) w e = interval-by-to rs (inner_of x) x k ts (interval rs ts) w refl (λ u d. interval-to rs ts u d) e

-- terms that don't begin with a variable of an inner loop end an interval
abbrev pub IsEnd : Terms → Type 0
IsEnd no_terms = Unit {0}
IsEnd (term x k ts) = inner_of x ≡ None

ended-from : (rs : List KnownRange) (ts : Terms) → IsEnd ts → interval rs ts ≡ ended_at ts
ended-from rs no_terms h = refl
ended-from rs (term x k ts) h = ap (λ (o : Option ℕ). interval_by rs o x k ts (interval rs ts)) h

interval-from : (rs : List KnownRange) (last ts : Terms) (low high : ℤ) → IsEnd last → Within rs last ts low high → interval rs ts ≡ Some (record { low = low; high = high; last = last })
interval-from rs last ts low high h nothing_within = ended-from rs last h
interval-from rs last ts low high h (more_within s l k us r lo hi e w) =
    ap (λ (o : Option KnownRange). with_multiple k o (interval rs us)) e ∙ ap (with_multiple k (Some r)) (interval-from rs last us lo hi h w)

less-to : (x y : ℤ) → int_lt x y ≡ true → x <ℤ y
less-to x y e = grind (arith, ints)

less-from : (x y : ℤ) → x <ℤ y → int_lt x y ≡ true
less-from x y e = grind (arith, ints)

nat-less-to : (x y : ℕ) → nat_lt x y ≡ true → x < y
nat-less-to x y e = grind (arith, nat_tests)

nat-less-from : (x y : ℕ) → x < y → nat_lt x y ≡ true
nat-less-from x y e = grind (arith, nat_tests)

some-to : {A : Type 0} (o : Option A) (k : Option A → Bool) → k None ≡ false → k o ≡ true → (a : A) × (o ≡ Some a)
some-to None k n e = absurd (clash (sym n ∙ e)) where
  clash : false ≡ true → ⊥
  clash e = cc
some-to (Some a) k n e = (a, refl)

range-to : (rs : List KnownRange) (f : Form) → is_range rs f ≡ true → IsRange rs f
range-to rs (form c ts) e =
    let x = some-to {A = ℤ × Terms} (iterations_of ts) (range_by rs c) refl e in
    let e1 : ends_between c x.0.0 (interval rs x.0.1) ≡ true = ap (range_by rs c) (sym x.1) ∙ e in
    let y = some-to {A = Interval} (interval rs x.0.1) (ends_between c x.0.0) refl e1 in
    let e2 : (has_none y.0.last && lies_between c x.0.0 y.0) ≡ true = ap (ends_between c x.0.0) (sym y.1) ∙ e1 in
    let w = iterations-to ts x.0 x.1 in
    let l : y.0.last ≡ no_terms = none-to y.0.last (and-left (has_none y.0.last) (lies_between c x.0.0 y.0) e2) in
    let b : lies_between c x.0.0 y.0 ≡ true = and-right (has_none y.0.last) (lies_between c x.0.0 y.0) e2 in
    record {
      a = x.0.0;
      constant = c;
      rest = x.0.1;
      low = y.0.low;
      high = y.0.high;
      nonzero = w.0;
      is = ap (form c) w.1;
      within = subst (λ (z : Terms). Within rs z x.0.1 y.0.low y.0.high) l (interval-to rs x.0.1 y.0 y.1);
      above = less-to (neg_ℤ (pos (unsigned_abs x.0.0))) (c +ℤ y.0.low) (and-left (int_lt (neg_ℤ (pos (unsigned_abs x.0.0))) (c +ℤ y.0.low)) (int_lt (c +ℤ y.0.high) (pos (unsigned_abs x.0.0))) b);
      below = less-to (c +ℤ y.0.high) (pos (unsigned_abs x.0.0)) (and-right (int_lt (neg_ℤ (pos (unsigned_abs x.0.0))) (c +ℤ y.0.low)) (int_lt (c +ℤ y.0.high) (pos (unsigned_abs x.0.0))) b);
    }

range-from : (rs : List KnownRange) (f : Form) → IsRange rs f → is_range rs f ≡ true
range-from rs f h =
    ap (is_range rs) h.is ∙ ap (range_by rs h.constant) (iterations-from h.a h.rest h.nonzero)
    ∙ ap (ends_between h.constant h.a) (interval-from rs no_terms h.rest h.low h.high tt h.within)
    ∙ and-both (int_lt (neg_ℤ (pos (unsigned_abs h.a))) (h.constant +ℤ h.low)) (int_lt (h.constant +ℤ h.high) (pos (unsigned_abs h.a)))
    (less-from (neg_ℤ (pos (unsigned_abs h.a))) (h.constant +ℤ h.low) h.above) (less-from (h.constant +ℤ h.high) (pos (unsigned_abs h.a)) h.below)

second-lies-to : (c a : ℤ) (second : Option ℕ) (w : Interval) (o : Option (ℤ × Terms)) → second_lies c a second w o ≡ true →
    (r : ℤ × Terms) × (m : ℕ) × (o ≡ Some r) × (second ≡ Some m) × (has_none r.1 ≡ true) × (is_less_twice c a r.0 m w ≡ true)
second-lies-to c a second w None e = absurd (clash e) where
  clash : false ≡ true → ⊥
  clash e = cc
second-lies-to c a None w (Some r) e = absurd (clash e) where
  clash : false ≡ true → ⊥
  clash e = cc
second-lies-to c a (Some m) w (Some r) e = (r, m, refl, refl, and-left (has_none r.1) (is_less_twice c a r.0 m w) e, and-right (has_none r.1) (is_less_twice c a r.0 m w) e)

second-range-to : (rs : List KnownRange) (second : Option ℕ) (f : Form) → is_second_range rs second f ≡ true → IsSecondRange rs second f
second-range-to rs second (form c ts) e =
    let x = some-to {A = ℤ × Terms} (iterations_of ts) (second_range_by rs second c) refl e in
    let e1 : second_ends c x.0.0 second (interval rs x.0.1) ≡ true = ap (second_range_by rs second c) (sym x.1) ∙ e in
    let y = some-to {A = Interval} (interval rs x.0.1) (second_ends c x.0.0 second) refl e1 in
    let e2 : second_lies c x.0.0 second y.0 (second_iterations_of y.0.last) ≡ true = ap (second_ends c x.0.0 second) (sym y.1) ∙ e1 in
    let z = second-lies-to c x.0.0 second y.0 (second_iterations_of y.0.last) e2 in
    let w = iterations-to ts x.0 x.1 in
    let v = second-to y.0.last z.0 z.2 in
    let n : z.0.1 ≡ no_terms = none-to z.0.1 z.4 in
    let l : y.0.last ≡ by_second_iterations z.0.0 no_terms = v.1 ∙ ap (by_second_iterations z.0.0) n in
    record {
      a = x.0.0;
      b = z.0.0;
      constant = c;
      rest = x.0.1;
      low = y.0.low;
      high = y.0.high;
      m = z.1;
      nonzero = w.0;
      second_nonzero = v.0;
      is = ap (form c) w.1;
      within = subst (λ (t : Terms). Within rs t x.0.1 y.0.low y.0.high) l (interval-to rs x.0.1 y.0 y.1);
      second_is = z.3;
      inner_less = nat-less-to (size_of c y.0) (unsigned_abs z.0.0) (and-left (nat_lt (size_of c y.0) (unsigned_abs z.0.0)) (nat_lt (unsigned_abs z.0.0 * z.1 + size_of c y.0) (unsigned_abs x.0.0)) z.5);
      outer_less = nat-less-to (unsigned_abs z.0.0 * z.1 + size_of c y.0) (unsigned_abs x.0.0) (and-right (nat_lt (size_of c y.0) (unsigned_abs z.0.0)) (nat_lt (unsigned_abs z.0.0 * z.1 + size_of c y.0) (unsigned_abs x.0.0)) z.5);
    }

second-range-from : (rs : List KnownRange) (second : Option ℕ) (f : Form) → IsSecondRange rs second f → is_second_range rs second f ≡ true
second-range-from rs second f h =
    let w : Interval = record { low = h.low; high = h.high; last = by_second_iterations h.b no_terms } in
    ap (is_second_range rs second) h.is ∙ ap (second_range_by rs second h.constant) (iterations-from h.a h.rest h.nonzero)
    ∙ ap (second_ends h.constant h.a second) (interval-from rs (by_second_iterations h.b no_terms) h.rest h.low h.high refl h.within)
    ∙ ap (second_lies h.constant h.a second (record { low = h.low; high = h.high; last = by_second_iterations h.b no_terms })) (second-from h.b no_terms h.second_nonzero)
    ∙ ap (λ (o : Option ℕ). second_lies h.constant h.a o (record { low = h.low; high = h.high; last = by_second_iterations h.b no_terms }) (Some (h.b, no_terms))) h.second_is
    ∙ and-both (nat_lt (max (unsigned_abs (h.constant +ℤ h.low)) (unsigned_abs (h.constant +ℤ h.high))) (unsigned_abs h.b))
    (nat_lt (unsigned_abs h.b * h.m + max (unsigned_abs (h.constant +ℤ h.low)) (unsigned_abs (h.constant +ℤ h.high))) (unsigned_abs h.a))
    (nat-less-from (max (unsigned_abs (h.constant +ℤ h.low)) (unsigned_abs (h.constant +ℤ h.high))) (unsigned_abs h.b) h.inner_less)
    (nat-less-from (unsigned_abs h.b * h.m + max (unsigned_abs (h.constant +ℤ h.low)) (unsigned_abs (h.constant +ℤ h.high))) (unsigned_abs h.a) h.outer_less)

pub range-holds-to : (b : Bool) (s : Survey) (f : Form) → range_holds b s f ≡ true → ClosesRange b s f
range-holds-to false s f e = range-to s.ranges f e
range-holds-to true s f e = second-range-to s.ranges s.second f e

range-holds-from : (b : Bool) (s : Survey) (f : Form) → ClosesRange b s f → range_holds b s f ≡ true
range-holds-from false s f h = range-from s.ranges f h
range-holds-from true s f h = second-range-from s.ranges s.second f h

-- ---- facts and all closes

fact-to : (s : Survey) (p : KnownPair) (above : List Form) (n : ℕ) (ls : List ℕ) (o : Option KnownFact) → numbered s.facts n ≡ o → fact_closes s p above ls o ≡ true → IsFact s p above n ls
fact-to s p above n ls None i e = absurd (clash e) where
  clash : false ≡ true → ⊥
  clash e = cc
fact-to s p above n ls (Some k) i e = record {
  known = k;
  is = i;
  serving = and-left (fact_serves s.accesses k p) (lines_are above ls k.differences) e;
  lines = lines-to above ls k.differences (and-right (fact_serves s.accesses k p) (lines_are above ls k.differences) e);
}

closes-to : (s : Survey) (p : KnownPair) (above : List Form) (c : Close) → closes s p above c ≡ true → Closes s p above c
closes-to s p above (distinct l m) e = closes-distinct-to (is_nested p) above l m e
closes-to s p above (residue l) e = let w = holds-to has_residue (numbered above l) e in (w.0, w.1, residue-to w.0 w.2)
closes-to s p above (range l) e = let w = holds-to (range_holds (is_nested p) s) (numbered above l) e in (w.0, w.1, range-holds-to (is_nested p) s w.0 w.2)
closes-to s p above (fact n ls) e = fact-to s p above n ls (numbered s.facts n) refl e

closes-from : (s : Survey) (p : KnownPair) (above : List Form) (c : Close) → Closes s p above c → closes s p above c ≡ true
closes-from s p above (distinct l m) h = closes-distinct-from (is_nested p) above l m h
closes-from s p above (residue l) h = holds-from has_residue (numbered above l) h.0 h.1 (residue-from h.0 h.2)
closes-from s p above (range l) h = holds-from (range_holds (is_nested p) s) (numbered above l) h.0 h.1 (range-holds-from (is_nested p) s h.0 h.2)
closes-from s p above (fact n ls) h =
    ap (fact_closes s p above ls) h.is ∙ and-both (fact_serves s.accesses h.known p) (lines_are above ls h.known.differences) h.serving (lines-from above ls h.known.differences h.lines)

accepted-to : (s : Survey) (p : KnownPair) (d : Derived) (o : Option (List Form)) → all_forms s p [] d.lines ≡ o → closes_all s p d.close o ≡ true → Accepted s p d
accepted-to s p d None a e = absurd (clash e) where
  clash : false ≡ true → ⊥
  clash e = cc
accepted-to s p d (Some all) a e = (all, all-to s p [] d.lines all a, closes-to s p all d.close e)

-- the test decides acceptance
pub tests-decide : (s : Survey) (p : KnownPair) (d : Derived) → IsTrue (accepts s p d) ↔ Accepted s p d
tests-decide s p d = (λ e. accepted-to s p d (all_forms s p [] d.lines) refl e, λ h. ap (closes_all s p d.close) (all-from s p [] d.lines h.0 h.1) ∙ closes-from s p h.0 d.close h.2)
