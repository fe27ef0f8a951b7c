-- The stated derivations of plain pairs are accepted.
use Rattle.std.proofs.Common.{◌≡◌, ℕ, zero, suc, ◌+◌, Bool, true, false, if◌then◌else◌, bytes_eq, List, [], ◌∷◌, ◌++◌, length, Option, Some, None, refl, sym, ap, ◌∙◌, subst, arith}
use Rattle.std.specs.Prelude.{option_map}
use Rattle.std.proofs.lemmas.Slice.Eq.{bytes_eq-Decides}
use Rattle.index_forms.specs.Form.{Form, form, Forms, forms_order}
use Rattle.index_forms.specs.Sums.{differences}
use Rattle.index_forms.specs.Formed.{zero_form}
use Rattle.index_forms.proofs.AtomOrder.{forms-equal}
use Rattle.index_knowledge.specs.Knowledge.{KnownFact, KnownPair}
use Rattle.certificate_rules.specs.Derivations.{Line, hyp, comb, cong, Close, distinct, residue, range, fact, Derived}
use Rattle.certificate_rules.specs.Surveys.{Survey, numbered, fact_serves}
use Rattle.certificate_rules.specs.Disjoint.{is_nested}
use Rattle.certificate_rules.specs.Accepted.{AreLines, reads_apart, IsElement, IsCong, Stands, AllStand, ClosesDistinct, Closes, Accepted}
use Rattle.certificate_rules.specs.Tests.{is_equal, same_form, element_at, is_distinct, is_second_distinct, has_residue, range_holds}
use Rattle.certificate_rules.specs.Plain.{or_else, least_from, least, numbers_from, line_for, after_first, lines_for, fact_derivation, by_fact, by_facts, alone, two_lines, by_distinct, by_residue, by_range, Elements, if_apart, first_element, elements_of, is_element_of, least_read, Shown, shown_alone, shown_cong, shown_elements, shown, AllShown, and_shown, after_shown, all_shown, shown_derivation, by_elements, stated}
use Rattle.certificate_rules.proofs.Same.{same-to, equal-true, and-left, and-right}
use Rattle.certificate_rules.proofs.Gcds.{residue-to}
use Rattle.certificate_rules.proofs.DecidedLines.{element-to}
use Rattle.certificate_rules.proofs.DecidedCloses.{distinct-to, second-distinct-to, range-holds-to}

-- ---- lists

push-move : (above : List Form) (g : Form) (gs : List Form) → above ++ g ∷ gs ≡ (above ++ g ∷ []) ++ gs
push-move [] g gs = refl
push-move (x ∷ above) g gs = ap (λ (t : List Form). x ∷ t) (push-move above g gs)

nothing-more : (above : List Form) → above ++ [] ≡ above
nothing-more [] = refl
nothing-more (x ∷ above) = ap (λ (t : List Form). x ∷ t) (nothing-more above)

joined-lists : (xs ys zs : List Form) → (xs ++ ys) ++ zs ≡ xs ++ (ys ++ zs)
joined-lists [] ys zs = refl
joined-lists (x ∷ xs) ys zs = ap (λ (t : List Form). x ∷ t) (joined-lists xs ys zs)

push-length : (above : List Form) (g : Form) → length (above ++ g ∷ []) ≡ suc (length above)
push-length [] g = refl
push-length (x ∷ above) g = ap suc (push-length above g)

join-length : (xs ys : List Form) → length (xs ++ ys) ≡ length xs + length ys
join-length [] ys = omega arith
join-length (x ∷ xs) ys = let p = join-length xs ys in omega (arith, p)

at-end : (above : List Form) (g : Form) (gs : List Form) → numbered (above ++ g ∷ gs) (suc (length above)) ≡ Some g
at-end [] g gs = refl
at-end (x ∷ above) g gs = at-end above g gs

later : (xs ys : List Form) (n : ℕ) (f : Form) → numbered xs n ≡ Some f → numbered (xs ++ ys) n ≡ Some f
later [] ys zero f e = cc
later [] ys (suc n) f e = cc
later (x ∷ xs) ys zero f e = cc
later (x ∷ xs) ys (suc zero) f e = e
later (x ∷ xs) ys (suc (suc n)) f e = later xs ys (suc n) f e

are-later : (xs ys : List Form) (ns : List ℕ) (fs : List Form) → AreLines xs ns fs → AreLines (xs ++ ys) ns fs
are-later xs ys [] [] h = tt
are-later xs ys [] (f ∷ fs) h = absurd h
are-later xs ys (n ∷ ns) [] h = absurd h
are-later xs ys (n ∷ ns) (f ∷ fs) h = (later xs ys n f h.0, are-later xs ys ns fs h.1)

are-numbered : (above gs : List Form) → AreLines (above ++ gs) (numbers_from (suc (length above)) (length gs)) gs
are-numbered above [] = tt
are-numbered above (g ∷ gs) =
    let p : AreLines ((above ++ g ∷ []) ++ gs) (numbers_from (suc (length (above ++ g ∷ []))) (length gs)) gs = are-numbered (above ++ g ∷ []) gs in
    let q : AreLines (above ++ g ∷ gs) (numbers_from (suc (length (above ++ g ∷ []))) (length gs)) gs = subst (λ (t : List Form). AreLines t (numbers_from (suc (length (above ++ g ∷ []))) (length gs)) gs) (sym (push-move above g gs)) p in
    (at-end above g gs, subst (λ (k : ℕ). AreLines (above ++ g ∷ gs) (numbers_from (suc k) (length gs)) gs) (push-length above g) q)

chosen : {A : Type 0} (b : Bool) (o : Option A) (y : A) → (if b then o else None) ≡ Some y → (b ≡ true) × (o ≡ Some y)
chosen true o y e = (refl, e)
chosen false o y e = cc

-- ---- the least form that meets a test

found-from : (test : Form → Bool) (n : ℕ) (fs : List Form) (d : ℕ) → least_from test n fs ≡ Some d → (j : ℕ) × (f : Form) × (d ≡ n + j) × (numbered fs (suc j) ≡ Some f) × (test f ≡ true)
found-from test n [] d e = absurd (clash e) where
  clash : None ≡ Some d → ⊥
  clash e = cc
found-from test n (f ∷ fs) d e = by-test (test f) refl e (λ h. found-from test (suc n) fs d h) where
  by-test : (b : Bool) → test f ≡ b → (if b then Some n else least_from test (suc n) fs) ≡ Some d →
      (least_from test (suc n) fs ≡ Some d → (j : ℕ) × (g : Form) × (d ≡ suc n + j) × (numbered fs (suc j) ≡ Some g) × (test g ≡ true)) →
      (j : ℕ) × (g : Form) × (d ≡ n + j) × (numbered (f ∷ fs) (suc j) ≡ Some g) × (test g ≡ true)
  by-test true t h k = let p : n ≡ d = cc in (0, f, omega (arith, p), refl, t)
  by-test false t h k = let w = k h in (suc w.0, w.1, omega (arith, w.2), w.3, w.4)

found : (test : Form → Bool) (fs : List Form) (d : ℕ) → least test fs ≡ Some d → (f : Form) × (numbered fs d ≡ Some f) × (test f ≡ true)
found test fs d e =
    let w = found-from test 1 fs d e in
    let p : d ≡ suc w.0 = omega (arith, w.2) in
    (w.1, subst (λ (k : ℕ). numbered fs k ≡ Some w.1) (sym p) w.3, w.4)

-- ---- lines

of-hyp : (o : Option ℕ) (l : Line) → option_map hyp o ≡ Some l → (d : ℕ) × (o ≡ Some d) × (hyp d ≡ l)
of-hyp None l e = absurd (clash e) where
  clash : None ≡ Some l → ⊥
  clash e = cc
of-hyp (Some d) l e = (d, refl, cc)

line-stands : (s : Survey) (p : KnownPair) (g : Form) (l : Line) (above : List Form) → line_for p g ≡ Some l → Stands s p above l g
line-stands s p g l above e = by-test (same_form g zero_form) refl e where
  by-test : (b : Bool) → same_form g zero_form ≡ b → (if b then Some (comb []) else option_map hyp (least (λ f. same_form f g) p.differences)) ≡ Some l → Stands s p above l g
  by-test true t h =
      let q : comb [] ≡ l = cc in
      let z : g ≡ zero_form = same-to g zero_form t in
      subst (λ (m : Line). Stands s p above m g) q (ap Some (sym z))
  by-test false t h =
      let w = of-hyp (least (λ f. same_form f g) p.differences) l h in
      let v = found (λ f. same_form f g) p.differences w.0 w.1 in
      let z : v.0 ≡ g = same-to v.0 g v.2 in
      subst (λ (m : Line). Stands s p above m g) w.2 (v.1 ∙ ap Some z)

first-of : (o : Option Line) (r : Option (List Line)) (ls : List Line) → after_first o r ≡ Some ls → (l : Line) × (ms : List Line) × (o ≡ Some l) × (r ≡ Some ms) × (l ∷ ms ≡ ls)
first-of None r ls e = absurd (clash e) where
  clash : None ≡ Some ls → ⊥
  clash e = cc
first-of (Some l) None ls e = absurd (clash e) where
  clash : None ≡ Some ls → ⊥
  clash e = cc
first-of (Some l) (Some ms) ls e = (l, ms, refl, refl, cc)

lines-count : (p : KnownPair) (gs : List Form) (ls : List Line) → lines_for p gs ≡ Some ls → length ls ≡ length gs
lines-count p [] ls e = let q : [] ≡ ls = cc in ap length (sym q)
lines-count p (g ∷ gs) ls e =
    let w = first-of (line_for p g) (lines_for p gs) ls e in
    ap length (sym w.4) ∙ ap suc (lines-count p gs w.1 w.3)

lines-stand : (s : Survey) (p : KnownPair) (gs : List Form) (ls : List Line) (above : List Form) → lines_for p gs ≡ Some ls → AllStand s p above ls (above ++ gs)
lines-stand s p [] ls above e =
    let q : [] ≡ ls = cc in
    subst (λ (ms : List Line). AllStand s p above ms (above ++ [])) q (nothing-more above)
lines-stand s p (g ∷ gs) ls above e =
    let w = first-of (line_for p g) (lines_for p gs) ls e in
    let r : AllStand s p (above ++ g ∷ []) w.1 ((above ++ g ∷ []) ++ gs) = lines-stand s p gs w.1 (above ++ g ∷ []) w.3 in
    let t : AllStand s p (above ++ g ∷ []) w.1 (above ++ g ∷ gs) = subst (λ (all : List Form). AllStand s p (above ++ g ∷ []) w.1 all) (sym (push-move above g gs)) r in
    subst (λ (ms : List Line). AllStand s p above ms (above ++ g ∷ gs)) w.4 (g, line-stands s p g w.0 above w.2, t)

stand-join : (s : Survey) (p : KnownPair) (above : List Form) (ls ms : List Line) (mid all : List Form) → AllStand s p above ls mid → AllStand s p mid ms all → AllStand s p above (ls ++ ms) all
stand-join s p above [] ms mid all h g = subst (λ (t : List Form). AllStand s p t ms all) h g
stand-join s p above (l ∷ ls) ms mid all h g = (h.0, h.1, stand-join s p (above ++ h.0 ∷ []) ls ms mid all h.2 g)

-- ---- facts

or-else-cases : (o q : Option Derived) (d : Derived) (P : Type 0) → or_else o q ≡ Some d → (o ≡ Some d → P) → (q ≡ Some d → P) → P
or-else-cases None q d P e f g = g e
or-else-cases (Some a) q d P e f g = f e

in-facts : (derive : ℕ → KnownFact → Option Derived) (n : ℕ) (ks : List KnownFact) (d : Derived) (P : Type 0) → by_facts derive n ks ≡ Some d →
    ((j : ℕ) (k : KnownFact) → numbered ks (suc j) ≡ Some k → derive (n + j) k ≡ Some d → P) → P
in-facts derive n [] d P e h = absurd (clash e) where
  clash : None ≡ Some d → ⊥
  clash e = cc
in-facts derive n (k ∷ ks) d P e h =
    or-else-cases (derive n k) (by_facts derive (suc n) ks) d P e
    (λ f. h 0 k refl (let z : n ≡ n + 0 = omega arith in subst (λ (m : ℕ). derive m k ≡ Some d) z f))
    (λ f. in-facts derive (suc n) ks d P f (λ j x i g. h (suc j) x i (let z : suc n + j ≡ n + suc j = omega arith in subst (λ (m : ℕ). derive m x ≡ Some d) z g)))

at-fact : (derive : ℕ → KnownFact → Option Derived) (ks : List KnownFact) (d : Derived) (P : Type 0) → by_facts derive 1 ks ≡ Some d →
    ((n : ℕ) (k : KnownFact) → numbered ks n ≡ Some k → derive n k ≡ Some d → P) → P
at-fact derive ks d P e h = in-facts derive 1 ks d P e (λ j k i g. h (suc j) k i (let z : 1 + j ≡ suc j = omega arith in subst (λ (m : ℕ). derive m k ≡ Some d) z g))

fact-of : (s : Survey) (p : KnownPair) (n : ℕ) (k : KnownFact) (d : Derived) (o : Option (List Line)) → numbered s.facts n ≡ Some k → fact_serves s.accesses k p ≡ true → lines_for p k.differences ≡ o →
    fact_derivation n o ≡ Some d → Accepted s p d
fact-of s p n k d None i t l e = absurd (clash e) where
  clash : None ≡ Some d → ⊥
  clash e = cc
fact-of s p n k d (Some ls) i t l e =
    let q : record { lines = ls; close = fact n (numbers_from 1 (length ls)) } ≡ d = cc in
    let c : length ls ≡ length k.differences = lines-count p k.differences ls l in
    let a : AreLines k.differences (numbers_from 1 (length ls)) k.differences =
    subst (λ (m : ℕ). AreLines k.differences (numbers_from 1 m) k.differences) (sym c) (are-numbered [] k.differences) in
    subst (Accepted s p) q (k.differences, lines-stand s p k.differences ls [] l, record { known = k; is = i; serving = t; lines = a })

by-fact-accepted : (s : Survey) (p : KnownPair) (d : Derived) → by_facts (by_fact s p) 1 s.facts ≡ Some d → Accepted s p d
by-fact-accepted s p d e = at-fact (by_fact s p) s.facts d (Accepted s p d) e (λ n k i g.
    (let w = chosen (fact_serves s.accesses k p) (fact_derivation n (lines_for p k.differences)) d g in
    fact-of s p n k d (lines_for p k.differences) i w.0 refl w.1))

-- ---- one difference

of-alone : (close : ℕ → Close) (o : Option ℕ) (d : Derived) → alone close o ≡ Some d → (n : ℕ) × (o ≡ Some n) × (record { lines = hyp n ∷ []; close = close 1 } ≡ d)
of-alone close None d e = absurd (clash e) where
  clash : None ≡ Some d → ⊥
  clash e = cc
of-alone close (Some n) d e = (n, refl, cc)

alone-accepted : (s : Survey) (p : KnownPair) (close : ℕ → Close) (test : Form → Bool) (d : Derived) →
    ((f : Form) → test f ≡ true → Closes s p (f ∷ []) (close 1)) → alone close (least test p.differences) ≡ Some d → Accepted s p d
alone-accepted s p close test d h e =
    let w = of-alone close (least test p.differences) d e in
    let v = found test p.differences w.0 w.1 in
    subst (Accepted s p) w.2 (v.0 ∷ [], (v.0, v.1, refl), h v.0 v.2)

of-two : (o q : Option ℕ) (d : Derived) → two_lines o q ≡ Some d → (m n : ℕ) × (o ≡ Some m) × (q ≡ Some n) × (record { lines = hyp m ∷ hyp n ∷ []; close = distinct 1 (Some 2) } ≡ d)
of-two None q d e = absurd (clash e) where
  clash : None ≡ Some d → ⊥
  clash e = cc
of-two (Some m) None d e = absurd (clash e) where
  clash : None ≡ Some d → ⊥
  clash e = cc
of-two (Some m) (Some n) d e = (m, n, refl, refl, cc)

distinct-accepted : (s : Survey) (p : KnownPair) (d : Derived) (b : Bool) → is_nested p ≡ b → by_distinct b p ≡ Some d → Accepted s p d
distinct-accepted s p d false i e =
    alone-accepted s p (λ l. distinct l None) is_distinct d
    (λ f t. subst (λ (b : Bool). ClosesDistinct b (f ∷ []) 1 None) (sym i) (f, refl, distinct-to f t)) e
distinct-accepted s p d true i e =
    let w = of-two (least is_distinct p.differences) (least is_second_distinct p.differences) d e in
    let v = found is_distinct p.differences w.0 w.2 in
    let u = found is_second_distinct p.differences w.1 w.3 in
    subst (Accepted s p) w.4 (
      v.0 ∷ u.0 ∷ [],
      (v.0, v.1, (u.0, u.1, refl)),
      subst (λ (b : Bool). ClosesDistinct b (v.0 ∷ u.0 ∷ []) 1 (Some 2)) (sym i) (v.0, u.0, refl, refl, distinct-to v.0 v.2, second-distinct-to u.0 u.2),
    )

-- ---- elements

read-found : (elements : ℕ → Option (List ℕ × Forms)) (x : List ℕ) (fs : Forms) (n left a : ℕ) → least_read elements x fs n left ≡ Some a → is_element_of x fs (elements a) ≡ true
read-found elements x fs n zero a e = cc
read-found elements x fs n (suc k) a e = by-test (is_element_of x fs (elements n)) refl e (λ h. read-found elements x fs (suc n) k a h) where
  by-test : (b : Bool) → is_element_of x fs (elements n) ≡ b → (if b then Some n else least_read elements x fs (suc n) k) ≡ Some a →
      (least_read elements x fs (suc n) k ≡ Some a → is_element_of x fs (elements a) ≡ true) → is_element_of x fs (elements a) ≡ true
  by-test true t h g = let q : n ≡ a = cc in subst (λ (m : ℕ). is_element_of x fs (elements m) ≡ true) q t
  by-test false t h g = g h

element-is : (s : Survey) (side : List Forms) (a : ℕ) (x : List ℕ) (fs : Forms) (o : Option (List ℕ × Forms)) → element_at s side a ≡ o → is_element_of x fs o ≡ true → IsElement s side a x fs
element-is s side a x fs None i e = absurd (clash e) where
  clash : false ≡ true → ⊥
  clash e = cc
element-is s side a x fs (Some r) i e =
    let n : r.0 ≡ x = (bytes_eq-Decides r.0 x).0 (and-left (bytes_eq r.0 x) (is_equal (forms_order r.1 fs)) e) in
    let f : r.1 ≡ fs = forms-equal r.1 fs (equal-true (forms_order r.1 fs) (and-right (bytes_eq r.0 x) (is_equal (forms_order r.1 fs)) e)) in
    let w : IsElement s side a r.0 r.1 = element-to s side a (numbered s.accesses a) (numbered side a) r refl refl i in
    subst (λ (t : Forms). IsElement s side a x t) f (subst (λ (t : List ℕ). IsElement s side a t r.1) n w)

-- what a form's lines show
record IsShown (s : Survey) (p : KnownPair) (above : List Form) (g : Form) (w : Shown) : Type 0 where
  more : List Form
  stand : AllStand s p above w.lines (above ++ more)
  last_is : numbered (above ++ more) w.last ≡ Some g
  count : length more ≡ length w.lines

alone-shown : (s : Survey) (p : KnownPair) (above : List Form) (n : ℕ) (g : Form) (o : Option Line) (w : Shown) → n ≡ suc (length above) → line_for p g ≡ o → shown_alone n o ≡ Some w → IsShown s p above g w
alone-shown s p above n g None w i l e = absurd (clash e) where
  clash : None ≡ Some w → ⊥
  clash e = cc
alone-shown s p above n g (Some m) w i l e =
    let q : record { lines = m ∷ []; last = n } ≡ w = cc in
    subst (IsShown s p above g) q (record {
      more = g ∷ [];
      stand = (g, line-stands s p g m above l, refl);
      last_is = subst (λ (k : ℕ). numbered (above ++ g ∷ []) k ≡ Some g) (sym i) (at-end above g []);
      count = refl;
    })

apart-of : (g : Form) (o : Option Elements) (e : Elements) → if_apart g o ≡ Some e → g ≡ reads_apart e.name e.ones e.twos
apart-of g None e h = cc
apart-of g (Some r) e h =
    let w = chosen (same_form g (reads_apart r.name r.ones r.twos)) (Some r) e h in
    let q : r ≡ e = cc (w.1) in
    subst (λ (t : Elements). g ≡ reads_apart t.name t.ones t.twos) q (same-to g (reads_apart r.name r.ones r.twos) w.0)

elements-apart : (g : Form) (e : Elements) → elements_of g ≡ Some e → g ≡ reads_apart e.name e.ones e.twos
elements-apart (form c ts) e h = apart-of (form c ts) (first_element ts) e h

cong-shown : (s : Survey) (p : KnownPair) (above : List Form) (n : ℕ) (g : Form) (r : Elements) (a b : Option ℕ) (o : Option (List Line)) (w : Shown) → n ≡ suc (length above) → g ≡ reads_apart r.name r.ones r.twos →
    ((m : ℕ) → a ≡ Some m → IsElement s s.ones m r.name r.ones) → ((m : ℕ) → b ≡ Some m → IsElement s s.twos m r.name r.twos) →
    lines_for p (differences r.ones r.twos) ≡ o → shown_cong n a b o ≡ Some w → IsShown s p above g w
cong-shown s p above n g r None b o w i q x y l e = absurd (clash e) where
  clash : None ≡ Some w → ⊥
  clash e = cc
cong-shown s p above n g r (Some a) None o w i q x y l e = absurd (clash e) where
  clash : None ≡ Some w → ⊥
  clash e = cc
cong-shown s p above n g r (Some a) (Some b) None w i q x y l e = absurd (clash e) where
  clash : None ≡ Some w → ⊥
  clash e = cc
cong-shown s p above n g r (Some a) (Some b) (Some ls) w i q x y l e =
    let d : record { lines = ls ++ cong a b (numbers_from n (length ls)) ∷ []; last = n + length ls } ≡ w = cc in
    let ds = differences r.ones r.twos in
    let c : length ls ≡ length (differences r.ones r.twos) = lines-count p (differences r.ones r.twos) ls l in
    let k : AreLines (above ++ differences r.ones r.twos) (numbers_from n (length ls)) (differences r.ones r.twos) =
    subst (λ (j : ℕ). AreLines (above ++ differences r.ones r.twos) (numbers_from n j) (differences r.ones r.twos)) (sym c)
    (subst (λ (j : ℕ). AreLines (above ++ differences r.ones r.twos) (numbers_from j (length (differences r.ones r.twos))) (differences r.ones r.twos)) (sym i) (are-numbered above (differences r.ones r.twos))) in
    let u : IsCong s (above ++ differences r.ones r.twos) a b (numbers_from n (length ls)) g = record { name = r.name; ones = r.ones; twos = r.twos; first = x a refl; second = y b refl; lines = k; is = q } in
    let t : AllStand s p above (ls ++ cong a b (numbers_from n (length ls)) ∷ []) ((above ++ differences r.ones r.twos) ++ g ∷ []) =
    stand-join s p above ls (cong a b (numbers_from n (length ls)) ∷ []) (above ++ differences r.ones r.twos) ((above ++ differences r.ones r.twos) ++ g ∷ [])
    (lines-stand s p (differences r.ones r.twos) ls above l) (g, u, refl) in
    let j : (above ++ differences r.ones r.twos) ++ g ∷ [] ≡ above ++ (differences r.ones r.twos ++ g ∷ []) = joined-lists above (differences r.ones r.twos) (g ∷ []) in
    let f : numbered ((above ++ differences r.ones r.twos) ++ g ∷ []) (suc (length (above ++ differences r.ones r.twos))) ≡ Some g = at-end (above ++ differences r.ones r.twos) g [] in
    let h : suc (length (above ++ differences r.ones r.twos)) ≡ n + length ls = omega (arith, join-length above (differences r.ones r.twos), i, c) in
    let f2 : numbered ((above ++ differences r.ones r.twos) ++ g ∷ []) (n + length ls) ≡ Some g = subst (λ (m : ℕ). numbered ((above ++ differences r.ones r.twos) ++ g ∷ []) m ≡ Some g) h f in
    subst (IsShown s p above g) d (record {
      more = differences r.ones r.twos ++ g ∷ [];
      stand = subst (λ (z : List Form). AllStand s p above (ls ++ cong a b (numbers_from n (length ls)) ∷ []) z) j t;
      last_is = subst (λ (z : List Form). numbered z (n + length ls) ≡ Some g) j f2;
      count = push-length (differences r.ones r.twos) g ∙ ap suc (sym c) ∙ sym (line-length ls (cong a b (numbers_from n (length ls))));
    }) where
      line-length : (ms : List Line) (m : Line) → length (ms ++ m ∷ []) ≡ suc (length ms)
      line-length [] m = refl
      line-length (x ∷ ms) m = ap suc (line-length ms m)

elements-shown : (s : Survey) (p : KnownPair) (above : List Form) (n : ℕ) (g : Form) (o : Option Elements) (w : Shown) → n ≡ suc (length above) → elements_of g ≡ o → shown_elements s p n o ≡ Some w → IsShown s p above g w
elements-shown s p above n g None w i l e = absurd (clash e) where
  clash : None ≡ Some w → ⊥
  clash e = cc
elements-shown s p above n g (Some r) w i l e =
    cong-shown s p above n g r (least_read (element_at s s.ones) r.name r.ones 1 (length s.accesses)) (least_read (element_at s s.twos) r.name r.twos 1 (length s.accesses))
    (lines_for p (differences r.ones r.twos)) w i (elements-apart g r l)
    (λ m h. element-is s s.ones m r.name r.ones (element_at s s.ones m) refl (read-found (element_at s s.ones) r.name r.ones 1 (length s.accesses) m h))
    (λ m h. element-is s s.twos m r.name r.twos (element_at s s.twos m) refl (read-found (element_at s s.twos) r.name r.twos 1 (length s.accesses) m h))
    refl e

either-shown : (o q : Option Shown) (w : Shown) (P : Type 0) → or_else o q ≡ Some w → (o ≡ Some w → P) → (q ≡ Some w → P) → P
either-shown None q w P e f g = g e
either-shown (Some a) q w P e f g = f e

is-shown : (s : Survey) (p : KnownPair) (above : List Form) (n : ℕ) (g : Form) (w : Shown) → n ≡ suc (length above) → shown s p n g ≡ Some w → IsShown s p above g w
is-shown s p above n g w i e =
    either-shown (shown_alone n (line_for p g)) (shown_elements s p n (elements_of g)) w (IsShown s p above g w) e
    (λ h. alone-shown s p above n g (line_for p g) w i refl h) (λ h. elements-shown s p above n g (elements_of g) w i refl h)

-- what the lines of all show
record AreShown (s : Survey) (p : KnownPair) (above : List Form) (gs : List Form) (w : AllShown) : Type 0 where
  more : List Form
  stand : AllStand s p above w.lines (above ++ more)
  lines : AreLines (above ++ more) w.lasts gs

of-rest : (w : Shown) (o : Option AllShown) (r : AllShown) → and_shown w o ≡ Some r → (t : AllShown) × (o ≡ Some t) × (record { lines = w.lines ++ t.lines; lasts = w.last ∷ t.lasts } ≡ r)
of-rest w None r e = absurd (clash e) where
  clash : None ≡ Some r → ⊥
  clash e = cc
of-rest w (Some t) r e = (t, refl, cc)

of-first : (n : ℕ) (o : Option Shown) (rest : ℕ → Option AllShown) (r : AllShown) → after_shown n o rest ≡ Some r → (w : Shown) × (o ≡ Some w) × (and_shown w (rest (n + length w.lines)) ≡ Some r)
of-first n None rest r e = absurd (clash e) where
  clash : None ≡ Some r → ⊥
  clash e = cc
of-first n (Some w) rest r e = (w, refl, e)

are-shown : (s : Survey) (p : KnownPair) (gs : List Form) (above : List Form) (n : ℕ) (r : AllShown) → n ≡ suc (length above) → all_shown s p n gs ≡ Some r → AreShown s p above gs r
are-shown s p [] above n r i e =
    let q : record { lines = []; lasts = [] } ≡ r = cc in
    subst (AreShown s p above []) q (record { more = []; stand = nothing-more above; lines = tt })
are-shown s p (g ∷ gs) above n r i e =
    let w = of-first n (shown s p n g) (λ (m : ℕ). all_shown s p m gs) r e in
    let t = of-rest w.0 (all_shown s p (n + length w.0.lines) gs) r w.2 in
    let h : IsShown s p above g w.0 = is-shown s p above n g w.0 i w.1 in
    let j : n + length w.0.lines ≡ suc (length (above ++ h.more)) = omega (arith, i, join-length above h.more, h.count) in
    let u : AreShown s p (above ++ h.more) gs t.0 = are-shown s p gs (above ++ h.more) (n + length w.0.lines) t.0 j t.1 in
    let z : (above ++ h.more) ++ u.more ≡ above ++ (h.more ++ u.more) = joined-lists above h.more u.more in
    let a : AllStand s p above (w.0.lines ++ t.0.lines) ((above ++ h.more) ++ u.more) = stand-join s p above w.0.lines t.0.lines (above ++ h.more) ((above ++ h.more) ++ u.more) h.stand u.stand in
    let b : AreLines ((above ++ h.more) ++ u.more) (w.0.last ∷ t.0.lasts) (g ∷ gs) = (later (above ++ h.more) u.more w.0.last g h.last_is, u.lines) in
    subst (AreShown s p above (g ∷ gs)) t.2 (record {
      more = h.more ++ u.more;
      stand = subst (λ (x : List Form). AllStand s p above (w.0.lines ++ t.0.lines) x) z a;
      lines = subst (λ (x : List Form). AreLines x (w.0.last ∷ t.0.lasts) (g ∷ gs)) z b;
    })

shown-of : (s : Survey) (p : KnownPair) (n : ℕ) (k : KnownFact) (d : Derived) (o : Option AllShown) → numbered s.facts n ≡ Some k → fact_serves s.accesses k p ≡ true → all_shown s p 1 k.differences ≡ o →
    shown_derivation n o ≡ Some d → Accepted s p d
shown-of s p n k d None i t l e = absurd (clash e) where
  clash : None ≡ Some d → ⊥
  clash e = cc
shown-of s p n k d (Some w) i t l e =
    let q : record { lines = w.lines; close = fact n w.lasts } ≡ d = cc in
    let h : AreShown s p [] k.differences w = are-shown s p k.differences [] 1 w refl l in
    subst (Accepted s p) q (h.more, h.stand, record { known = k; is = i; serving = t; lines = h.lines })

by-elements-accepted : (s : Survey) (p : KnownPair) (d : Derived) → by_facts (by_elements s p) 1 s.facts ≡ Some d → Accepted s p d
by-elements-accepted s p d e = at-fact (by_elements s p) s.facts d (Accepted s p d) e (λ n k i g.
    (let w = chosen (fact_serves s.accesses k p) (shown_derivation n (all_shown s p 1 k.differences)) d g in
    shown-of s p n k d (all_shown s p 1 k.differences) i w.0 refl w.1))

-- ---- all cases

pub stated-accepted : (s : Survey) (p : KnownPair) (d : Derived) → stated s p ≡ Some d → Accepted s p d
stated-accepted s p d e =
    or-else-cases (by_facts (by_fact s p) 1 s.facts) (or_else (by_distinct (is_nested p) p) (or_else (by_residue p) (or_else (by_range s p) (by_facts (by_elements s p) 1 s.facts)))) d (Accepted s p d) e
    (λ h. by-fact-accepted s p d h)
    (λ h. or-else-cases (by_distinct (is_nested p) p) (or_else (by_residue p) (or_else (by_range s p) (by_facts (by_elements s p) 1 s.facts))) d (Accepted s p d) h
    (λ g. distinct-accepted s p d (is_nested p) refl g)
    (λ g. or-else-cases (by_residue p) (or_else (by_range s p) (by_facts (by_elements s p) 1 s.facts)) d (Accepted s p d) g
    (λ k. alone-accepted s p residue has_residue d (λ f t. (f, refl, residue-to f t)) k)
    (λ k. or-else-cases (by_range s p) (by_facts (by_elements s p) 1 s.facts) d (Accepted s p d) k
    (λ l. alone-accepted s p range (range_holds (is_nested p) s) d (λ f t. (f, refl, range-holds-to (is_nested p) s f t)) l)
    (λ l. by-elements-accepted s p d l))))
