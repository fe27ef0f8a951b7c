-- An accepted derivation shows that the pair is disjoint.
use Rattle.std.proofs.Common.{◌≡◌, ℕ, zero, suc, ◌+◌, ◌*◌, ◌<◌, ◌≤◌, max, Bool, true, false, if◌then◌else◌, bytes_eq, ℤ, pos, negsuc, ◌+ℤ◌, ◌*ℤ◌, ◌-ℤ◌, neg_ℤ, ◌≤ℤ◌, unsigned_abs, List, [], ◌∷◌, ◌++◌, Option, Some, None, IsTrue, refl, sym, ap, ◌∙◌, subst, arith, rules}
use Rattle.std.proofs.lemmas.Int.{ints, unsigned_abs-mul}
use Rattle.std.proofs.Math.Nat.{mul-le-mul_left}
use Rattle.std.proofs.lemmas.Nat.Gcd.{dvd-zero}
use Prim.Native.Nat.{◌∣◌}
use Rattle.index_forms.specs.declared.form.Side.{Side}
use Rattle.index_forms.specs.declared.form.Side.TheVariants.{One, Two}
use Rattle.index_forms.specs.declared.difference.Extent.TheVariants.{Wide}
use Rattle.index_forms.specs.Form.{Atom, iter, inner, read, iter2, Form, form, Terms, no_terms, term, Forms, no_forms, and_form}
use Rattle.index_forms.specs.Sums.{total, value, values, Congruent, plus_scaled, differences, fits_in}
use Rattle.index_forms.specs.Formed.{zero_form, atom_form}
use Rattle.index_forms.proofs.Ints.{apart, abs-positive, abs-sum-dvd, abs-product-dvd, abs-opposite, abs-between, times-low, times-high, abs-is, times-sum, neg-times}
use Rattle.index_forms.proofs.Worths.{value-plus, value-minus}
use Rattle.index_knowledge.specs.Knowledge.{KnownPair}
use Rattle.index_ranges.specs.Ranges.{KnownRange}
use Rattle.certificate_rules.specs.Derivations.{Line, hyp, comb, cong, Close, distinct, residue, range, fact, Derived}
use Rattle.certificate_rules.specs.Surveys.{Survey, numbered, count_of, range_of, IsSurvey, IsPairOf}
use Rattle.certificate_rules.specs.Disjoint.{is_nested, DifferentIterations, Respects, Disjoint}
use Rattle.certificate_rules.specs.Accepted.{added, combined, if_fits, AreLines, reads_apart, IsCong, Stands, AllStand, apart_by, by_second_iterations, ClosesDistinct, DividesAll, HasResidue, low_end, high_end, Within, nothing_within, more_within, IsRange, IsSecondRange, ClosesRange, IsFact, Closes, Accepted}
use Rattle.certificate_rules.proofs.FactForms.{facts-have-forms}

abbrev pub Zeros : (Atom → ℤ) → List Form → Type 0
Zeros v [] = Unit {0}
Zeros v (f ∷ fs) = (value v f ≡ pos 0) × Zeros v fs

pub zero-numbered : (v : Atom → ℤ) (fs : List Form) (n : ℕ) (f : Form) → Zeros v fs → numbered fs n ≡ Some f → value v f ≡ pos 0
zero-numbered v fs zero f z e = cc
zero-numbered v [] (suc n) f z e = cc
zero-numbered v (g ∷ fs) (suc zero) f z e = let p : g ≡ f = cc in rw (← p) z.0
zero-numbered v (g ∷ fs) (suc (suc n)) f z e = zero-numbered v fs (suc n) f z.1 e

zeros-push : (v : Atom → ℤ) (fs : List Form) (f : Form) → Zeros v fs → value v f ≡ pos 0 → Zeros v (fs ++ f ∷ [])
zeros-push v [] f z e = (e, tt)
zeros-push v (g ∷ fs) f z e = (z.0, zeros-push v fs f z.1 e)

zeros-differences : (v : Atom → ℤ) (fs gs : Forms) → values v fs ≡ values v gs → Zeros v (differences fs gs)
zeros-differences v no_forms gs e = tt
zeros-differences v (and_form f fs) no_forms e = tt
zeros-differences v (and_form f fs) (and_form g gs) e =
    let p : value v f ≡ value v g = cc in
    let q : values v fs ≡ values v gs = cc in
    (omega (arith, ints, value-minus v f g, p), zeros-differences v fs gs q)

same-from-zeros : (v : Atom → ℤ) (fs gs : Forms) → count_of fs ≡ count_of gs → Zeros v (differences fs gs) → values v fs ≡ values v gs
same-from-zeros v no_forms no_forms c z = refl
same-from-zeros v no_forms (and_form g gs) c z = absurd (omega arith)
same-from-zeros v (and_form f fs) no_forms c z = absurd (omega arith)
same-from-zeros v (and_form f fs) (and_form g gs) c z =
    let p : value v f ≡ value v g = omega (arith, ints, value-minus v f g, z.0) in
    let q : values v fs ≡ values v gs = same-from-zeros v fs gs (omega arith) z.1 in cc

lines-zeros : (v : Atom → ℤ) (above : List Form) (ns : List ℕ) (fs : List Form) → Zeros v above → AreLines above ns fs → Zeros v fs
lines-zeros v above [] [] z h = tt
lines-zeros v above [] (f ∷ fs) z h = absurd h
lines-zeros v above (n ∷ ns) [] z h = tt
lines-zeros v above (n ∷ ns) (f ∷ fs) z h = (zero-numbered v above n f z h.0, lines-zeros v above ns fs z h.1)

-- ---- lines

added-zero : (v : Atom → ℤ) (m : ℤ) (o p : Option Form) (f : Form) → ((g : Form) → o ≡ Some g → value v g ≡ pos 0) → ((g : Form) → p ≡ Some g → value v g ≡ pos 0) → added m o p ≡ Some f → value v f ≡ pos 0
added-zero v m None p f ho hp e = cc
added-zero v m (Some g) None f ho hp e = cc
added-zero v m (Some g) (Some h) f ho hp e =
    let q : plus_scaled m g h ≡ f = cc in
    let a : value v g ≡ pos 0 = ho g refl in
    let b : value v h ≡ pos 0 = hp h refl in
    let c = value-plus v m g h in
    let d : value v (plus_scaled m g h) ≡ (m *ℤ pos 0) +ℤ pos 0 = c ∙ ap (λ (t : ℤ). (m *ℤ t) +ℤ value v h) a ∙ ap (λ (t : ℤ). (m *ℤ pos 0) +ℤ t) b in
    rw (← q) (omega (arith, ints, d))

combined-zero : (v : Atom → ℤ) (above : List Form) (ms : List (ℤ × ℕ)) (f : Form) → Zeros v above → combined above ms ≡ Some f → value v f ≡ pos 0
combined-zero v above [] f z e = let p : zero_form ≡ f = cc in rw (← p) refl
combined-zero v above (m ∷ ms) f z e =
    added-zero v m.0 (numbered above m.1) (combined above ms) f (λ g h. zero-numbered v above m.1 g z h) (λ g h. combined-zero v above ms g z h) e

fitting : (o : Option Form) (f : Form) → if_fits o ≡ Some f → o ≡ Some f
fitting None f e = e
fitting (Some g) f e = chosen (fits_in Wide g) g f e where
  chosen : (b : Bool) (g f : Form) → (if b then Some g else None) ≡ Some f → Some g ≡ Some f
  chosen true g f e = e
  chosen false g f e = cc

reads-zero : (v : Atom → ℤ) (c : List ℕ) (s t : Forms) → v (read c s) ≡ v (read c t) → value v (reads_apart c s t) ≡ pos 0
reads-zero v c s t e = omega (arith, ints, value-minus v (atom_form (read c s)) (atom_form (read c t)), e)

byte-refl : (x : List ℕ) → IsTrue (bytes_eq x x)
byte-refl x = search rules

cong-zero : (v : Atom → ℤ) (s : Survey) (above : List Form) (a b : ℕ) (ls : List ℕ) (f : Form) → IsSurvey s → Congruent v → Zeros v above → IsCong s above a b ls f → value v f ≡ pos 0
cong-zero v s above a b ls f y g z h =
    let n : IsTrue (bytes_eq h.first.access.place.name h.second.access.place.name) = rw (h.first.name_is, h.second.name_is) (byte-refl h.name) in
    let r : count_of h.ones ≡ count_of h.twos = y.one_rank a b h.first.access h.second.access h.ones h.twos h.first.access_is h.second.access_is n h.first.forms h.second.forms in
    let p : values v h.ones ≡ values v h.twos = same-from-zeros v h.ones h.twos r (lines-zeros v above ls (differences h.ones h.twos) z h.lines) in
    let q : v (read h.name h.ones) ≡ v (read h.name h.twos) = g.same_read h.name h.ones h.twos p in
    rw h.is (reads-zero v h.name h.ones h.twos q)

line-zero : (v : Atom → ℤ) (s : Survey) (k : KnownPair) (above : List Form) (l : Line) (f : Form) → IsSurvey s → Congruent v → Zeros v k.differences → Zeros v above → Stands s k above l f → value v f ≡ pos 0
line-zero v s k above (hyp d) f y g p z h = zero-numbered v k.differences d f p h
line-zero v s k above (comb ms) f y g p z h = combined-zero v above ms f z (fitting (combined above ms) f h)
line-zero v s k above (cong a b ls) f y g p z h = cong-zero v s above a b ls f y g z h

all-zero : (v : Atom → ℤ) (s : Survey) (k : KnownPair) (above : List Form) (ls : List Line) (all : List Form) → IsSurvey s → Congruent v → Zeros v k.differences → Zeros v above → AllStand s k above ls all → Zeros v all
all-zero v s k above [] all y g p z h = rw h z
all-zero v s k above (l ∷ ls) all y g p z h =
    all-zero v s k (above ++ h.0 ∷ []) ls all y g p (zeros-push v above h.0 z (line-zero v s k above l h.0 y g p z h.1)) h.2

-- ---- closes

-- what two atoms' difference is worth, a times
apart-worth : (v : Atom → ℤ) (c a : ℤ) (x y : Atom) (ts : Terms) → value v (form c (apart_by a x y ts)) ≡ ((a *ℤ v x) +ℤ (neg_ℤ a *ℤ v y)) +ℤ (c +ℤ total v ts)
apart-worth v c a x y ts = omega (arith, ints)

-- an atom's multiple without that of another: alone it isn't 0
alone-apart : (v : Atom → ℤ) (a : ℤ) (x y : Atom) (f : Form) → ¬ (v x ≡ v y) → ¬ (a ≡ pos 0) → f ≡ form (pos 0) (apart_by a x y no_terms) → ¬ (value v f ≡ pos 0)
alone-apart v a x y f n h is e =
    let p : unsigned_abs a ≤ unsigned_abs ((a *ℤ v x) +ℤ (neg_ℤ a *ℤ v y)) = apart a (v x) (v y) n in
    let q : 0 < unsigned_abs a = abs-positive a h in
    let r : ((a *ℤ v x) +ℤ (neg_ℤ a *ℤ v y)) +ℤ (pos 0 +ℤ pos 0) ≡ pos 0 = sym (apart-worth v (pos 0) a x y no_terms) ∙ sym (ap (value v) is) ∙ e in
    let t : (a *ℤ v x) +ℤ (neg_ℤ a *ℤ v y) ≡ pos 0 = omega (arith, ints, r) in
    let u : unsigned_abs a ≤ 0 = rw t at p in
    omega (arith, u, q)

total-dvd : (v : Atom → ℤ) (d : ℕ) (ts : Terms) → DividesAll d ts → d ∣ unsigned_abs (total v ts)
total-dvd v d no_terms h = dvd-zero d
total-dvd v d (term a k ts) h = abs-sum-dvd d (k *ℤ v a) (total v ts) (abs-product-dvd d k (v a) h.0) (total-dvd v d ts h.1)

residue-apart : (v : Atom → ℤ) (f : Form) → HasResidue f → ¬ (value v f ≡ pos 0)
residue-apart v (form c ts) h e =
    let p : h.0 ∣ unsigned_abs (total v ts) = total-dvd v h.0 ts h.1.0 in
    h.2 (rw (abs-opposite c (total v ts) e) p)

low-end : (k x : ℤ) (r : KnownRange) → r.least ≤ℤ x → x ≤ℤ (r.least +ℤ pos r.width) → (low_end k r ≤ℤ (k *ℤ x)) × ((k *ℤ x) ≤ℤ high_end k r)
low-end (pos k) x r p q = (times-low k r.least x p, times-low k x (r.least +ℤ pos r.width) q)
low-end (negsuc k) x r p q = (times-high k x (r.least +ℤ pos r.width) q, times-high k r.least x p)

-- the sum of what stands before the last terms lies in the interval
within-total : (v : Atom → ℤ) (rs : List KnownRange) (last ts : Terms) (low high : ℤ) →
    ((side : Side) (l : ℕ) (r : KnownRange) → range_of rs l ≡ Some r → (r.least ≤ℤ v (inner side l)) × (v (inner side l) ≤ℤ (r.least +ℤ pos r.width))) →
    Within rs last ts low high → ((low +ℤ total v last) ≤ℤ total v ts) × (total v ts ≤ℤ (high +ℤ total v last))
within-total v rs last ts low high h nothing_within = (omega (arith, ints), omega (arith, ints))
within-total v rs last ts low high h (more_within side l k us r lo hi e w) =
    let p = h side l r e in
    let q = low-end k (v (inner side l)) r p.0 p.1 in
    let s = within-total v rs last us lo hi h w in
    (omega (arith, ints, q.0, s.0), omega (arith, ints, q.1, s.1))

range-apart : (v : Atom → ℤ) (s : Survey) (f : Form) → ¬ (v (iter One) ≡ v (iter Two)) →
    ((side : Side) (l : ℕ) (r : KnownRange) → range_of s.ranges l ≡ Some r → (r.least ≤ℤ v (inner side l)) × (v (inner side l) ≤ℤ (r.least +ℤ pos r.width))) →
    IsRange s.ranges f → ¬ (value v f ≡ pos 0)
range-apart v s f n ranges h e =
    let p : unsigned_abs h.a ≤ unsigned_abs ((h.a *ℤ v (iter One)) +ℤ (neg_ℤ h.a *ℤ v (iter Two))) = apart h.a (v (iter One)) (v (iter Two)) n in
    let w = within-total v s.ranges no_terms h.rest h.low h.high ranges h.within in
    let r : ((h.a *ℤ v (iter One)) +ℤ (neg_ℤ h.a *ℤ v (iter Two))) +ℤ (h.constant +ℤ total v h.rest) ≡ pos 0 = sym (apart-worth v h.constant h.a (iter One) (iter Two) h.rest) ∙ sym (ap (value v) h.is) ∙ e in
    let o : unsigned_abs ((h.a *ℤ v (iter One)) +ℤ (neg_ℤ h.a *ℤ v (iter Two))) ≡ unsigned_abs (h.constant +ℤ total v h.rest) = abs-opposite ((h.a *ℤ v (iter One)) +ℤ (neg_ℤ h.a *ℤ v (iter Two))) (h.constant +ℤ total v h.rest) r in
    let b : unsigned_abs (h.constant +ℤ total v h.rest) < unsigned_abs h.a = abs-between (unsigned_abs h.a) (h.constant +ℤ total v h.rest) (omega (arith, ints, h.above, w.0)) (omega (arith, ints, h.below, w.1)) in
    omega (arith, b, o, p)

-- whether two numbers are the same
by-difference : (n : ℕ) (x y : ℤ) → unsigned_abs (x -ℤ y) ≡ n → (x ≡ y → ⊥) → (¬ (x ≡ y) → ⊥) → ⊥
by-difference zero x y e p q = p (omega (arith, ints, abs-is (x -ℤ y), e))
by-difference (suc n) x y e p q = q p

size-bound : (r low high : ℤ) → low ≤ℤ r → r ≤ℤ high → unsigned_abs r ≤ max (unsigned_abs low) (unsigned_abs high)
size-bound r low high p q = omega (arith, ints, abs-is r, abs-is low, abs-is high)

gap-bound : (x y : ℤ) (m : ℕ) → pos 0 ≤ℤ x → x ≤ℤ pos m → pos 0 ≤ℤ y → y ≤ℤ pos m → unsigned_abs (x -ℤ y) ≤ m
gap-bound x y m p q r s = omega (arith, ints, abs-is (x -ℤ y))

multiple-is : (b x y : ℤ) → (b *ℤ x) +ℤ (neg_ℤ b *ℤ y) ≡ b *ℤ (x -ℤ y)
multiple-is b x y = omega (arith, ints, times-sum b x (neg_ℤ y), neg-times b y)

multiple-bound : (b x y : ℤ) (m : ℕ) → unsigned_abs (x -ℤ y) ≤ m → unsigned_abs ((b *ℤ x) +ℤ (neg_ℤ b *ℤ y)) ≤ unsigned_abs b * m
multiple-bound b x y m h =
    let q : unsigned_abs (b *ℤ (x -ℤ y)) ≡ unsigned_abs b * unsigned_abs (x -ℤ y) = unsigned_abs-mul b (x -ℤ y) in
    rw (multiple-is b x y, q) (mul-le-mul_left (unsigned_abs b) h)

sum-bound : (x y : ℤ) → unsigned_abs (x +ℤ y) ≤ unsigned_abs x + unsigned_abs y
sum-bound x y = omega (arith, ints, abs-is x, abs-is y, abs-is (x +ℤ y))

-- A is a times the difference of the outer iterations, B is b times that of the inner ones, r what is left
two-apart : (a b x y z w r : ℤ) (m k : ℕ) → ¬ ((x ≡ y) × (z ≡ w)) → unsigned_abs (z -ℤ w) ≤ m → unsigned_abs r ≤ k → k < unsigned_abs b → unsigned_abs b * m + k < unsigned_abs a →
    ¬ (((a *ℤ x) +ℤ (neg_ℤ a *ℤ y)) +ℤ (((b *ℤ z) +ℤ (neg_ℤ b *ℤ w)) +ℤ r) ≡ pos 0)
two-apart a b x y z w r m k n g small inside outside e = by-difference (unsigned_abs (x -ℤ y)) x y refl same other where
  A : ℤ
  A = (a *ℤ x) +ℤ (neg_ℤ a *ℤ y)

  other : ¬ (x ≡ y) → ⊥
  other d =
      let p : unsigned_abs a ≤ unsigned_abs ((a *ℤ x) +ℤ (neg_ℤ a *ℤ y)) = apart a x y d in
      let o : unsigned_abs ((a *ℤ x) +ℤ (neg_ℤ a *ℤ y)) ≡ unsigned_abs (((b *ℤ z) +ℤ (neg_ℤ b *ℤ w)) +ℤ r) = abs-opposite ((a *ℤ x) +ℤ (neg_ℤ a *ℤ y)) (((b *ℤ z) +ℤ (neg_ℤ b *ℤ w)) +ℤ r) e in
      let s : unsigned_abs (((b *ℤ z) +ℤ (neg_ℤ b *ℤ w)) +ℤ r) ≤ unsigned_abs ((b *ℤ z) +ℤ (neg_ℤ b *ℤ w)) + unsigned_abs r = sum-bound ((b *ℤ z) +ℤ (neg_ℤ b *ℤ w)) r in
      let t : unsigned_abs ((b *ℤ z) +ℤ (neg_ℤ b *ℤ w)) ≤ unsigned_abs b * m = multiple-bound b z w m g in
      contradiction (unsigned_abs a) (unsigned_abs ((a *ℤ x) +ℤ (neg_ℤ a *ℤ y))) (unsigned_abs (((b *ℤ z) +ℤ (neg_ℤ b *ℤ w)) +ℤ r)) (unsigned_abs ((b *ℤ z) +ℤ (neg_ℤ b *ℤ w))) (unsigned_abs r) (unsigned_abs b * m) k p o s t small outside where
        contradiction : (i j l o' q u k : ℕ) → i ≤ j → j ≡ l → l ≤ o' + q → o' ≤ u → q ≤ k → u + k < i → ⊥
        contradiction i j l o' q u k c1 c2 c3 c4 c5 c6 = omega arith

  same : x ≡ y → ⊥
  same d =
      let h : ¬ (z ≡ w) = (λ c. n (d, c)) in
      let p : unsigned_abs b ≤ unsigned_abs ((b *ℤ z) +ℤ (neg_ℤ b *ℤ w)) = apart b z w h in
      let q : (a *ℤ x) +ℤ (neg_ℤ a *ℤ y) ≡ a *ℤ (x -ℤ y) = multiple-is a x y in
      let o : x -ℤ y ≡ pos 0 = omega (arith, ints, d) in
      let c : a *ℤ (x -ℤ y) ≡ a *ℤ pos 0 = ap (λ (t : ℤ). a *ℤ t) o in
      let u : ((b *ℤ z) +ℤ (neg_ℤ b *ℤ w)) +ℤ r ≡ pos 0 = omega (arith, ints, e, q, c) in
      let t : unsigned_abs ((b *ℤ z) +ℤ (neg_ℤ b *ℤ w)) ≡ unsigned_abs r = abs-opposite ((b *ℤ z) +ℤ (neg_ℤ b *ℤ w)) r u in
      omega (arith, p, t, small, inside)

second-range-apart : (v : Atom → ℤ) (s : Survey) (f : Form) → ¬ ((v (iter One) ≡ v (iter Two)) × (v (iter2 One) ≡ v (iter2 Two))) →
    ((side : Side) (l : ℕ) (r : KnownRange) → range_of s.ranges l ≡ Some r → (r.least ≤ℤ v (inner side l)) × (v (inner side l) ≤ℤ (r.least +ℤ pos r.width))) →
    ((side : Side) (m : ℕ) → s.second ≡ Some m → (pos 0 ≤ℤ v (iter2 side)) × (v (iter2 side) ≤ℤ pos m)) →
    IsSecondRange s.ranges s.second f → ¬ (value v f ≡ pos 0)
second-range-apart v s f n ranges second h e =
    let B = (h.b *ℤ v (iter2 One)) +ℤ (neg_ℤ h.b *ℤ v (iter2 Two)) in
    let w = within-total v s.ranges (by_second_iterations h.b no_terms) h.rest h.low h.high ranges h.within in
    let r = (h.constant +ℤ total v h.rest) -ℤ ((h.b *ℤ v (iter2 One)) +ℤ (neg_ℤ h.b *ℤ v (iter2 Two))) in
    let one = second One h.m h.second_is in
    let two = second Two h.m h.second_is in
    two-apart h.a h.b (v (iter One)) (v (iter Two)) (v (iter2 One)) (v (iter2 Two)) ((h.constant +ℤ total v h.rest) -ℤ ((h.b *ℤ v (iter2 One)) +ℤ (neg_ℤ h.b *ℤ v (iter2 Two)))) h.m
    (max (unsigned_abs (h.constant +ℤ h.low)) (unsigned_abs (h.constant +ℤ h.high))) n
    (gap-bound (v (iter2 One)) (v (iter2 Two)) h.m one.0 one.1 two.0 two.1)
    (size-bound ((h.constant +ℤ total v h.rest) -ℤ ((h.b *ℤ v (iter2 One)) +ℤ (neg_ℤ h.b *ℤ v (iter2 Two)))) (h.constant +ℤ h.low) (h.constant +ℤ h.high) (omega (arith, ints, w.0)) (omega (arith, ints, w.1)))
    h.inner_less h.outer_less
    (let x : ((h.a *ℤ v (iter One)) +ℤ (neg_ℤ h.a *ℤ v (iter Two))) +ℤ (h.constant +ℤ total v h.rest) ≡ pos 0 = sym (apart-worth v h.constant h.a (iter One) (iter Two) h.rest) ∙ sym (ap (value v) h.is) ∙ e in
    omega (arith, ints, x))

distinct-apart : (b : Bool) (v : Atom → ℤ) (all : List Form) (l : ℕ) (m : Option ℕ) → DifferentIterations b v → Zeros v all → ClosesDistinct b all l m → ⊥
distinct-apart false v all l None n z h = alone-apart v h.2.0 (iter One) (iter Two) h.0 n h.2.1 h.2.2 (zero-numbered v all l h.0 z h.1)
distinct-apart false v all l (Some m) n z h = absurd h
distinct-apart true v all l None n z h = absurd h
distinct-apart true v all l (Some m) n z h =
    by-difference (unsigned_abs (v (iter One) -ℤ v (iter Two))) (v (iter One)) (v (iter Two)) refl
    (λ same. alone-apart v h.5.0 (iter2 One) (iter2 Two) h.1 (λ e. n (same, e)) h.5.1 h.5.2 (zero-numbered v all m h.1 z h.3))
    (λ other. alone-apart v h.4.0 (iter One) (iter Two) h.0 other h.4.1 h.4.2 (zero-numbered v all l h.0 z h.2))

ranged-apart : (b : Bool) (v : Atom → ℤ) (s : Survey) (f : Form) → DifferentIterations b v →
    ((side : Side) (l : ℕ) (r : KnownRange) → range_of s.ranges l ≡ Some r → (r.least ≤ℤ v (inner side l)) × (v (inner side l) ≤ℤ (r.least +ℤ pos r.width))) →
    ((side : Side) (m : ℕ) → s.second ≡ Some m → (pos 0 ≤ℤ v (iter2 side)) × (v (iter2 side) ≤ℤ pos m)) →
    ClosesRange b s f → ¬ (value v f ≡ pos 0)
ranged-apart false v s f n ranges second h = range-apart v s f n ranges h
ranged-apart true v s f n ranges second h = second-range-apart v s f n ranges second h

fact-apart : (v : Atom → ℤ) (s : Survey) (p : KnownPair) (all : List Form) (n : ℕ) (ls : List ℕ) → IsSurvey s → Respects v s p → Zeros v all → IsFact s p all n ls → ⊥
fact-apart v s p all n ls y g z h =
    let w = facts-have-forms s y n h.known h.is in
    let zs : Zeros v (differences w.ones w.twos) = subst (Zeros v) w.differences_are (lines-zeros v all ls h.known.differences z h.lines) in
    g.facts n h.known w.ones w.twos h.is h.serving w.first w.second (same-from-zeros v w.ones w.twos w.one_rank zs)

closes-apart : (v : Atom → ℤ) (s : Survey) (p : KnownPair) (all : List Form) (c : Close) → IsSurvey s → Respects v s p → Zeros v all → Closes s p all c → ⊥
closes-apart v s p all (distinct l m) y g z h = distinct-apart (is_nested p) v all l m g.iterations z h
closes-apart v s p all (residue l) y g z h = residue-apart v h.0 h.2 (zero-numbered v all l h.0 z h.1)
closes-apart v s p all (range l) y g z h = ranged-apart (is_nested p) v s h.0 g.iterations g.ranges g.second h.2 (zero-numbered v all l h.0 z h.1)
closes-apart v s p all (fact n ls) y g z h = fact-apart v s p all n ls y g z h

-- an accepted derivation shows that the pair is disjoint
pub accepted-disjoint : (s : Survey) (p : KnownPair) (f g : Forms) (d : Derived) → IsSurvey s → IsPairOf s p f g → Accepted s p d → Disjoint s p f g
accepted-disjoint s p f g d y o h v r same =
    let z : Zeros v p.differences = subst (Zeros v) (sym o.differences_are) (zeros-differences v f g same) in
    closes-apart v s p h.0 d.close y r (all-zero v s p [] d.lines h.0 y r.congruent z tt h.1) h.2
