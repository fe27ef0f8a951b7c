-- What a sum of forms is worth.
use Rattle.std.proofs.Common.{◌≡◌, zero, suc, ℤ, pos, negsuc, ◌+ℤ◌, ◌*ℤ◌, ◌-ℤ◌, refl, ap, arith}
use Rattle.std.proofs.lemmas.Int.{ints}
use Rattle.std.specs.declared.cmp.Ordering.{Ordering}
use Rattle.std.specs.declared.cmp.Ordering.TheVariants.{Less, Equal, Greater}
use Rattle.index_forms.specs.Form.{Atom, Form, form, Terms, no_terms, term, atom_order}
use Rattle.index_forms.specs.Sums.{total, value, kept, insert, add_scaled, plus_scaled, minus}
use Rattle.index_forms.proofs.AtomOrder.{atom-same}
use Rattle.index_forms.proofs.Ints.{sum-times, times-sum, times-assoc}

total-kept : (v : Atom → ℤ) (a : Atom) (k : ℤ) (ts : Terms) → total v (kept a k ts) ≡ (k *ℤ v a) +ℤ total v ts
total-kept v a (pos zero) ts = omega (arith, ints)
total-kept v a (pos (suc n)) ts = refl
total-kept v a (negsuc n) ts = refl

-- the three cases of an insertion
inserted : (v : Atom → ℤ) (a b : Atom) (k m : ℤ) (us more : Terms) (o : Ordering) → (o ≡ Equal → a ≡ b) → total v more ≡ (k *ℤ v a) +ℤ total v us →
    total v (elim o [ Less ↦ kept a k (term b m us) | Equal ↦ kept b (k +ℤ m) us | Greater ↦ term b m more ]) ≡ (k *ℤ v a) +ℤ ((m *ℤ v b) +ℤ total v us)
inserted v a b k m us more Less same e = total-kept v a k (term b m us)
inserted v a b k m us more Equal same e =
    let p : v a ≡ v b = ap v (same refl) in
    let q = total-kept v b (k +ℤ m) us in
    rw p (omega (arith, ints, q, sum-times k m (v b)))
inserted v a b k m us more Greater same e = omega (arith, ints, e)

pub total-insert : (v : Atom → ℤ) (a : Atom) (k : ℤ) (ts : Terms) → total v (insert a k ts) ≡ (k *ℤ v a) +ℤ total v ts
total-insert v a k no_terms = total-kept v a k no_terms
total-insert v a k (term b m us) = inserted v a b k m us (insert a k us) (atom_order a b) (atom-same a b) (total-insert v a k us)

pub total-add : (v : Atom → ℤ) (m : ℤ) (ts us : Terms) → total v (add_scaled m ts us) ≡ (m *ℤ total v ts) +ℤ total v us
total-add v m no_terms us = omega (arith, ints)
total-add v m (term a k ts) us =
    let p = total-insert v a (m *ℤ k) (add_scaled m ts us) in
    let q = total-add v m ts us in
    omega (arith, ints, p, q, times-sum m (k *ℤ v a) (total v ts), times-assoc m k (v a))

pub value-plus : (v : Atom → ℤ) (m : ℤ) (f g : Form) → value v (plus_scaled m f g) ≡ (m *ℤ value v f) +ℤ value v g
value-plus v m (form c ts) (form d us) = omega (arith, ints, total-add v m ts us, times-sum m c (total v ts))

pub value-minus : (v : Atom → ℤ) (f g : Form) → value v (minus f g) ≡ value v f -ℤ value v g
value-minus v f g = omega (arith, ints, value-plus v (negsuc 0) g f)
