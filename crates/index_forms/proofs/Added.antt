-- Multiples of terms, added one by one, and numbers within bounds.
use Rattle.std.proofs.Common.{◌≡◌, ℕ, Bool, true, false, if◌then◌else◌, Some, None, zero, suc, ◌<◌, ◌^◌, ℤ, ◌*ℤ◌, unsigned_abs, List, [], ◌∷◌, map, drop, length, get_or, refl, sym, ap, ◌∙◌, arith}
use Rattle.std.proofs.lemmas.Int.{ints}
use Rattle.index_forms.specs.declared.form.Atom as program
use Rattle.index_forms.specs.Form.{Terms}
use Rattle.index_forms.specs.Seen.{atom_tree, term_tree, terms_of}
use Rattle.index_forms.specs.Sums.{insert, add_scaled, lies_in, all_lie_in}
use Rattle.index_forms.specs.declared.difference.Extent.{Extent}
use Rattle.index_forms.specs.declared.difference.Extent.TheVariants.{Narrow, Wide}
use Rattle.index_forms.proofs.TermPlaces.{drop-at}
use Rattle.index_forms.proofs.Ints.{abs-is}

abbrev pub L : Type 0
L = List (program.Atom × ℤ)

-- the items from the i-th on are added to the terms `us`
abbrev pub AddedFrom : (m : ℤ) (added : L) (us : Terms) (i : ℕ) (all : L) → Type 0
AddedFrom m added us i all = terms_of (map term_tree all) ≡ add_scaled m (terms_of (map term_tree (drop i added))) us

pub add-at : (m : ℤ) (added : L) (i : ℕ) (x : program.Atom × ℤ) (us : Terms) → i < length added → get_or added i x ≡ x →
    add_scaled m (terms_of (map term_tree (drop i added))) us ≡ insert (atom_tree x.0) (m *ℤ x.1) (add_scaled m (terms_of (map term_tree (drop (suc i) added))) us)
add-at m [] i x us h e = absurd (omega arith)
add-at m (y ∷ added) zero x us h e = ap (λ (z : program.Atom × ℤ). insert (atom_tree z.0) (m *ℤ z.1) (add_scaled m (terms_of (map term_tree added)) us)) e
add-at m (y ∷ added) (suc i) x us h e = add-at m added i x us (omega arith) e

pub further : (m : ℤ) (added all new : L) (us : Terms) (i : ℕ) (x : program.Atom × ℤ) (k : ℤ) → i < length added → get_or added i x ≡ x → k ≡ m *ℤ x.1 →
    AddedFrom m added us (suc i) all → terms_of (map term_tree new) ≡ insert (atom_tree x.0) k (terms_of (map term_tree all)) → AddedFrom m added us i new
further m added all new us i x k h e n s t =
    t ∙ ap (insert (atom_tree x.0) k) s ∙ ap (λ (z : ℤ). insert (atom_tree x.0) z (add_scaled m (terms_of (map term_tree (drop (suc i) added))) us)) n ∙ sym (add-at m added i x us h e)

pub pair-same : (a b : program.Atom) (k m : ℤ) → a ≡ b → k ≡ m → ◌≡◌ {A = program.Atom × ℤ} (a, k) (b, m)
pair-same a b k m e f = cc

pub fitting-some : (b : Bool) (k n : ℤ) → (if b then Some k else None) ≡ Some n → (b ≡ true) × (k ≡ n)
fitting-some true k n e = (refl, (let i = e in cc))
fitting-some false k n e = cc

lies-narrow : (z : ℤ) → lies_in Narrow z ≡ true → unsigned_abs z < 2 ^ 63
lies-narrow z e = grind (arith, ints, abs-is z)

lies-wide : (z : ℤ) → lies_in Wide z ≡ true → unsigned_abs z < 2 ^ 63
lies-wide z e = grind (arith, ints, abs-is z)

pub lies-small : (x : Extent) (z : ℤ) → lies_in x z ≡ true → unsigned_abs z < 2 ^ 63
lies-small Narrow z e = lies-narrow z e
lies-small Wide z e = lies-wide z e

pub lying-front : (x : Extent) (ts : L) (i : ℕ) (t : program.Atom × ℤ) → i < length ts → get_or ts i t ≡ t → lies_in x t.1 ≡ true →
    all_lie_in x (terms_of (map term_tree (drop i ts))) ≡ all_lie_in x (terms_of (map term_tree (drop (suc i) ts)))
lying-front x ts i t h e l = rw (drop-at ts i t h e, l) refl

pub stray-front : (x : Extent) (ts : L) (i : ℕ) (t : program.Atom × ℤ) → i < length ts → get_or ts i t ≡ t → lies_in x t.1 ≡ false →
    all_lie_in x (terms_of (map term_tree (drop i ts))) ≡ false
stray-front x ts i t h e l = rw (drop-at ts i t h e, l) refl
