-- Values under a valuation, and sums of forms.
use Rattle.std.specs.Prelude.{◌≡◌, ℕ, zero, suc, Bool, true, ◌&&◌, if◌then◌else◌, int_le, ℤ, pos, negsuc, ◌+ℤ◌, ◌*ℤ◌, List, [], ◌∷◌, Option, Some, None}
use Rattle.std.specs.declared.cmp.Ordering.TheVariants.{Less, Equal, Greater}
use Rattle.index_forms.specs.declared.difference.Extent.{Extent}
use Rattle.index_forms.specs.declared.difference.Extent.TheVariants.{Narrow, Wide}
use Rattle.index_forms.specs.Form.{Atom, read, Form, form, Terms, no_terms, term, Forms, no_forms, and_form, atom_order}

abbrev pub total : (Atom → ℤ) → Terms → ℤ
total v no_terms = pos 0
total v (term a k ts) = (k *ℤ v a) +ℤ total v ts

abbrev pub value : (Atom → ℤ) → Form → ℤ
value v (form c ts) = c +ℤ total v ts

abbrev pub values : (Atom → ℤ) → Forms → List ℤ
values v no_forms = []
values v (and_form f fs) = value v f ∷ values v fs

-- reads of one array at equal subscripts are equal
pub record Congruent (v : Atom → ℤ) : Type 0 where
  pub same_read : (name : List ℕ) (s t : Forms) → values v s ≡ values v t → v (read name s) ≡ v (read name t)

-- ---- sums and multiples
abbrev pub kept : Atom → ℤ → Terms → Terms
kept a (pos zero) ts = ts
kept a (pos (suc n)) ts = term a (pos (suc n)) ts
kept a (negsuc n) ts = term a (negsuc n) ts

-- the terms with k times a added, in order
abbrev pub insert : Atom → ℤ → Terms → Terms
insert a k no_terms = kept a k no_terms
insert a k (term b m us) = elim (atom_order a b) [
  | Less ↦ kept a k (term b m us)
  | Equal ↦ kept b (k +ℤ m) us
  | Greater ↦ term b m (insert a k us)
]

-- m times the first terms, added to the second
abbrev pub add_scaled : ℤ → Terms → Terms → Terms
add_scaled m no_terms us = us
add_scaled m (term a k ts) us = insert a (m *ℤ k) (add_scaled m ts us)

abbrev pub plus_scaled : ℤ → Form → Form → Form
plus_scaled m (form c ts) (form d us) = form ((m *ℤ c) +ℤ d) (add_scaled m ts us)

abbrev pub minus : Form → Form → Form
minus f g = plus_scaled (negsuc 0) g f

abbrev pub differences : Forms → Forms → List Form
differences no_forms gs = []
differences (and_form f fs) no_forms = []
differences (and_form f fs) (and_form g gs) = minus f g ∷ differences fs gs

-- ---- bounds on a form's numbers

-- -2^31 .. 2^31-1, or -2^62 .. 2^62
abbrev pub lies_in : Extent → ℤ → Bool
lies_in Narrow z = int_le (negsuc 2147483647) z && int_le z (pos 2147483647)
lies_in Wide z = int_le (negsuc 4611686018427387903) z && int_le z (pos 4611686018427387904)

abbrev pub all_lie_in : Extent → Terms → Bool
all_lie_in extent no_terms = true
all_lie_in extent (term a k ts) = lies_in extent k && all_lie_in extent ts

abbrev pub fits_in : Extent → Form → Bool
fits_in extent (form c ts) = lies_in extent c && all_lie_in extent ts

-- the form, where its numbers lie in the bounds
abbrev pub if_fitting : Extent → Form → Option Form
if_fitting extent f = if fits_in extent f then Some f else None

abbrev pub difference : Form → Form → Option Form
difference f g = if_fitting Wide (minus f g)
