-- Elements of index arrays, by the numbers of accesses.
use Rattle.std.proofs.Common.{◌≡◌, ℕ, suc, Bool, true, false, not, ◌&&◌, ◌==◌, nat_eq, length, if◌then◌else◌, List, [], ◌∷◌, Option, Some, None, refl, sym, ap, ◌∙◌, arith}
use Rattle.std.proofs.lemmas.Bool.Decides.{nat_tests}
use Rattle.fl_types.specs.declared.access.Access.{Access}
use Rattle.index_forms.specs.declared.form.Form as program_form
use Rattle.index_forms.specs.Form.{Forms}
use Rattle.index_forms.specs.Listed.{forms_seen, all_forms_seen}
use Rattle.index_knowledge.specs.Knowledge.{is_read}
use Rattle.certificate_rules.specs.Surveys.{numbered, count_of}
use Rattle.certificate_rules.specs.Tests.{is_element, element_of}
use Rattle.acceptance.proofs.NumberedItems.{mapped-some, mapped-none}

abbrev pub F : Type 0
F = List program_form.Form

not-zero : (n : ℕ) → true ≡ not (nat_eq (suc n) 0)
not-zero n = grind (arith, nat_tests)

no-length : (n : ℕ) → (suc n == 0) ≡ false
no-length n = grind (arith, nat_tests)

has-some : (fs : F) (e : Bool) → e ≡ (length fs == 0) → not e ≡ not (nat_eq (count_of (forms_seen fs)) 0)
has-some [] e h = ap not h
has-some (f ∷ fs) e h = ap not (h ∙ no-length (length fs)) ∙ not-zero (count_of (forms_seen fs))

-- whether an access is an element
pub element_not_read : (fixed : List ℕ → Bool) (a : Access) (fs : Forms) → is_read a.kind ≡ false → false ≡ is_element fixed a fs
element_not_read fixed a fs e = sym (ap (λ (b : Bool). b && (fixed a.place.name && not (nat_eq (count_of fs) 0))) e)

pub element_not_fixed : (fixed : List ℕ → Bool) (a : Access) (fs : Forms) → is_read a.kind ≡ true → fixed a.place.name ≡ false → false ≡ is_element fixed a fs
element_not_fixed fixed a fs e h = sym (ap (λ (b : Bool). b && (fixed a.place.name && not (nat_eq (count_of fs) 0))) e ∙ ap (λ (b : Bool). b && not (nat_eq (count_of fs) 0)) h)

pub element_there : (fixed : List ℕ → Bool) (a : Access) (fs : F) (e : Bool) → is_read a.kind ≡ true → fixed a.place.name ≡ true → e ≡ (length fs == 0) → not e ≡ is_element fixed a (forms_seen fs)
element_there fixed a fs e r h i =
    has-some fs e i ∙ sym (ap (λ (b : Bool). b && (fixed a.place.name && not (nat_eq (count_of (forms_seen fs)) 0))) r ∙ ap (λ (b : Bool). b && not (nat_eq (count_of (forms_seen fs)) 0)) h)

abbrev pub Rows : Type 0
Rows = List (List program_form.Form)

element-of : (fixed : List ℕ → Bool) (as' : List Access) (side : Rows) (n : ℕ) (a : Access) (fs : F) → Some a ≡ numbered as' n → Some fs ≡ numbered side n →
    element_of fixed (Some a) (Some (forms_seen fs)) ≡ element_of fixed (numbered as' n) (numbered (all_forms_seen side) n)
element-of fixed as' side n a fs e h = ap (λ (o : Option Access). element_of fixed o (Some (forms_seen fs))) e ∙ ap (element_of fixed (numbered as' n)) (mapped-some forms_seen side n fs h)

pub element_some : (fixed : List ℕ → Bool) (as' : List Access) (side : Rows) (n : ℕ) (a : Access) (fs gs : F) (x : List ℕ) → Some a ≡ numbered as' n → Some fs ≡ numbered side n →
    is_element fixed a (forms_seen fs) ≡ true → x ≡ a.place.name → gs ≡ fs → ◌≡◌ {A = Option (List ℕ × Forms)} (Some (x, forms_seen gs)) (element_of fixed (numbered as' n) (numbered (all_forms_seen side) n))
element_some fixed as' side n a fs gs x e h t i j = rw (i, j) (by_test (is_element fixed a (forms_seen fs)) t) ∙ element-of fixed as' side n a fs e h
  where
    by_test : (b : Bool) → b ≡ true → ◌≡◌ {A = Option (List ℕ × Forms)} (Some (a.place.name, forms_seen fs)) (if b then Some (a.place.name, forms_seen fs) else None)
    by_test true s = refl
    by_test false s = cc

pub element_other : (fixed : List ℕ → Bool) (as' : List Access) (side : Rows) (n : ℕ) (a : Access) (fs : F) → Some a ≡ numbered as' n → Some fs ≡ numbered side n →
    is_element fixed a (forms_seen fs) ≡ false → ◌≡◌ {A = Option (List ℕ × Forms)} None (element_of fixed (numbered as' n) (numbered (all_forms_seen side) n))
element_other fixed as' side n a fs e h t = by_test (is_element fixed a (forms_seen fs)) t ∙ element-of fixed as' side n a fs e h
  where
    by_test : (b : Bool) → b ≡ false → ◌≡◌ {A = Option (List ℕ × Forms)} None (if b then Some (a.place.name, forms_seen fs) else None)
    by_test true s = cc
    by_test false s = refl

pub element_no_forms : (fixed : List ℕ → Bool) (as' : List Access) (side : Rows) (n : ℕ) (a : Access) → Some a ≡ numbered as' n → None ≡ numbered side n →
    ◌≡◌ {A = Option (List ℕ × Forms)} None (element_of fixed (numbered as' n) (numbered (all_forms_seen side) n))
element_no_forms fixed as' side n a e h = ap (λ (o : Option Access). element_of fixed o None) e ∙ ap (element_of fixed (numbered as' n)) (mapped-none forms_seen side n h)
