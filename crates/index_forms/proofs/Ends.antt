-- Orders of lists, where one list ends.
use Rattle.std.proofs.Common.{◌≡◌, ℕ, zero, suc, ◌<◌, ◌≤◌, ℤ, List, [], ◌∷◌, map, drop, length, refl, sym, ap, ◌∙◌, arith}
use Rattle.std.proofs.lemmas.List.{drop_all}
use Rattle.std.specs.declared.cmp.Ordering.TheVariants.{Less, Greater}
use Rattle.index_forms.specs.declared.form.Atom as program
use Rattle.index_forms.specs.declared.form.Form as program_form
use Rattle.index_forms.specs.Form.{name_order, terms_order, forms_order}
use Rattle.index_forms.specs.Seen.{form_tree, term_tree, terms_of, forms_of}

name-left : (m : List ℕ) (i : ℕ) → i < length m → name_order (drop i m) [] ≡ Greater
name-left [] i h = absurd (omega arith)
name-left (x ∷ m) zero h = refl
name-left (x ∷ m) (suc i) h = name-left m i (omega arith)

pub name-longer : (m n : List ℕ) (i : ℕ) → i < length m → length n ≤ i → Greater ≡ name_order (drop i m) (drop i n)
name-longer m n i h k = sym (ap (name_order (drop i m)) (drop_all i n k) ∙ name-left m i h)

name-right : (n : List ℕ) (i : ℕ) → i < length n → name_order [] (drop i n) ≡ Less
name-right [] i h = absurd (omega arith)
name-right (x ∷ n) zero h = refl
name-right (x ∷ n) (suc i) h = name-right n i (omega arith)

pub name-shorter : (m n : List ℕ) (i : ℕ) → length m ≤ i → i < length n → Less ≡ name_order (drop i m) (drop i n)
name-shorter m n i h k = sym (ap (λ (t : List ℕ). name_order t (drop i n)) (drop_all i m h) ∙ name-right n i k)

forms-left : (fs : List program_form.Form) (i : ℕ) → i < length fs → forms_order (forms_of (map form_tree (drop i fs))) (forms_of []) ≡ Greater
forms-left [] i h = absurd (omega arith)
forms-left (x ∷ fs) zero h = refl
forms-left (x ∷ fs) (suc i) h = forms-left fs i (omega arith)

pub forms-longer : (fs gs : List program_form.Form) (i : ℕ) → i < length fs → length gs ≤ i → Greater ≡ forms_order (forms_of (map form_tree (drop i fs))) (forms_of (map form_tree (drop i gs)))
forms-longer fs gs i h k = sym (ap (λ (t : List program_form.Form). forms_order (forms_of (map form_tree (drop i fs))) (forms_of (map form_tree t))) (drop_all i gs k) ∙ forms-left fs i h)

terms-left : (fs : List (program.Atom × ℤ)) (i : ℕ) → i < length fs → terms_order (terms_of (map term_tree (drop i fs))) (terms_of []) ≡ Greater
terms-left [] i h = absurd (omega arith)
terms-left (x ∷ fs) zero h = refl
terms-left (x ∷ fs) (suc i) h = terms-left fs i (omega arith)

pub terms-longer : (fs gs : List (program.Atom × ℤ)) (i : ℕ) → i < length fs → length gs ≤ i → Greater ≡ terms_order (terms_of (map term_tree (drop i fs))) (terms_of (map term_tree (drop i gs)))
terms-longer fs gs i h k = sym (ap (λ (t : List (program.Atom × ℤ)). terms_order (terms_of (map term_tree (drop i fs))) (terms_of (map term_tree t))) (drop_all i gs k) ∙ terms-left fs i h)

forms-right : (gs : List program_form.Form) (i : ℕ) → i < length gs → forms_order (forms_of []) (forms_of (map form_tree (drop i gs))) ≡ Less
forms-right [] i h = absurd (omega arith)
forms-right (x ∷ fs) zero h = refl
forms-right (x ∷ fs) (suc i) h = forms-right fs i (omega arith)

pub forms-shorter : (fs gs : List program_form.Form) (i : ℕ) → length fs ≤ i → i < length gs → Less ≡ forms_order (forms_of (map form_tree (drop i fs))) (forms_of (map form_tree (drop i gs)))
forms-shorter fs gs i h k = sym (ap (λ (t : List program_form.Form). forms_order (forms_of (map form_tree t)) (forms_of (map form_tree (drop i gs)))) (drop_all i fs h) ∙ forms-right gs i k)

terms-right : (gs : List (program.Atom × ℤ)) (i : ℕ) → i < length gs → terms_order (terms_of []) (terms_of (map term_tree (drop i gs))) ≡ Less
terms-right [] i h = absurd (omega arith)
terms-right (x ∷ fs) zero h = refl
terms-right (x ∷ fs) (suc i) h = terms-right fs i (omega arith)

pub terms-shorter : (fs gs : List (program.Atom × ℤ)) (i : ℕ) → length fs ≤ i → i < length gs → Less ≡ terms_order (terms_of (map term_tree (drop i fs))) (terms_of (map term_tree (drop i gs)))
terms-shorter fs gs i h k = sym (ap (λ (t : List (program.Atom × ℤ)). terms_order (terms_of (map term_tree t)) (terms_of (map term_tree (drop i gs)))) (drop_all i fs h) ∙ terms-right gs i k)
