-- A list of JSON values as plain data.
use Rattle.std.proofs.Common.{◌≡◌, ◌≢◌, ℕ, ◌==◌, Bool, true, false, List, [], ◌∷◌, map, length, slice_get, Option, Some, option_map, Result, refl, sym, ap, ◌∙◌, subst, eq-eqb, eqb-true}
use Rattle.std.proofs.lemmas.List.{length-map}
use Rattle.serde_json.specs.Data.{Items}
use Rattle.serde_json.specs.View.{view, items_view}
use Rattle.serde_json.specs.declared.value.Value.{Value}
use Rattle.data_io.specs.declared.data.DataError.{DataError}
use Rattle.data_io.specs.declared.data.DataError.TheVariants.{Shape}
use Rattle.fl_ast.specs.declared.decl.Decl.{Decl}
use Rattle.data_io.specs.DataFaults.{Answers, list_of, list_faults, element_faults, list_words, word_of}

pub list_of-items_view : (vs : List Value) → list_of (items_view vs) ≡ map view vs
list_of-items_view [] = refl
list_of-items_view (v ∷ vs) = ap (λ ds. view v ∷ ds) (list_of-items_view vs)

listed : (vs : List Value) (o : Option Items) → Some (items_view vs) ≡ o → Some (map view vs) ≡ option_map list_of o
listed vs o e = ap Some (sym (list_of-items_view vs)) ∙ ap (option_map list_of) e

-- a list of the right length
pub array_long : (a : Decl) (want : ℕ) (vs : List Value) (o : Option Items) (r : Result (List ℕ) DataError) → Some (items_view vs) ≡ o → length vs ≡ want
    → Answers r (element_faults a 1 (map view vs)) (map word_of (map view vs)) → Answers r (list_faults a want (option_map list_of o)) (list_words (option_map list_of o))
array_long a want vs o r e long h =
    let same : (length (map view vs) == want) ≡ true = eq-eqb _ _ (simp length-map long) in
    let faults : element_faults a 1 (map view vs) ≡ list_faults a want (Some (map view vs)) = rw same refl in
    subst (λ p. Answers r (list_faults a want p) (list_words p)) (listed vs o e) (subst (λ fs. Answers r fs (map word_of (map view vs))) faults h)

not_equal : (m n : ℕ) (b : Bool) → (m == n) ≡ b → m ≢ n → b ≡ false
not_equal m n true e h = absurd (h (eqb-true m n e))
not_equal m n false e h = refl

-- a list of another length
pub array_short : (a : Decl) (want : ℕ) (vs : List Value) (o : Option Items) → Some (items_view vs) ≡ o → length vs ≢ want
    → slice_get (list_faults a want (option_map list_of o)) 0 ≡ Some (Shape a.name want (length vs))
array_short a want vs o e other =
    let long : length (map view vs) ≡ length vs = simp length-map refl in
    let same : (length (map view vs) == want) ≡ false = not_equal (length (map view vs)) want _ refl (λ h. other (sym long ∙ h)) in
    subst (λ p. slice_get (list_faults a want p) 0 ≡ Some (Shape a.name want (length vs))) (listed vs o e) (rw same (ap (λ n. Some (Shape a.name want n)) long))
