-- Small facts, pairs and ranges compute.
use Rattle.std.proofs.Common.{◌≡◌, ℕ, ℤ, pos, negsuc, List, [], ◌∷◌, refl}
use Rattle.std.specs.Prelude.{true, false, codes}
use Rattle.fl_types.specs.declared.access.Access.{Access}
use Rattle.fl_types.specs.declared.access.AccessKind.{AccessKind}
use Rattle.fl_types.specs.declared.access.AccessKind.TheVariants.{Read, Write}
use Rattle.fl_types.specs.declared.access.PathStep.TheVariants.{Arm, Test}
use Rattle.index_forms.specs.declared.form.Side.{Side}
use Rattle.index_forms.specs.declared.form.Side.TheVariants.{One, Two}
use Rattle.index_forms.specs.Form.{iter, Form, form, no_terms, term, Forms, no_forms, and_form}
use Rattle.index_knowledge.specs.Knowledge.{KnownFact, KnownPair, facts, pairing, pairs, serves}

abbrev accessed : ℕ → List ℕ → AccessKind → Access
accessed n x k = record { number = n; loop_number = 1; line = 6; place = record { name = x; subscripts = [] }; path = []; kind = k }

abbrev accesses : List Access
accesses = accessed 1 (codes "x") Read ∷ accessed 2 (codes "x") Read ∷ accessed 3 (codes "y") Write ∷ []

abbrev counted : ℤ → Side → Forms
counted d s = and_form (form d (term (iter s) (pos 2) no_terms)) no_forms

abbrev on_side : Side → List Forms
on_side s = counted (pos 1) s ∷ counted (pos 2) s ∷ counted (pos 1) s ∷ []

-- between two iterations, with a constant
abbrev apart : ℤ → Form
apart d = form d (term (iter One) (pos 2) (term (iter Two) (negsuc 1) no_terms))

-- y(i) = x(i)*x(i+1) with the step 2: one fact, of the third access with itself
stride : facts accesses (on_side One) (on_side Two) ≡ record { number = 1; first = 3; second = 3; differences = apart (pos 0) ∷ [] } ∷ []
stride = refl

abbrev pair : ℕ → ℕ → ℤ → KnownPair
pair m n d = record { loop_number = 1; first = m; second = n; differences = apart d ∷ []; nest = 1 }

-- and three pairs of x
stride_pairs : pairs (pairing 1 1 (codes "x")) (true ∷ true ∷ false ∷ []) accesses (on_side One) (on_side Two) ≡ pair 1 1 (pos 0) ∷ pair 1 2 (negsuc 0) ∷ pair 2 2 (pos 0) ∷ []
stride_pairs = refl

-- a read that isn't in a right side is in no pair
in_a_condition : pairs (pairing 1 1 (codes "x")) (true ∷ false ∷ false ∷ []) accesses (on_side One) (on_side Two) ≡ pair 1 1 (pos 0) ∷ []
in_a_condition = refl

-- an access in an arm says nothing of what stands outside
in_an_arm : serves (Arm 1 0 ∷ []) (Arm 1 0 ∷ []) [] [] ≡ false
in_an_arm = refl

in_the_arm : serves [] (Arm 1 0 ∷ []) (Test 2 1 ∷ []) (Arm 1 0 ∷ Arm 3 1 ∷ []) ≡ true
in_the_arm = refl
