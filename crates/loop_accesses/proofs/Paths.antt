-- Paths of conditions.
use Rattle.std.proofs.Common.{◌≡◌, ℕ, zero, suc, List, [], ◌∷◌, ◌++◌, refl}
use Rattle.fl_types.specs.declared.access.PathStep.{PathStep}
use Rattle.fl_types.specs.declared.access.PathStep.TheVariants.{Test}
use Rattle.fl_types.specs.Accesses.{test_path}

pub later_test : (path : List PathStep) (n m : ℕ) → (m ≡ 0 → ⊥) → path ++ Test n m ∷ [] ≡ test_path path n m
later_test path n zero h = absurd (h refl)
later_test path n (suc m) h = refl
