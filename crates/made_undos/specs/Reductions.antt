-- The places whose adjoints each iteration of a parallel loop adds to once, by slot.
use Rattle.std.specs.Prelude.{ℕ, Bool, cond, ◌&&◌, nat_lt, List, [], ◌∷◌, ◌++◌, Option, Some, None}
use Rattle.store_core.specs.Keys.{slot_of, place_in_slot}
use Rattle.resolved.specs.SlotTables.{Names}
use Rattle.sweep_trees.specs.Standing.{is_accessed_at}
use Rattle.transposition.specs.Worlds.{is_reduction}
use Rattle.made_growths.specs.Told.{Told, choice_in}

-- the name of the slot has an adjoint that is a Reduction in the loop
abbrev pub is_reduced_in : Told → ℕ → ℕ → Bool
is_reduced_in t number slot = is_accessed_at t.active slot && is_reduction (choice_in t number slot)

-- the place where it has a cell
abbrev pub if_shared : ℕ → Option ℕ → Option ℕ
if_shared n None = None
if_shared n (Some q) = cond (nat_lt q n) (Some q) None

abbrev pub reduced_place : Names → Told → ℕ → ℕ → Option ℕ
reduced_place names t number slot = cond (is_reduced_in t number slot) (if_shared t.shared (place_in_slot names.0 slot [])) None

abbrev pub place_listed : Option ℕ → List ℕ
place_listed None = []
place_listed (Some q) = q ∷ []

abbrev pub reduction_by : Names → Told → ℕ → Option ℕ → List ℕ
reduction_by names t number None = []
reduction_by names t number (Some slot) = place_listed (reduced_place names t number slot)

abbrev pub reductions_by : Names → Told → ℕ → List (List ℕ) → List ℕ
reductions_by names t number [] = []
reductions_by names t number (x ∷ xs) = reduction_by names t number (slot_of names.0 x) ++ reductions_by names t number xs
