-- Small sweeps, which compute.
use Rattle.std.specs.Prelude.{◌≡◌, true, false, [], ◌∷◌, Some, None, refl}
use Rattle.fl_types.specs.declared.choice.Choice.TheVariants.{Shared, Atomic, Reduction}
use Rattle.resolved.specs.SlotTables.{Names}
use Rattle.sweep_trees.specs.Split.{SpotTree, scalar, word}
use Rattle.transposition.specs.Tapes.{Tape, empty, many, none, more}
use Rattle.transposition.specs.Tapes.{word as on_top}
use Rattle.undo_steps.specs.UndoSteps.{GrowthTree, operand_factor, undo_plain, undo_increment, back_iterations, UndoTree, undo_store, undo_choice, undo_loop, UndoTrees, no_undos, undos, undo_arm, no_undo_arms}
use Rattle.reverse_run.specs.Undoing.{are_flat, swept_back, swept_adds}

abbrev only : UndoTree → UndoTrees
only u = undos u no_undos

abbrev parallel : UndoTrees → UndoTree
parallel us = undo_loop (back_iterations (None ∷ []) [] []) us

-- a parallel loop in another, and a sum at a place that isn't shared
nested : are_flat 2 false (only (parallel (only (parallel no_undos)))) ≡ false
nested = refl

alone : are_flat 2 false (undos (parallel no_undos) (only (parallel no_undos))) ≡ true
alone = refl

unshared : are_flat 2 false (only (undo_loop (back_iterations (None ∷ []) [] (2 ∷ [])) no_undos)) ≡ false
unshared = refl

abbrev x : SpotTree
x = scalar 0 0 false

abbrev y : SpotTree
y = scalar 1 1 false

-- the old content comes from the tape
restoring : (names : Names) → swept_back names 1 (only (undo_store (undo_plain x true None))) (on_top 7 empty) 0 (3 ∷ 0 ∷ []) ≡ 7 ∷ 0 ∷ []
restoring names = refl

abbrev tripled : GrowthTree
tripled = record { place = x; negative = false; choice = Shared; factors = operand_factor (word 3) ∷ [] }

-- what undoes y = 3 * x moves three times the adjoint of y
moving : (names : Names) → swept_back names 2 (only (undo_store (undo_plain y false (Some (tripled ∷ []))))) empty 0 (2 ∷ 6 ∷ 0 ∷ 5 ∷ []) ≡ 2 ∷ 6 ∷ 15 ∷ 0 ∷ []
moving names = refl

abbrev summed : GrowthTree
summed = record { place = x; negative = true; choice = Reduction; factors = operand_factor (word 1) ∷ [] }

-- the bounds 1, 2 and the step 1, over the tapes of two iterations
abbrev two_iterations : Tape
two_iterations = on_top 1 (on_top 2 (on_top 1 (many (more empty (more empty none)) empty)))

-- each of the two iterations adds its sum once
summing : (names : Names) → swept_back names 2 (only (undo_loop (back_iterations (None ∷ []) [] (0 ∷ [])) (only (undo_store (undo_increment y None false (Some (summed ∷ []))))))) two_iterations 0 (2 ∷ 6 ∷ 20 ∷ 5 ∷ []) ≡ 2 ∷ 6 ∷ 10 ∷ 5 ∷ []
summing names = refl

abbrev added_at_once : GrowthTree
added_at_once = record { place = x; negative = true; choice = Atomic; factors = operand_factor (word 1) ∷ [] }

-- each of the two iterations makes one atomic addition, and a sum is none
counting : (names : Names) → swept_adds names 2 (only (parallel (only (undo_store (undo_increment y None false (Some (added_at_once ∷ summed ∷ []))))))) two_iterations 0 (2 ∷ 6 ∷ 20 ∷ 5 ∷ []) ≡ 2
counting names = refl

-- the arm is the one whose number is on the tape
choosing : (names : Names) → swept_back names 1 (only (undo_choice (undo_arm no_undos (undo_arm (only (undo_store (undo_plain x true None))) no_undo_arms)) no_undos)) (on_top 1 (on_top 9 empty)) 0 (3 ∷ 0 ∷ []) ≡ 9 ∷ 0 ∷ []
choosing names = refl
