use Rattle.std.proofs.Common.{drop}
use Rattle.undo_steps.specs.UndoSteps.{undo_trees}
use Rattle.reverse_sweep.specs.Machine.{undos_run, turn_undone, iterations_undone, iteration_undone}
use Rattle.reverse_state.specs.Holding.{Leaves}
use Rattle.reverse_run.specs.Undoing.{counts_back, Works}
use Rattle.reverse_run.proofs.Turning.{IsLeft}
use Rattle.reverse_run.proofs.statements.+undoing.Given as goal

-- the turns that are left lead on
abbrev pub invariant-undo_each_turn-loop-k : goal.invariant-undo_each_turn-loop-k
invariant-undo_each_turn-loop-k g l = IsLeft l.initial.run l.run l.k l.turns.count (λ n. turn_undone n l.place l.turns (undos_run l.table n (undo_trees l.body)))

-- the iterations so far
abbrev pub invariant-undo_iterations-loop-k : goal.invariant-undo_iterations-loop-k
invariant-undo_iterations-loop-k g l = Works l.initial.run l.run (λ m. iterations_undone l.k (iteration_undone l.initial.run.shared l.privates l.reductions (counts_back l.rounds) m.tapes (undos_run l.table l.initial.run.shared (undo_trees l.body)) m.entry))

-- the statements that are done
abbrev pub invariant-undo_all-loop-i : goal.invariant-undo_all-loop-i
invariant-undo_all-loop-i g l = Leaves l.initial.run l.run (undos_run l.table l.initial.run.shared (undo_trees (drop l.i l.steps)))
