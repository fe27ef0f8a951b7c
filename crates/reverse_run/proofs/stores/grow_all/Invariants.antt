use Rattle.std.specs.Prelude.{take, map}
use Rattle.undo_steps.specs.UndoSteps.{growth_tree}
use Rattle.reverse_sweep.specs.Machine.{growths_run}
use Rattle.reverse_state.specs.Holding.{Leaves}
use Rattle.reverse_run.proofs.stores.grow_all.Given as goal

abbrev pub invariant-loop-growth : goal.invariant-loop-growth
invariant-loop-growth g l = Leaves l.initial.run l.run (growths_run l.table l.initial.run.shared l.adjoint (map growth_tree (take l.growth-index l.growths)))
