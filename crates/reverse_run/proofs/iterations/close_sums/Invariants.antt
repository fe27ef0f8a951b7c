use Rattle.std.specs.Prelude.{take}
use Rattle.reverse_sweep.specs.Machine.{closed_sums}
use Rattle.reverse_state.specs.Holding.{Leaves, on_stage}
use Rattle.reverse_run.proofs.iterations.close_sums.Given as goal

abbrev pub invariant-loop-place : goal.invariant-loop-place
invariant-loop-place g l = Leaves l.initial.run l.run (on_stage (closed_sums l.initial.run.shared (take l.place-index l.reductions)))
