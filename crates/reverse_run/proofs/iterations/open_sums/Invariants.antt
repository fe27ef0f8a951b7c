use Rattle.std.proofs.Common.{drop}
use Rattle.reverse_sweep.specs.Machine.{opened_sums}
use Rattle.reverse_state.specs.Holding.{Leaves, on_stage}
use Rattle.reverse_run.proofs.iterations.open_sums.Given as goal

abbrev pub invariant-loop-i : goal.invariant-loop-i
invariant-loop-i g l = Leaves l.initial.run l.run (on_stage (opened_sums l.initial.run.shared (drop l.i l.reductions)))
