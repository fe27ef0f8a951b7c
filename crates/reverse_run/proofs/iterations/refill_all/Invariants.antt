use Rattle.std.proofs.Common.{drop}
use Rattle.reverse_sweep.specs.Machine.{privates_refilled}
use Rattle.reverse_state.specs.Holding.{Leaves, on_local}
use Rattle.reverse_run.proofs.iterations.refill_all.Given as goal

abbrev pub invariant-loop-i : goal.invariant-loop-i
invariant-loop-i g l = Leaves l.initial.run l.run (on_local (privates_refilled l.initial.run.shared (drop l.i l.privates)))
