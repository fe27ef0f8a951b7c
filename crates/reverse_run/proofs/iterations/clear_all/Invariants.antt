use Rattle.std.specs.Prelude.{take}
use Rattle.reverse_sweep.specs.Machine.{privates_cleared}
use Rattle.reverse_state.specs.Holding.{Leaves, on_local}
use Rattle.reverse_run.proofs.iterations.clear_all.Given as goal

abbrev pub invariant-loop-private : goal.invariant-loop-private
invariant-loop-private g l = Leaves l.initial.run l.run (on_local (privates_cleared l.initial.run.shared (take l.private-index l.privates)))
