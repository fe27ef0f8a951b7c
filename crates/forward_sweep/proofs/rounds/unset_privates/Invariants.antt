use Rattle.std.proofs.Common.{◌≡◌, take}
use Rattle.forward_state.specs.Holding.{Leaves, ticks_of}
use Rattle.forward_sweep.specs.Machine.{unset_all}
use Rattle.forward_sweep.proofs.rounds.unset_privates.Given as goal

abbrev pub invariant-loop-private : goal.invariant-loop-private
invariant-loop-private g l = record {
  so_far : Leaves l.initial.run.run l.run.run (g.W.Watch.stands_for l.initial.run.watch) (g.W.Watch.stands_for l.run.watch) (g.W.Watch.places l.initial.run.watch) (g.W.Watch.places l.run.watch) g.W.Watch.judge (unset_all (take l.private-index l.privates));
  ticks : ticks_of l.run.run ≡ ticks_of l.initial.run.run;
}
