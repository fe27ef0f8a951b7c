use Rattle.std.proofs.Common.{◌≡◌, drop}
use Rattle.sweep_steps.specs.Steps.{step_arm_trees}
use Rattle.forward_state.specs.Holding.{Holds, ticks_of}
use Rattle.forward_sweep.proofs.Choosing.{Passed}
use Rattle.forward_sweep.proofs.flow.chosen_arm.Given as goal

-- the tests of the arms so far didn't hold
abbrev pub invariant-loop-number : goal.invariant-loop-number
invariant-loop-number g l = record {
  passed : Passed (λ f s. Holds f.run (g.W.Watch.stands_for f.watch) (g.W.Watch.places f.watch) g.W.Watch.judge s) (λ f. f.run.lost) l.initial.run l.run l.table (step_arm_trees l.arms) (step_arm_trees (drop l.number l.arms)) l.number;
  ticks : ticks_of l.run.run ≡ ticks_of l.initial.run.run;
}
