use Rattle.std.proofs.Common.{◌≡◌, ◌+◌, take}
use Rattle.sweep_steps.specs.Steps.{step_trees}
use Rattle.forward_state.specs.Holding.{Leaves, ticks_of}
use Rattle.forward_sweep.specs.Machine.{turns_run, one_turn, one_iteration, steps_run}
use Rattle.forward_sweep.proofs.flow.+run.Given as goal

-- the turns so far
abbrev pub invariant-run_turns-loop-turn : goal.invariant-run_turns-loop-turn
invariant-run_turns-loop-turn g l = record {
  so_far : Leaves l.initial.run.run l.run.run (g.W.Watch.stands_for l.initial.run.watch) (g.W.Watch.stands_for l.run.watch) (g.W.Watch.places l.initial.run.watch) (g.W.Watch.places l.run.watch) g.W.Watch.judge (turns_run l.turn 0 (one_turn (steps_run l.table (step_trees l.body)) l.place l.turns));
  ticks : l.steps + ticks_of l.initial.run.run ≡ l.initial.steps + ticks_of l.run.run;
}

-- the iterations so far
abbrev pub invariant-run_iterations-loop-iteration : goal.invariant-run_iterations-loop-iteration
invariant-run_iterations-loop-iteration g l = record {
  so_far : Leaves l.initial.run.run l.run.run (g.W.Watch.stands_for l.initial.run.watch) (g.W.Watch.stands_for l.run.watch) (g.W.Watch.places l.initial.run.watch) (g.W.Watch.places l.run.watch) g.W.Watch.judge (turns_run l.iteration 0 (one_iteration (steps_run l.table (step_trees l.body)) l.place l.turns l.more l.privates));
  ticks : l.steps + ticks_of l.initial.run.run ≡ l.initial.steps + ticks_of l.run.run;
}

-- the statements so far
abbrev pub invariant-run_steps-loop-step : goal.invariant-run_steps-loop-step
invariant-run_steps-loop-step g l = record {
  so_far : Leaves l.initial.run.run l.run.run (g.W.Watch.stands_for l.initial.run.watch) (g.W.Watch.stands_for l.run.watch) (g.W.Watch.places l.initial.run.watch) (g.W.Watch.places l.run.watch) g.W.Watch.judge (steps_run l.table (step_trees (take l.step-index l.body)));
  ticks : l.steps + ticks_of l.initial.run.run ≡ l.initial.steps + ticks_of l.run.run;
}
