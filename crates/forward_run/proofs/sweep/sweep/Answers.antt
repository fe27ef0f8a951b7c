use Rattle.sweep_steps.specs.Steps.{step_trees}
use Rattle.forward_state.specs.Holding.{ticks_of}
use Rattle.forward_sweep.specs.Machine.{steps_run}
use Rattle.forward_run.specs.Swept.{opening_standing}
use Rattle.forward_run.proofs.Ending.{ends_at}
use Rattle.forward_run.proofs.sweep.sweep.Goals as goal

pub returns : goal.returns
returns g c =
    let names = c.args.table.now in
    let s = opening_standing g.W.Watch.judge names c.args.cells.items in
    ends_at (λ f. record { cells = f.cells.items; tape = f.tape }) names c.run_steps.new.run.run (g.W.Watch.stands_for c.run_steps.new.run.watch) (g.W.Watch.places c.run_steps.new.run.watch) g.W.Watch.judge
    (steps_run names (step_trees c.args.body.now) s) c.end.result c.args.steps.now c.run_steps.new.steps (ticks_of c.begin-run.result.run)
    (λ l. c.run_steps.ensures.left.leaves l s (c.begin-run.ensures.holds names)) c.begin-run.ensures.ticks c.run_steps.ensures.ticks c.end.ensures
