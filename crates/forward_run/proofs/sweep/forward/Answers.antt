use Rattle.std.proofs.Common.{subst, List}
use Rattle.sweep_steps.specs.Steps.{Step, step_trees}
use Rattle.forward_sweep.specs.Machine.{steps_run}
use Rattle.forward_run.specs.Swept.{opening_standing, EndsAt}
use Rattle.forward_run.proofs.Ending.{forwards}
use Rattle.forward_run.proofs.sweep.forward.Goals as goal

pub returns : goal.returns
returns g c = λ p shapes pushed words o.
    let names = c.args.opened.table in
    let cells = c.args.opened.cells.items in
    forwards (λ f. record { cells = f.cells.items; tape = f.tape }) g.W.Watch.judge p shapes pushed words names (step_trees c.args.opened.body) cells c.sweep.result c.args.steps.now c.sweep.new.steps o
    (subst (λ (ss : List Step). EndsAt (λ f. record { cells = f.cells.items; tape = f.tape }) names (steps_run names (step_trees ss) (opening_standing g.W.Watch.judge names cells)) c.sweep.result c.args.steps.now c.sweep.new.steps)
    c.as_slice.ensures c.sweep.ensures)
