use Rattle.std.proofs.Common.{◌/◌, ◌%◌}
use Rattle.forward_state.proofs.Noting.{leaves_both}
use Rattle.forward_sweep.specs.Machine.{variable_run}
use Rattle.forward_sweep.proofs.rounds.set_variables.Goals as goal

pub returns-in-None-clause-left : goal.returns-in-None-clause-left
returns-in-None-clause-left g c = rw c.in-None.is c.set_variable.ensures.left

pub returns-in-Some-clause-left : goal.returns-in-Some-clause-left
returns-in-Some-clause-left g c =
    let n = c.in-Some.inner.count in
    rw c.in-Some.is (leaves_both (variable_run c.args.place c.args.turns (c.args.iteration / n)) (variable_run c.in-Some.inner_place c.in-Some.inner (c.args.iteration % n))
    c.set_variable-in-Some.ensures.left c.set_variable-in-Some-2.ensures.left)
