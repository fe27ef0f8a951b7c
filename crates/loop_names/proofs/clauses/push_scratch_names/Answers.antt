use Rattle.adjoint_rules.specs.OwnNames.{k_name, w_name, t_name}
use Rattle.loop_names.proofs.Loops.{three}
use Rattle.loop_names.proofs.clauses.push_scratch_names.Goals as goal

pub returns : goal.returns
returns c =
    three c.args.names.now c.push.new.self c.push-2.new.self c.push-3.new.self c.in_ok-of.field-0 c.in_ok-of-2.field-0 c.in_ok-of-3.field-0 k_name w_name t_name
    c.in_ok-push.ensures.ok c.in_ok-push-2.ensures.ok c.in_ok-push-3.ensures.ok c.in_ok-of.ensures c.in_ok-of-2.ensures c.in_ok-of-3.ensures
