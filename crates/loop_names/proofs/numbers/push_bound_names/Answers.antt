use Rattle.adjoint_rules.specs.OwnNames.{lo_name, hi_name, by_name}
use Rattle.loop_names.proofs.Loops.{three}
use Rattle.loop_names.proofs.numbers.push_bound_names.Goals as goal

pub returns : goal.returns
returns c =
    three c.args.names.now c.push.new.self c.push-2.new.self c.push-3.new.self c.in_ok-numbered.field-0 c.in_ok-numbered-2.field-0 c.in_ok-numbered-3.field-0
    (lo_name c.args.number) (hi_name c.args.number) (by_name c.args.number)
    c.in_ok-push.ensures.ok c.in_ok-push-2.ensures.ok c.in_ok-push-3.ensures.ok c.in_ok-numbered.ensures c.in_ok-numbered-2.ensures c.in_ok-numbered-3.ensures
