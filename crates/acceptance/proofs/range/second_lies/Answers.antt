use Rattle.acceptance.proofs.InnerRuns.{second_longer}
use Rattle.acceptance.proofs.range.second_lies.Goals as goal

pub returns-else-is_empty : goal.returns-else-is_empty
returns-else-is_empty c = second_longer c.args.size c.args.a c.args.second c.args.iterations c.in-Some-second.m c.in-Some.b c.in-Some.rest c.is_empty.result c.in-Some.is c.in-Some-second.is c.if-is_empty.false c.is_empty.ensures
