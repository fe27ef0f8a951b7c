use Rattle.typing.proofs.Lists.{few_agree, many_agree}
use Rattle.typing.proofs.kinds.differ.Goals as goal

pub returns-in_default : goal.returns-in_default
returns-in_default c = few_agree c.args.program.now.decls c.args.args.now c.in_default.len_below

pub returns-in_default-2 : goal.returns-in_default-2
returns-in_default-2 c = many_agree c.args.program.now.decls c.args.args.now c.in_default.len_at_least
