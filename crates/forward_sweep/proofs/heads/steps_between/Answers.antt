use Rattle.std.proofs.Common.{rules}
use Rattle.forward_sweep.proofs.heads.steps_between.Goals as goal

pub returns : goal.returns
returns c = search rules
