use Rattle.std.proofs.Common.{rules}
use Rattle.reverse_run.proofs.bounds.steps_between.Goals as goal

pub returns : goal.returns
returns c = search rules
