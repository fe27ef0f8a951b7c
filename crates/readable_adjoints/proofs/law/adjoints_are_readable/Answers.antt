use Rattle.readable_adjoints.proofs.Whole.{readable}
use Rattle.readable_adjoints.proofs.law.adjoints_are_readable.Goals as goal

pub returns : goal.returns
returns c = readable
