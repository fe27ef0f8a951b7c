use Rattle.asked_adjoints.proofs.Whole.{asked}
use Rattle.asked_adjoints.proofs.law.asked_adjoints_are_readable.Goals as goal

pub returns : goal.returns
returns c = asked
