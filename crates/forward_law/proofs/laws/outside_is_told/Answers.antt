use Rattle.forward_law.proofs.Statements.{outside_told}
use Rattle.forward_law.proofs.laws.outside_is_told.Goals as goal

pub returns : goal.returns
returns c = outside_told
