use Rattle.forward_law.proofs.Statements.{forward_told}
use Rattle.forward_law.proofs.laws.forward_is_told.Goals as goal

pub returns : goal.returns
returns c = forward_told
