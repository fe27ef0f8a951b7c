use Rattle.transposition.proofs.Passing.{unstopped}
use Rattle.transposition.proofs.laws.unstopped_is_calm.Goals as goal

pub returns : goal.returns
returns c = unstopped
