use Rattle.shared_law.proofs.Known.{known_transposed}
use Rattle.shared_law.proofs.laws.known_is_transposed.Goals as goal

pub returns : goal.returns
returns c = known_transposed
