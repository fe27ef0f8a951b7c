use Rattle.transposition.proofs.Transposed.{answered}
use Rattle.transposition.proofs.laws.reverse_is_transposed.Goals as goal

pub returns : goal.returns
returns c = answered
