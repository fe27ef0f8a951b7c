use Rattle.meaning.proofs.LawProofs.{linear}
use Rattle.meaning.proofs.laws.tangents_are_linear.Goals as goal

pub returns : goal.returns
returns c = linear
