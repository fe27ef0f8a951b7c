use Rattle.meaning.proofs.LawProofs.{unseen}
use Rattle.meaning.proofs.laws.tangents_are_unseen.Goals as goal

pub returns : goal.returns
returns c = unseen
