use Rattle.apart_law.proofs.Loops.{pairs_valued}
use Rattle.apart_law.proofs.laws.pairs_are_valued.Goals as goal

pub returns : goal.returns
returns c = pairs_valued
