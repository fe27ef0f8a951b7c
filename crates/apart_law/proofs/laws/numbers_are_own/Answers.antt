use Rattle.apart_law.proofs.Loops.{numbers_own}
use Rattle.apart_law.proofs.laws.numbers_are_own.Goals as goal

pub returns : goal.returns
returns c = numbers_own
