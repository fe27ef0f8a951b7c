use Rattle.meaning.proofs.Touching.{touches_are_accesses}
use Rattle.meaning.proofs.fitting.touches_are_accesses.Goals as goal

pub returns : goal.returns
returns c = touches_are_accesses
