use Rattle.meaning.proofs.TrapProofs.{traps_told}
use Rattle.meaning.proofs.laws.traps_are_told.Goals as goal

pub returns : goal.returns
returns c = traps_told
