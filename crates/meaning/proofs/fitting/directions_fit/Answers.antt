use Rattle.meaning.proofs.Entries.{directions_fit}
use Rattle.meaning.proofs.fitting.directions_fit.Goals as goal

pub returns : goal.returns
returns c = directions_fit
