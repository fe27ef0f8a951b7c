use Rattle.meaning.proofs.Entries.{entries_fit}
use Rattle.meaning.proofs.fitting.entries_fit.Goals as goal

pub returns : goal.returns
returns c = entries_fit
