use Rattle.meaning.proofs.Storing.{names_kept}
use Rattle.meaning.proofs.fitting.names_are_kept.Goals as goal

pub returns : goal.returns
returns c = names_kept
