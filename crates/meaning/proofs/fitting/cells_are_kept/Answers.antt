use Rattle.meaning.proofs.Storing.{cells_kept}
use Rattle.meaning.proofs.fitting.cells_are_kept.Goals as goal

pub returns : goal.returns
returns c = cells_kept
