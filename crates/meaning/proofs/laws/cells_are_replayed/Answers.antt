use Rattle.meaning.proofs.Replays.{cells_replayed}
use Rattle.meaning.proofs.laws.cells_are_replayed.Goals as goal

pub returns : goal.returns
returns c = cells_replayed
