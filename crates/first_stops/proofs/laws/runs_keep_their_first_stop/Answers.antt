use Rattle.first_stops.proofs.Keeping.{keeping}
use Rattle.first_stops.proofs.laws.runs_keep_their_first_stop.Goals as goal

pub returns : goal.returns
returns c = keeping
