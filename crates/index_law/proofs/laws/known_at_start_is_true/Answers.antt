use Rattle.index_law.proofs.Starts.{known_at_start_holds}
use Rattle.index_law.proofs.laws.known_at_start_is_true.Goals as goal

pub returns : goal.returns
returns c = known_at_start_holds
