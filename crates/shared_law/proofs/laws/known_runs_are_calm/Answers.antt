use Rattle.shared_law.proofs.Known.{known_calm}
use Rattle.shared_law.proofs.laws.known_runs_are_calm.Goals as goal

pub returns : goal.returns
returns c = known_calm
