use Rattle.reverse_run.proofs.Flatness.{standing_flat}
use Rattle.reverse_run.proofs.laws.standing_is_flat.Goals as goal

pub returns : goal.returns
returns c = standing_flat
