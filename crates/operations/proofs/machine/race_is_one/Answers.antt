use Rattle.operations.proofs.OneCell.{one_race}
use Rattle.operations.proofs.machine.race_is_one.Goals as goal

pub returns : goal.returns
returns c = one_race
