use Rattle.operations.proofs.OneCell.{no_races}
use Rattle.operations.proofs.machine.no_race.Goals as goal

pub returns : goal.returns
returns c = no_races
