use Rattle.sweep_law.proofs.Standing.{evaluated}
use Rattle.sweep_law.proofs.laws.evaluations_are_told.Goals as goal

pub returns : goal.returns
returns c = evaluated
