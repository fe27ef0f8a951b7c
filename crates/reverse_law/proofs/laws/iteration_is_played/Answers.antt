use Rattle.reverse_law.proofs.Reversed.{iteration_played}
use Rattle.reverse_law.proofs.laws.iteration_is_played.Goals as goal

pub returns : goal.returns
returns c = iteration_played
