use Rattle.reverse_law.proofs.Reversed.{reverse_played}
use Rattle.reverse_law.proofs.laws.reverse_is_played.Goals as goal

pub returns : goal.returns
returns c = reverse_played
