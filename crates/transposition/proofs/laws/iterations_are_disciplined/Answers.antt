use Rattle.transposition.proofs.Orderly.{orderly_loop}
use Rattle.transposition.proofs.laws.iterations_are_disciplined.Goals as goal

pub returns : goal.returns
returns c = orderly_loop
