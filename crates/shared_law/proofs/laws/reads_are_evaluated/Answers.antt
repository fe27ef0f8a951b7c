use Rattle.shared_law.proofs.Evaluated.{reads_evaluated}
use Rattle.shared_law.proofs.laws.reads_are_evaluated.Goals as goal

pub returns : goal.returns
returns c = reads_evaluated
