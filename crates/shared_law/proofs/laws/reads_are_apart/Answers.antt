use Rattle.shared_law.proofs.Programs.{reads_apart}
use Rattle.shared_law.proofs.laws.reads_are_apart.Goals as goal

pub returns : goal.returns
returns c = reads_apart
