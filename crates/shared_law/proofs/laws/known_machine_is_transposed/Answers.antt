use Rattle.shared_law.proofs.Known.{known_machine}
use Rattle.shared_law.proofs.laws.known_machine_is_transposed.Goals as goal

pub returns : goal.returns
returns c = known_machine
