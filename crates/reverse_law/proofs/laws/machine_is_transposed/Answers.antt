use Rattle.reverse_law.proofs.Reversed.{machine_transposed}
use Rattle.reverse_law.proofs.laws.machine_is_transposed.Goals as goal

pub returns : goal.returns
returns c = machine_transposed
