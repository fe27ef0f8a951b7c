use Rattle.run_law.proofs.Machines.{made_machine}
use Rattle.run_law.proofs.laws.made_machine_is_transposed.Goals as goal

pub returns : goal.returns
returns c = made_machine
