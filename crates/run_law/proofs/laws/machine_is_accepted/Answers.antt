use Rattle.run_law.proofs.Machines.{machine_accepted}
use Rattle.run_law.proofs.laws.machine_is_accepted.Goals as goal

pub returns : goal.returns
returns c = machine_accepted
