use Rattle.operations.proofs.Reached.{reached}
use Rattle.operations.proofs.machine.joint_states_are_reached.Goals as goal

pub returns : goal.returns
returns c = λ ops n cells holder at follows within starts. reached ops n holder at cells follows within starts
