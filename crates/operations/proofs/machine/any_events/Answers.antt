use Rattle.operations.proofs.Events.{events_joint, events_end}
use Rattle.operations.proofs.machine.any_events.Goals as goal

pub returns-clause-joint : goal.returns-clause-joint
returns-clause-joint c = events_joint

pub returns-clause-end : goal.returns-clause-end
returns-clause-end c = events_end
