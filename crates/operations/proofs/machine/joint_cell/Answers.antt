use Rattle.operations.proofs.OneCell.{stored_cell, added_cell}
use Rattle.operations.proofs.machine.joint_cell.Goals as goal

pub returns-clause-stored : goal.returns-clause-stored
returns-clause-stored c = stored_cell

pub returns-clause-added : goal.returns-clause-added
returns-clause-added c = added_cell
