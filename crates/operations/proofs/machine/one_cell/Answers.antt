use Rattle.operations.proofs.OpLaws.{read_other}
use Rattle.operations.proofs.OneCell.{own_cell, cell_after_all, joint_cell}
use Rattle.operations.proofs.machine.one_cell.Goals as goal

pub returns-clause-own : goal.returns-clause-own
returns-clause-own c = own_cell

pub returns-clause-other : goal.returns-clause-other
returns-clause-other c = λ o xs p ne. read_other o p xs ne

pub returns-clause-all : goal.returns-clause-all
returns-clause-all c = cell_after_all

pub returns-clause-joint : goal.returns-clause-joint
returns-clause-joint c = joint_cell
