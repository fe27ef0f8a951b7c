use Rattle.op_table.proofs.Alone.{same_lists, same_position, at_end}
use Rattle.op_table.proofs.laws.other_chunks_stay.Goals as goal

pub returns-clause-listed : goal.returns-clause-listed
returns-clause-listed c = same_lists

pub returns-clause-positions : goal.returns-clause-positions
returns-clause-positions c = same_position

pub returns-clause-end : goal.returns-clause-end
returns-clause-end c = at_end
