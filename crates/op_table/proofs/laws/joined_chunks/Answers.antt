use Rattle.op_table.proofs.Seats.{lists-append, position_first, position_second}
use Rattle.op_table.proofs.laws.joined_chunks.Goals as goal

pub returns-clause-listed : goal.returns-clause-listed
returns-clause-listed c = lists-append

pub returns-clause-first : goal.returns-clause-first
returns-clause-first c = position_first

pub returns-clause-second : goal.returns-clause-second
returns-clause-second c = position_second
