use Rattle.printed_statements.proofs.ReadLines.{assignments_read, loops_read, guards_read}
use Rattle.printed_statements.proofs.line.printed_lines_are_read.Goals as goal

pub returns-clause-assignments : goal.returns-clause-assignments
returns-clause-assignments c = assignments_read

pub returns-clause-loops : goal.returns-clause-loops
returns-clause-loops c = loops_read

pub returns-clause-guards : goal.returns-clause-guards
returns-clause-guards c = guards_read
