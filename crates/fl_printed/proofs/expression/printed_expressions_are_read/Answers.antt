use Rattle.fl_printed.proofs.ReadExpressions.{expressions_read, subscripts_read}
use Rattle.fl_printed.proofs.ReadUpdates.{updates_read}
use Rattle.fl_printed.proofs.expression.printed_expressions_are_read.Goals as goal

pub returns-clause-expressions : goal.returns-clause-expressions
returns-clause-expressions c = expressions_read

pub returns-clause-subscripts : goal.returns-clause-subscripts
returns-clause-subscripts c = subscripts_read

pub returns-clause-updates : goal.returns-clause-updates
returns-clause-updates c = updates_read
