use Rattle.printed_clauses.proofs.ReadDirectives.{directives_read}
use Rattle.printed_clauses.proofs.directive.printed_directives_are_read.Goals as goal

pub returns : goal.returns
returns c = record { directives = directives_read }
