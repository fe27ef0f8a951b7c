use Rattle.std.proofs.Common.{rules}
use Rattle.fl_printer.proofs.Units.{program_lexed}
use Rattle.fl_printer.proofs.unit.print.Goals as goal

pub returns-clause-lexed : goal.returns-clause-lexed
returns-clause-lexed c = λ r s. program_lexed c.args.program.now _ (search rules) r s
