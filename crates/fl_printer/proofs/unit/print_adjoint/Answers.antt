use Rattle.std.proofs.Common.{rules}
use Rattle.fl_printer.proofs.AdjointUnits.{adjoint_lexed}
use Rattle.fl_printer.proofs.unit.print_adjoint.Goals as goal

pub returns-clause-lexed : goal.returns-clause-lexed
returns-clause-lexed c = λ r s. adjoint_lexed c.args.adjoint.now _ (search rules) r s
