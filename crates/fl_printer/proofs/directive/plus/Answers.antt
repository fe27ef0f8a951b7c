use Rattle.fl_printer.proofs.Lists.{four}
use Rattle.fl_printer.proofs.directive.plus.Goals as goal

pub returns : goal.returns
returns c = four _ _ _ _ _ _ _ _ _ c.in_ok-apart.ensures c.in_ok-joined.ensures c.in_ok-joined-2.ensures c.in_ok-joined-3.ensures
