use Rattle.fl_printer.proofs.LayoutLaws.{two}
use Rattle.fl_printer.proofs.astmt.assign.Goals as goal

pub returns : goal.returns
returns c = two _ _ _ _ _ c.in_ok-atomic_row.ensures c.in_ok-assign_row.ensures
