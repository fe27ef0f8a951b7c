use Rattle.fl_printer.proofs.LayoutLaws.{three}
use Rattle.fl_printer.proofs.unit.head_rows.Goals as goal

pub returns : goal.returns
returns c = three _ _ _ _ _ _ _ c.in_ok-subroutine_row.ensures c.in_ok-implicit_row.ensures c.in_ok-decl_rows.ensures
