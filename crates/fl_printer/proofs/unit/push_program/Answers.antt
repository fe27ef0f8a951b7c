use Rattle.fl_printer.proofs.LayoutLaws.{three}
use Rattle.fl_printer.proofs.unit.push_program.Goals as goal

pub returns : goal.returns
returns c = three _ _ _ _ _ _ _ c.in_ok-unit_head.ensures c.in_ok-body_rows.ensures c.in_ok-last_row.ensures
