use Rattle.fl_printer.proofs.LayoutLaws.{two, three}
use Rattle.fl_printer.proofs.unit.push_adjoint.Goals as goal

pub returns : goal.returns
returns c = two _ _ _ _ _ c.in_ok-unit_head.ensures (three _ _ _ _ _ _ _ c.in_ok-part_rows.ensures c.in_ok-part_rows-2.ensures c.in_ok-last_row.ensures)
