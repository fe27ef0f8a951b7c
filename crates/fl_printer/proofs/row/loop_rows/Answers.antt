use Rattle.fl_printer.proofs.LayoutLaws.{two}
use Rattle.fl_printer.proofs.row.loop_rows.Goals as goal

pub returns : goal.returns
returns c = two _ _ _ _ _ c.in_ok-parallel_row.ensures c.in_ok-do_row.ensures
