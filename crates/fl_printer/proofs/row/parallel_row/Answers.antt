use Rattle.fl_printer.proofs.LayoutLaws.{no_parallel}
use Rattle.fl_printer.proofs.row.parallel_row.Goals as goal

pub returns-in-None : goal.returns-in-None
returns-in-None c = no_parallel c.args.margin c.args.directive.now c.args.text.now.items c.in-None.is
