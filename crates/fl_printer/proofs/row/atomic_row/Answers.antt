use Rattle.fl_printer.proofs.LayoutLaws.{no_atomic}
use Rattle.fl_printer.proofs.row.atomic_row.Goals as goal

pub returns-then-not-atomic : goal.returns-then-not-atomic
returns-then-not-atomic c = no_atomic c.args.margin c.args.atomic c.args.text.now.items c.if-not-atomic.true
