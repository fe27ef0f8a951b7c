use Rattle.fl_printer.proofs.LayoutLaws.{directive_done}
use Rattle.fl_printer.proofs.layout.directive_row.Goals as goal

pub returns : goal.returns
returns c = directive_done c.args.margin _ c.args.words.now _ _ _ _ c.in_ok-plus.ensures c.in_ok-push_blanks.ensures c.in_ok-push_opening.ensures c.in_ok-lay.ensures
