use Rattle.std.specs.Prelude.{codes}
use Rattle.fl_ast.specs.Tree.{expr_tree}
use Rattle.fl_printer.specs.Rows.{call_words, opened_words}
use Rattle.fl_printer.proofs.Lists.{chain}
use Rattle.fl_printer.proofs.tape.open_words.Goals as goal

pub returns : goal.returns
returns c =
    chain c.args.line.now c.call.new.line c.opened_words.new.line (call_words (codes "formad_open")) (opened_words (expr_tree c.args.count.now)) c.in_ok-call.ensures c.in_ok-opened_words.ensures
