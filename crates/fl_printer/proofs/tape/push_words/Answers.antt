use Rattle.std.specs.Prelude.{codes}
use Rattle.fl_ast.specs.Tree.{expr_tree}
use Rattle.fl_printer.specs.Rows.{call_words, pushed_words}
use Rattle.fl_printer.proofs.Lists.{chain}
use Rattle.fl_printer.proofs.tape.push_words.Goals as goal

pub returns : goal.returns
returns c =
    chain c.args.line.now c.call.new.line c.pushed_words.new.line (call_words (codes "formad_push")) (pushed_words (expr_tree c.args.key.now) (expr_tree c.args.value.now)) c.in_ok-call.ensures c.in_ok-pushed_words.ensures
