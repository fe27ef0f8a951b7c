use Rattle.std.specs.Prelude.{codes}
use Rattle.fl_ast.specs.Tree.{expr_tree, place_tree}
use Rattle.fl_printer.specs.Rows.{call_words, popped_words}
use Rattle.fl_printer.proofs.Lists.{chain}
use Rattle.fl_printer.proofs.tape.pop_words.Goals as goal

pub returns : goal.returns
returns c =
    chain c.args.line.now c.call.new.line c.popped_words.new.line (call_words (codes "formad_pop")) (popped_words (expr_tree c.args.key.now) (place_tree c.args.target.now)) c.in_ok-call.ensures c.in_ok-popped_words.ensures
