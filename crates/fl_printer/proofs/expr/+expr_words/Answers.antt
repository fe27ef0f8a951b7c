use Rattle.std.proofs.Common.{◌++◌, ap, sym, ◌∙◌}
use Rattle.fl_printer.proofs.Lists.{some_subscripts}
use Rattle.fl_printer.proofs.expr.+expr_words.Goals as goal

pub subscripts-returns : goal.subscripts-returns
subscripts-returns t c =
    c.in_ok-bracketed.ensures ∙ ap (λ ws. c.args.line.now ++ ws) (some_subscripts c.args.trees.now (sym c.is_empty.ensures ∙ c.if-is_empty.false))
