-- The head of the inner one of two collapsed loops, by references.
use Rattle.fl_ast.specs.Tree.{expr_tree, step_tree}
use Rattle.fl_types.specs.Nests.{Head}
use Rattle.loop_scenes.specs.declared.inner.InnerHead.{InnerHead}

abbrev pub head_seen : InnerHead → Head
head_seen h = record { line = h.line; var = h.var.now; first = expr_tree h.first.now; last = expr_tree h.last.now; step = step_tree h.step.now }
