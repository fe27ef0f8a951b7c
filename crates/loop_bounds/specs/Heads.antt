-- The rules' head of a loop that a head of the code stands for.
use Rattle.fl_ast.specs.Tree.{Expression, binary, expr_tree, step_tree}
use Rattle.fl_ast.specs.declared.kind.BinOp.TheVariants as op
use Rattle.adjoint_rules.specs.Bounds as rules
use Rattle.loop_bounds.specs.declared.head.LoopHead.{LoopHead}

abbrev pub head_of : LoopHead → rules.LoopHead
head_of h = record {
  line = h.line;
  number = h.number;
  var = h.var.now;
  first = expr_tree h.first.now;
  last = expr_tree h.last.now;
  step = step_tree h.step.now;
}

-- `((hi-lo)+by)/by`
abbrev pub quotient : rules.LoopHead → Expression
quotient h = binary op.Div (binary op.Add (binary op.Sub (rules.hi h) (rules.lo h)) (rules.by h)) (rules.by h)
