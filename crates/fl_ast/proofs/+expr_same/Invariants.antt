use Rattle.std.proofs.Common.{◌≡◌, drop}
use Rattle.fl_ast.specs.Tree.{expr_trees}
use Rattle.fl_ast.specs.Same.{same_expressions}
use Rattle.fl_ast.proofs.+expr_same.Given as goal

abbrev pub invariant-same::same_exprs-loop-i : goal.invariant-same::same_exprs-loop-i
invariant-same::same_exprs-loop-i l =
    same_expressions (expr_trees l.one) (expr_trees l.other) ≡ same_expressions (expr_trees (drop l.i l.one)) (expr_trees (drop l.i l.other))
