use Rattle.std.proofs.Common.{◌≡◌, drop}
use Rattle.fl_ast.specs.Tree.{expr_trees}
use Rattle.fl_ast.specs.Occurs.{occurs_in_any}
use Rattle.fl_ast.proofs.+expr_mentions.Given as goal

abbrev pub invariant-occurs::any_mentions-loop-expr : goal.invariant-occurs::any_mentions-loop-expr
invariant-occurs::any_mentions-loop-expr l = occurs_in_any l.name (expr_trees l.exprs) ≡ occurs_in_any l.name (expr_trees (drop l.expr-index l.exprs))
