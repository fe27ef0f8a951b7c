use Rattle.std.proofs.Common.{◌≡◌, drop}
use Rattle.fl_ast.specs.Tree.{expr_trees}
use Rattle.adjoint_choices.specs.Walked.{any_carries}
use Rattle.adjoint_choices.proofs.carried.+carries.Given as goal

-- those that are left answer as all do
abbrev pub invariant-any_carries-loop-expr : goal.invariant-any_carries-loop-expr
invariant-any_carries-loop-expr l = any_carries l.name (expr_trees (drop l.expr-index l.exprs)) ≡ any_carries l.name (expr_trees l.exprs)
