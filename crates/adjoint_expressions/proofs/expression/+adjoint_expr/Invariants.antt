use Rattle.adjoint_expressions.proofs.expression.+adjoint_expr.Given as goal

abbrev pub decreases-adjoint_expr : goal.decreases-adjoint_expr
decreases-adjoint_expr l = l.brackets
