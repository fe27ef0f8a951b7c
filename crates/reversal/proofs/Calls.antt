-- The arguments of a call in an adjoint.
use Rattle.std.proofs.Common.{◌≡◌, List, [], ◌∷◌, map, refl, ap, ◌∙◌}
use Rattle.fl_ast.specs.declared.expr.Expr.{Expr}
use Rattle.fl_ast.specs.declared.adjoint.AExpr.{AExpr}
use Rattle.fl_ast.specs.Tree.{expr_tree, expr_trees}
use Rattle.fl_ast.specs.AdjointTree.{AdjointExpression, aexpr_tree, aexpr_trees, adjoint_expressions_of, adjoint_expression}
use Rattle.adjoint_rules.specs.Expressions.{in_adjoint, all_in_adjoint}

abbrev pub in_adjoint_of : Expr → AdjointExpression
in_adjoint_of e = in_adjoint (expr_tree e)

each : (es : List Expr) → adjoint_expressions_of (map in_adjoint_of es) ≡ all_in_adjoint (expr_trees es)
each [] = refl
each (e ∷ es) = ap (adjoint_expression (in_adjoint (expr_tree e))) (each es)

pub finished : (all : List AExpr) (es : List Expr) → map aexpr_tree all ≡ map in_adjoint_of es → aexpr_trees all ≡ all_in_adjoint (expr_trees es)
finished all es e = ap adjoint_expressions_of e ∙ each es
