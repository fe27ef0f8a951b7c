use Rattle.std.proofs.Common.{◌≡◌, ◌++◌, drop, length}
use Rattle.std.specs.Prelude.{true, map}
use Rattle.fl_ast.specs.Tree.{expr_tree, expr_trees}
use Rattle.resolved.specs.ResolvedExprs.{expression_back, are_within, are_placed}
use Rattle.resolved.proofs.resolve.+resolve_names.Given as goal

abbrev pub invariant-resolve_all-loop-expr : goal.invariant-resolve_all-loop-expr
invariant-resolve_all-loop-expr l = record {
  trees : map expr_tree l.exprs ≡ map (expression_back l.layout) l.all ++ map expr_tree (drop l.expr-index l.exprs);
  within : are_within (length l.layout) l.all ≡ true;
  placed : are_placed l.layout (expr_trees l.exprs) ≡ are_placed l.layout (expr_trees (drop l.expr-index l.exprs));
}
