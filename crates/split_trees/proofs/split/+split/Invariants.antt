use Rattle.std.proofs.Common.{◌≡◌, ◌++◌, drop, length}
use Rattle.std.specs.Prelude.{true, map}
use Rattle.resolved.specs.ResolvedExprs.{expression_back, expressions_back, are_within}
use Rattle.sweep_trees.specs.Split.{index_tree, index_trees}
use Rattle.sweep_trees.specs.Standing.{index_back, are_indices_fit}
use Rattle.split_trees.specs.Codes.{are_index_expressions}
use Rattle.split_trees.proofs.split.+split.Given as goal

abbrev pub invariant-split_subscripts-loop-expr : goal.invariant-split_subscripts-loop-expr
invariant-split_subscripts-loop-expr l = record {
  trees : map (expression_back l.table.0) l.exprs ≡ map (λ code. index_back l.table.0 (index_tree code)) l.all ++ map (expression_back l.table.0) (drop l.expr-index l.exprs);
  fit : are_indices_fit l.table l.accessed (index_trees l.all) ≡ true;
  within : are_within (length l.table.0) (drop l.expr-index l.exprs) ≡ true;
  kinded : are_index_expressions l.table (expressions_back l.table.0 (drop l.expr-index l.exprs)) ≡ true;
}
