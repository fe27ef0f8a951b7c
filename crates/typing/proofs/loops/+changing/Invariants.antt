use Rattle.std.proofs.Common.{◌≡◌, drop}
use Rattle.fl_ast.specs.Tree.{expr_trees}
use Rattle.fl_types.specs.Rows.{some_names, changes_in}
use Rattle.typing.specs.Views.{region_of}
use Rattle.typing.proofs.loops.+changing.Given as goal

-- those that are left answer as all do
abbrev pub invariant-any_changing-loop-expr : goal.invariant-any_changing-loop-expr
invariant-any_changing-loop-expr l = some_names (changes_in (region_of l.region)) (expr_trees (drop l.expr-index l.exprs)) ≡ some_names (changes_in (region_of l.region)) (expr_trees l.exprs)
