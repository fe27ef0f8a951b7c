use Rattle.std.proofs.Common.{◌≡◌, drop}
use Rattle.fl_ast.specs.Tree.{expr_trees}
use Rattle.fl_types.specs.Kinds.{kinds_of_expressions, declared_names}
use Rattle.fl_types.specs.Rows.{any_ring}
use Rattle.typing.proofs.kinds.some_data.Given as goal

-- those that are left answer as all do
abbrev pub invariant-loop-arg : goal.invariant-loop-arg
invariant-loop-arg l =
    any_ring (kinds_of_expressions (declared_names l.program.decls) (expr_trees (drop l.arg-index l.args))) ≡ any_ring (kinds_of_expressions (declared_names l.program.decls) (expr_trees l.args))
