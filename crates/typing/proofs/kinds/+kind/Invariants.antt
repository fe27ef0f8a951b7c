use Rattle.std.proofs.Common.{◌≡◌, drop}
use Rattle.fl_ast.specs.Tree.{expr_trees}
use Rattle.fl_types.specs.Kinds.{kinds_of_expressions, widest_kind, declared_names}
use Rattle.typing.proofs.kinds.+kind.Given as goal

-- those that are left answer as all do
abbrev pub invariant-widest-loop-arg : goal.invariant-widest-loop-arg
invariant-widest-loop-arg l =
    widest_kind (kinds_of_expressions (declared_names l.program.decls) (expr_trees (drop l.arg-index l.args))) ≡ widest_kind (kinds_of_expressions (declared_names l.program.decls) (expr_trees l.args))
