use Rattle.std.proofs.Common.{◌≡◌, drop}
use Rattle.fl_ast.specs.Tree.{expr_trees}
use Rattle.typing.specs.Firsts.{first_in_subscripts, first_in_arguments}
use Rattle.typing.specs.Views.{around_of}
use Rattle.typing.proofs.walk.+walk.Given as goal

-- those that are left answer as all do
abbrev pub invariant-in_subscripts-loop-i : goal.invariant-in_subscripts-loop-i
invariant-in_subscripts-loop-i l =
    first_in_subscripts l.program (around_of l.around) l.ends (expr_trees (drop l.i l.exprs)) ≡ first_in_subscripts l.program (around_of l.around) l.ends (expr_trees l.exprs)

-- those that are left answer as all do
abbrev pub invariant-in_arguments-loop-i : goal.invariant-in_arguments-loop-i
invariant-in_arguments-loop-i l =
    first_in_arguments l.program (around_of l.around) l.ends (expr_trees (drop l.i l.exprs)) ≡ first_in_arguments l.program (around_of l.around) l.ends (expr_trees l.exprs)
