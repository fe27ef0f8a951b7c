use Rattle.std.proofs.Common.{◌≡◌, drop}
use Rattle.fl_ast.specs.Tree.{stmt_trees, arm_trees}
use Rattle.typing.specs.Firsts.{first_in_statements, first_in_arms}
use Rattle.typing.specs.Views.{around_of}
use Rattle.typing.proofs.walk.+statements.Given as goal

-- those that are left answer as all do
abbrev pub invariant-in_statements-loop-stmt : goal.invariant-in_statements-loop-stmt
invariant-in_statements-loop-stmt l =
    first_in_statements l.program (around_of l.around) (stmt_trees (drop l.stmt-index l.stmts)) ≡ first_in_statements l.program (around_of l.around) (stmt_trees l.stmts)

-- those that are left answer as all do
abbrev pub invariant-in_arms-loop-arm : goal.invariant-in_arms-loop-arm
invariant-in_arms-loop-arm l =
    first_in_arms l.program (around_of l.around) l.line (arm_trees (drop l.arm-index l.arms)) ≡ first_in_arms l.program (around_of l.around) l.line (arm_trees l.arms)
