use Rattle.std.proofs.Common.{◌≡◌, drop}
use Rattle.fl_ast.specs.Tree.{stmt_trees, arm_trees}
use Rattle.adjoint_choices.specs.Settings.{kinds_of_names}
use Rattle.adjoint_choices.specs.Walked.{carried_in, carried_in_arms}
use Rattle.adjoint_choices.proofs.carried.+carried.Given as goal

-- those that are left answer as all do
abbrev pub invariant-is_carried_in-loop-stmt : goal.invariant-is_carried_in-loop-stmt
invariant-is_carried_in-loop-stmt l = carried_in (kinds_of_names l.names) l.name (stmt_trees (drop l.stmt-index l.stmts)) ≡ carried_in (kinds_of_names l.names) l.name (stmt_trees l.stmts)

-- those that are left answer as all do
abbrev pub invariant-is_carried_in_arms-loop-arm : goal.invariant-is_carried_in_arms-loop-arm
invariant-is_carried_in_arms-loop-arm l = carried_in_arms (kinds_of_names l.names) l.name (arm_trees (drop l.arm-index l.arms)) ≡ carried_in_arms (kinds_of_names l.names) l.name (arm_trees l.arms)
