use Rattle.std.proofs.Common.{◌≡◌, drop}
use Rattle.fl_ast.specs.Tree.{stmt_trees, arm_trees}
use Rattle.fl_types.specs.Sharing.{assigns_in, assigns_in_arms}
use Rattle.adjoint_choices.proofs.assigned.+assigns.Given as goal

-- those that are left answer as all do
abbrev pub invariant-assigns_in-loop-stmt : goal.invariant-assigns_in-loop-stmt
invariant-assigns_in-loop-stmt l = assigns_in l.name (stmt_trees (drop l.stmt-index l.stmts)) ≡ assigns_in l.name (stmt_trees l.stmts)

-- those that are left answer as all do
abbrev pub invariant-assigns_in_arms-loop-arm : goal.invariant-assigns_in_arms-loop-arm
invariant-assigns_in_arms-loop-arm l = assigns_in_arms l.name (arm_trees (drop l.arm-index l.arms)) ≡ assigns_in_arms l.name (arm_trees l.arms)
