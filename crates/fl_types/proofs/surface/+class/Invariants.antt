use Rattle.std.proofs.Common.{◌≡◌, drop}
use Rattle.fl_ast.specs.Tree.{stmt_trees, arm_trees}
use Rattle.fl_types.specs.Surface.{class_within_all, class_within_arms}
use Rattle.fl_types.proofs.surface.+class.Given as goal

-- those that are left answer as all do
abbrev pub invariant-class_within_all-loop-stmt : goal.invariant-class_within_all-loop-stmt
invariant-class_within_all-loop-stmt l = class_within_all l.wanted l.name (stmt_trees (drop l.stmt-index l.stmts)) ≡ class_within_all l.wanted l.name (stmt_trees l.stmts)

-- those that are left answer as all do
abbrev pub invariant-class_within_arms-loop-arm : goal.invariant-class_within_arms-loop-arm
invariant-class_within_arms-loop-arm l = class_within_arms l.wanted l.name (arm_trees (drop l.arm-index l.arms)) ≡ class_within_arms l.wanted l.name (arm_trees l.arms)
