use Rattle.std.proofs.Common.{◌≡◌, drop}
use Rattle.fl_ast.specs.Tree.{stmt_trees, arm_trees}
use Rattle.fl_types.specs.Sharing.{varies_in, varies_in_arms}
use Rattle.fl_types.proofs.surface.+varies.Given as goal

-- those that are left answer as all do
abbrev pub invariant-varies_in-loop-stmt : goal.invariant-varies_in-loop-stmt
invariant-varies_in-loop-stmt l = varies_in l.name (stmt_trees (drop l.stmt-index l.stmts)) ≡ varies_in l.name (stmt_trees l.stmts)

-- those that are left answer as all do
abbrev pub invariant-varies_in_arms-loop-arm : goal.invariant-varies_in_arms-loop-arm
invariant-varies_in_arms-loop-arm l = varies_in_arms l.name (arm_trees (drop l.arm-index l.arms)) ≡ varies_in_arms l.name (arm_trees l.arms)
