use Rattle.std.proofs.Common.{◌≡◌, drop}
use Rattle.fl_ast.specs.Tree.{stmt_trees, arm_trees}
use Rattle.fl_types.specs.Sharing.{varies_in, varies_in_arms}
use Rattle.reversal.proofs.class.+varies.Given as goal

abbrev pub invariant-varies_in-loop-stmt : goal.invariant-varies_in-loop-stmt
invariant-varies_in-loop-stmt l = varies_in l.name (stmt_trees l.stmts) ≡ varies_in l.name (stmt_trees (drop l.stmt-index l.stmts))

abbrev pub invariant-varies_in_arms-loop-arm : goal.invariant-varies_in_arms-loop-arm
invariant-varies_in_arms-loop-arm l = varies_in_arms l.name (arm_trees l.arms) ≡ varies_in_arms l.name (arm_trees (drop l.arm-index l.arms))
