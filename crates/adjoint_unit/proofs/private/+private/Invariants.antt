use Rattle.std.proofs.Common.{◌≡◌, drop}
use Rattle.fl_ast.specs.Tree.{stmt_trees, arm_trees}
use Rattle.adjoint_unit.specs.Privates.{is_private_in_all, is_private_in_arms}
use Rattle.adjoint_unit.proofs.private.+private.Given as goal

-- the name is private in none so far
abbrev pub invariant-is_private_in_all-loop-stmt : goal.invariant-is_private_in_all-loop-stmt
invariant-is_private_in_all-loop-stmt l = is_private_in_all l.name (stmt_trees (drop l.stmt-index l.stmts)) ≡ is_private_in_all l.name (stmt_trees l.stmts)

abbrev pub invariant-is_private_in_arms-loop-arm : goal.invariant-is_private_in_arms-loop-arm
invariant-is_private_in_arms-loop-arm l = is_private_in_arms l.name (arm_trees (drop l.arm-index l.arms)) ≡ is_private_in_arms l.name (arm_trees l.arms)
