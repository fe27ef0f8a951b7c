use Rattle.std.proofs.Common.{◌≡◌, ◌++◌, drop}
use Rattle.fl_ast.specs.Tree.{stmt_trees, arm_trees}
use Rattle.loop_accesses.specs.Infos.{infos_of_all, infos_of_arms}
use Rattle.loop_accesses.proofs.infos.+infos.Given as goal

-- the loops so far and those of the rest are all
abbrev pub invariant-push_infos_of_all-loop-stmt : goal.invariant-push_infos_of_all-loop-stmt
invariant-push_infos_of_all-loop-stmt l =
    l.infos ++ infos_of_all (stmt_trees (drop l.stmt-index l.stmts)) ≡ l.fn.infos ++ infos_of_all (stmt_trees l.stmts)

abbrev pub invariant-push_infos_of_arms-loop-arm : goal.invariant-push_infos_of_arms-loop-arm
invariant-push_infos_of_arms-loop-arm l =
    l.infos ++ infos_of_arms (arm_trees (drop l.arm-index l.arms)) ≡ l.fn.infos ++ infos_of_arms (arm_trees l.arms)
