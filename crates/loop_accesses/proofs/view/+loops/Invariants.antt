use Rattle.std.proofs.Common.{◌≡◌, ◌++◌, map, drop}
use Rattle.fl_ast.specs.Tree.{stmt_trees, arm_trees}
use Rattle.fl_types.specs.Sharing.{loops_of_all, loops_of_arms}
use Rattle.loop_accesses.specs.Views.{names_in, loop_view}
use Rattle.loop_accesses.proofs.view.+loops.Given as goal

-- the loops so far and those of the rest are all
abbrev pub invariant-push_loops_of_all-loop-stmt : goal.invariant-push_loops_of_all-loop-stmt
invariant-push_loops_of_all-loop-stmt l =
    map loop_view l.loops ++ loops_of_all (names_in l.outer) (stmt_trees (drop l.stmt-index l.stmts)) ≡ map loop_view l.fn.loops ++ loops_of_all (names_in l.outer) (stmt_trees l.stmts)

abbrev pub invariant-push_loops_of_arms-loop-arm : goal.invariant-push_loops_of_arms-loop-arm
invariant-push_loops_of_arms-loop-arm l =
    map loop_view l.loops ++ loops_of_arms (names_in l.outer) (arm_trees (drop l.arm-index l.arms)) ≡ map loop_view l.fn.loops ++ loops_of_arms (names_in l.outer) (arm_trees l.arms)
