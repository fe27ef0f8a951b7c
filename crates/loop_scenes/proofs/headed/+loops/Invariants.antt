use Rattle.std.proofs.Common.{◌≡◌, ◌++◌, map, drop}
use Rattle.fl_ast.specs.Tree.{stmt_trees, arm_trees}
use Rattle.loop_scenes.specs.Views.{names_around, headed_seen}
use Rattle.loop_scenes.specs.Loops.{loops_by_all, loops_by_arms}
use Rattle.loop_scenes.proofs.headed.+loops.Given as goal

-- the loops so far and those of the rest are all
abbrev pub invariant-push_loops_of_all-loop-stmt : goal.invariant-push_loops_of_all-loop-stmt
invariant-push_loops_of_all-loop-stmt l =
    map headed_seen l.loops ++ loops_by_all (names_around l.outer) (stmt_trees (drop l.stmt-index l.stmts)) ≡ map headed_seen l.fn.loops ++ loops_by_all (names_around l.outer) (stmt_trees l.stmts)

abbrev pub invariant-push_loops_of_arms-loop-arm : goal.invariant-push_loops_of_arms-loop-arm
invariant-push_loops_of_arms-loop-arm l =
    map headed_seen l.loops ++ loops_by_arms (names_around l.outer) (arm_trees (drop l.arm-index l.arms)) ≡ map headed_seen l.fn.loops ++ loops_by_arms (names_around l.outer) (arm_trees l.arms)
