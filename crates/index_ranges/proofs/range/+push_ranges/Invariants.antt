use Rattle.std.proofs.Common.{◌≡◌, ◌++◌, drop}
use Rattle.fl_ast.specs.Tree.{stmt_trees, arm_trees}
use Rattle.index_ranges.specs.Ranges.{ranges_in, ranges_in_arms}
use Rattle.index_ranges.specs.Told.{ranges_told}
use Rattle.index_ranges.proofs.range.+push_ranges.Given as goal

abbrev pub invariant-push_ranges_in-loop-i : goal.invariant-push_ranges_in-loop-i
invariant-push_ranges_in-loop-i l = ranges_told l.ranges ++ ranges_in (stmt_trees (drop l.i l.stmts)) ≡ ranges_told l.initial.ranges ++ ranges_in (stmt_trees l.stmts)

abbrev pub invariant-push_ranges_in_arms-loop-i : goal.invariant-push_ranges_in_arms-loop-i
invariant-push_ranges_in_arms-loop-i l = ranges_told l.ranges ++ ranges_in_arms (arm_trees (drop l.i l.arms)) ≡ ranges_told l.initial.ranges ++ ranges_in_arms (arm_trees l.arms)
