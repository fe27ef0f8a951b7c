use Rattle.std.proofs.Common.{◌≡◌, ◌++◌, drop}
use Rattle.fl_ast.specs.Tree.{stmt_trees, arm_trees}
use Rattle.adjoint_rules.specs.Clauses.{loop_numbers_in, loop_numbers_in_arms}
use Rattle.loop_names.proofs.numbers.+numbers.Given as goal

-- those so far and those of the rest are all
abbrev pub invariant-push_numbers_in-loop-stmt : goal.invariant-push_numbers_in-loop-stmt
invariant-push_numbers_in-loop-stmt l = l.numbers ++ loop_numbers_in (stmt_trees (drop l.stmt-index l.stmts)) ≡ l.fn.numbers ++ loop_numbers_in (stmt_trees l.stmts)

abbrev pub invariant-push_numbers_in_arms-loop-arm : goal.invariant-push_numbers_in_arms-loop-arm
invariant-push_numbers_in_arms-loop-arm l = l.numbers ++ loop_numbers_in_arms (arm_trees (drop l.arm-index l.arms)) ≡ l.fn.numbers ++ loop_numbers_in_arms (arm_trees l.arms)
