use Rattle.std.proofs.Common.{◌≡◌, ◌++◌, drop}
use Rattle.fl_ast.specs.Tree.{stmt_trees, arm_trees}
use Rattle.index_forms.specs.Loops.{names_in, names_in_arms}
use Rattle.loop_scenes.proofs.names.+names.Given as goal

abbrev pub invariant-push_names_in-loop-stmt : goal.invariant-push_names_in-loop-stmt
invariant-push_names_in-loop-stmt l = l.names ++ names_in l.targets (stmt_trees (drop l.stmt-index l.stmts)) ≡ l.fn.names ++ names_in l.targets (stmt_trees l.stmts)

abbrev pub invariant-push_names_in_arms-loop-arm : goal.invariant-push_names_in_arms-loop-arm
invariant-push_names_in_arms-loop-arm l = l.names ++ names_in_arms l.targets (arm_trees (drop l.arm-index l.arms)) ≡ l.fn.names ++ names_in_arms l.targets (arm_trees l.arms)
