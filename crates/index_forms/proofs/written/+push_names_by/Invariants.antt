use Rattle.std.proofs.Common.{◌≡◌, ◌++◌, drop}
use Rattle.fl_ast.specs.Tree.{stmt_trees, arm_trees}
use Rattle.index_forms.specs.Loops.{names_in, names_in_arms}
use Rattle.index_forms.proofs.written.+push_names_by.Given as goal

abbrev pub invariant-push_names_in-loop-i : goal.invariant-push_names_in-loop-i
invariant-push_names_in-loop-i l = l.names ++ names_in l.targets (stmt_trees (drop l.i l.stmts)) ≡ l.initial.names ++ names_in l.targets (stmt_trees l.stmts)

abbrev pub invariant-push_names_in_arms-loop-i : goal.invariant-push_names_in_arms-loop-i
invariant-push_names_in_arms-loop-i l = l.names ++ names_in_arms l.targets (arm_trees (drop l.i l.arms)) ≡ l.initial.names ++ names_in_arms l.targets (arm_trees l.arms)
