use Rattle.std.proofs.Common.{◌≡◌, ◌++◌, drop}
use Rattle.fl_ast.specs.Tree.{stmt_trees, arm_trees}
use Rattle.adjoint_choices.specs.Settings.{setting_of}
use Rattle.adjoint_choices.specs.Walked.{choices_in_all, choices_in_arms}
use Rattle.adjoint_choices.proofs.choices.+choices.Given as goal

-- the choices so far and those of the rest are all
abbrev pub invariant-push_choices_in-loop-stmt : goal.invariant-push_choices_in-loop-stmt
invariant-push_choices_in-loop-stmt l =
    l.entries ++ choices_in_all (setting_of l.names) (stmt_trees (drop l.stmt-index l.stmts)) ≡ l.fn.entries ++ choices_in_all (setting_of l.names) (stmt_trees l.stmts)

-- the choices so far and those of the rest are all
abbrev pub invariant-push_choices_in_arms-loop-arm : goal.invariant-push_choices_in_arms-loop-arm
invariant-push_choices_in_arms-loop-arm l =
    l.entries ++ choices_in_arms (setting_of l.names) (arm_trees (drop l.arm-index l.arms)) ≡ l.fn.entries ++ choices_in_arms (setting_of l.names) (arm_trees l.arms)
