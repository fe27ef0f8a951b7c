use Rattle.std.proofs.Common.{◌≡◌, ◌++◌, drop}
use Rattle.std.specs.List.{flat_map}
use Rattle.fl_ast.specs.Tree.{stmt_trees}
use Rattle.adjoint_choices.specs.Settings.{setting_of}
use Rattle.adjoint_choices.specs.Walked.{choices_at}
use Rattle.adjoint_choices.proofs.choices.push_loop_choices.Given as goal

-- the choices so far and those of the rest are all
abbrev pub invariant-loop-name : goal.invariant-loop-name
invariant-loop-name l =
    l.entries ++ flat_map (choices_at (setting_of l.names) l.region.number l.region.var.now l.region.directive.now (stmt_trees l.region.body.now)) (drop l.name-index l.names.in_order.now)
    ≡ l.fn.entries ++ flat_map (choices_at (setting_of l.names) l.region.number l.region.var.now l.region.directive.now (stmt_trees l.region.body.now)) l.names.in_order.now
