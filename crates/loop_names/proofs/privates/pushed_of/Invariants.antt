use Rattle.std.proofs.Common.{◌≡◌, ◌++◌, ◌&&◌, drop}
use Rattle.fl_ast.specs.Tree.{stmt_trees}
use Rattle.fl_types.specs.Sharing.{assigns_in}
use Rattle.reversal.specs.Places.{scope_of}
use Rattle.loop_names.proofs.Filters.{passing}
use Rattle.loop_names.proofs.privates.pushed_of.Given as goal

-- the names so far and those of the rest are all
abbrev pub invariant-loop-name : goal.invariant-loop-name
invariant-loop-name l =
    l.names ++ passing (λ x. assigns_in x (stmt_trees l.region.body.now) && (scope_of l.scope).needed x) (drop l.name-index l.privates)
    ≡ passing (λ x. assigns_in x (stmt_trees l.region.body.now) && (scope_of l.scope).needed x) l.privates
