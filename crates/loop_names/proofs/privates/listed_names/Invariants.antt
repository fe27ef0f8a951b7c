use Rattle.std.proofs.Common.{◌≡◌, ◌++◌, drop}
use Rattle.fl_ast.specs.Tree.{stmt_trees}
use Rattle.fl_types.specs.Sharing.{sharing_in}
use Rattle.loop_names.specs.Listed.{is_listed}
use Rattle.loop_names.proofs.Filters.{kept}
use Rattle.loop_names.proofs.privates.listed_names.Given as goal

-- the names so far and those of the rest are all
abbrev pub invariant-loop-decl : goal.invariant-loop-decl
invariant-loop-decl l =
    l.names ++ kept (λ x. is_listed l.listed (sharing_in l.region.var.now l.region.directive.now (stmt_trees l.region.body.now) x)) (drop l.decl-index l.scope.decls.now)
    ≡ kept (λ x. is_listed l.listed (sharing_in l.region.var.now l.region.directive.now (stmt_trees l.region.body.now) x)) l.scope.decls.now
