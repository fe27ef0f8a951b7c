use Rattle.std.proofs.Common.{◌≡◌, ◌++◌, drop}
use Rattle.fl_ast.specs.Tree.{stmt_trees}
use Rattle.adjoint_rules.specs.Clauses.{private_names}
use Rattle.reversal.specs.Places.{scope_of}
use Rattle.loop_names.proofs.Filters.{by_decl}
use Rattle.loop_names.proofs.clauses.push_all_private_names.Given as goal

-- the names so far and those of the rest are all
abbrev pub invariant-loop-decl : goal.invariant-loop-decl
invariant-loop-decl l =
    l.names ++ by_decl (private_names (scope_of l.scope) l.region.var.now l.region.directive.now (stmt_trees l.region.body.now)) (drop l.decl-index l.scope.decls.now)
    ≡ l.fn.names ++ by_decl (private_names (scope_of l.scope) l.region.var.now l.region.directive.now (stmt_trees l.region.body.now)) l.scope.decls.now
