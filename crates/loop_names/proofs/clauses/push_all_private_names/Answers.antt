use Rattle.std.proofs.Common.{◌++◌, ap, refl, ◌∙◌}
use Rattle.fl_ast.specs.Tree.{stmt_trees}
use Rattle.adjoint_rules.specs.Clauses.{private_names}
use Rattle.reversal.specs.Places.{scope_of}
use Rattle.loop_names.proofs.Filters.{by_decl, by_decl_is}
use Rattle.loop_names.proofs.Loops.{finished}
use Rattle.loop_names.proofs.clauses.push_all_private_names.Goals as goal

pub returns : goal.returns
returns c =
    finished (by_decl (private_names (scope_of c.args.scope.now) c.args.region.now.var.now c.args.region.now.directive.now (stmt_trees c.args.region.now.body.now))) refl c.args.scope.now.decls.now c.loop-decl.decl-index c.loop-decl.names c.args.names.now c.loop-decl.invariant c.loop-decl-test.false
    ∙ ap (λ r. c.args.names.now ++ r) (by_decl_is (private_names (scope_of c.args.scope.now) c.args.region.now.var.now c.args.region.now.directive.now (stmt_trees c.args.region.now.body.now)) c.args.scope.now.decls.now)
