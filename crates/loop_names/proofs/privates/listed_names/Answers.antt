use Rattle.std.proofs.Common.{refl, ◌∙◌}
use Rattle.fl_ast.specs.Tree.{stmt_trees}
use Rattle.fl_types.specs.Sharing.{sharing_in}
use Rattle.loop_names.specs.Listed.{is_listed}
use Rattle.loop_names.proofs.Filters.{kept, kept_are}
use Rattle.loop_names.proofs.Loops.{gathered}
use Rattle.loop_names.proofs.privates.listed_names.Goals as goal

pub returns : goal.returns
returns c =
    gathered (kept (λ x. is_listed c.args.listed (sharing_in c.args.region.now.var.now c.args.region.now.directive.now (stmt_trees c.args.region.now.body.now) x))) refl c.args.scope.now.decls.now c.loop-decl.decl-index c.loop-decl.names c.loop-decl.invariant c.loop-decl-test.false
    ∙ kept_are (λ x. is_listed c.args.listed (sharing_in c.args.region.now.var.now c.args.region.now.directive.now (stmt_trees c.args.region.now.body.now) x)) c.args.scope.now.decls.now
