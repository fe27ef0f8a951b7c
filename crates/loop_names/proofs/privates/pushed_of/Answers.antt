use Rattle.std.proofs.Common.{refl, ◌∙◌, ◌&&◌}
use Rattle.fl_ast.specs.Tree.{stmt_trees}
use Rattle.fl_types.specs.Sharing.{assigns_in}
use Rattle.reversal.specs.Places.{scope_of}
use Rattle.loop_names.proofs.Filters.{passing, passing_are}
use Rattle.loop_names.proofs.Loops.{gathered}
use Rattle.loop_names.proofs.privates.pushed_of.Goals as goal

pub returns : goal.returns
returns c =
    gathered (passing (λ x. assigns_in x (stmt_trees c.args.region.now.body.now) && (scope_of c.args.scope.now).needed x)) refl c.args.privates.now c.loop-name.name-index c.loop-name.names c.loop-name.invariant c.loop-name-test.false
    ∙ passing_are (λ x. assigns_in x (stmt_trees c.args.region.now.body.now) && (scope_of c.args.scope.now).needed x) c.args.privates.now
