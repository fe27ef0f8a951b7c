use Rattle.std.proofs.Common.{◌++◌, ap, refl, ◌∙◌, map}
use Rattle.fl_ast.specs.AdjointTree.{astmt_tree}
use Rattle.reversal.specs.Places.{scope_of}
use Rattle.adjoint_loops.proofs.Grown.{finished, clears, clears_are}
use Rattle.adjoint_loops.proofs.iteration.push_all_cleared.Goals as goal

pub returns : goal.returns
returns c =
    finished (clears (scope_of c.args.scope.now).active c.args.line) refl c.args.names.now c.loop-name.name-index (map astmt_tree c.loop-name.statements) (map astmt_tree c.args.statements.now) c.loop-name.invariant c.loop-name-test.false
    ∙ ap (λ r. map astmt_tree c.args.statements.now ++ r) (clears_are (scope_of c.args.scope.now).active c.args.line c.args.names.now)
