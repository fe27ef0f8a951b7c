use Rattle.std.proofs.Common.{map, ◌∙◌}
use Rattle.fl_ast.specs.Tree.{stmt_trees}
use Rattle.fl_ast.specs.AdjointTree.{astmt_tree}
use Rattle.adjoint_rules.specs.Bounds.{numbering, further_loops}
use Rattle.adjoint_rules.specs.Forward.{private_scalars, pushed_scalars}
use Rattle.reversal.specs.Places.{scope_of}
use Rattle.loop_bounds.specs.Heads.{head_of}
use Rattle.adjoint_loops.proofs.Grown.{on_ok, started}
use Rattle.adjoint_loops.proofs.iteration.push_backward_start.Goals as goal

pub returns : goal.returns
returns c =
    on_ok c.push_all_cleared.result
    (λ e. started (scope_of c.args.scope.now).active c.args.head.now.line (numbering (head_of c.args.head.now) (further_loops c.args.region.now.directive.now (stmt_trees c.args.region.now.body.now)))
    c.as_slice.result.now (pushed_scalars (scope_of c.args.scope.now) c.args.region.now.var.now c.args.region.now.directive.now (stmt_trees c.args.region.now.body.now)) c.as_slice-2.result.now (private_scalars (scope_of c.args.scope.now) c.args.region.now.var.now c.args.region.now.directive.now (stmt_trees c.args.region.now.body.now))
    (map astmt_tree c.args.statements.now) (map astmt_tree c.push_numbering.new.statements) (map astmt_tree c.push_all_popped.new.statements) (map astmt_tree c.push_all_cleared.new.statements)
    (c.as_slice.ensures ∙ c.in_ok-names.ensures) (c.as_slice-2.ensures ∙ c.in_ok-privates.ensures)
    c.in_ok-push_numbering.ensures c.in_ok-push_all_popped.ensures e)
    c.push_all_cleared.ensures
