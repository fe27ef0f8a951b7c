use Rattle.std.proofs.Common.{map, [], ◌∷◌, None}
use Rattle.fl_ast.specs.AdjointTree.{astmt_tree}
use Rattle.adjoint_rules.specs.Bounds.{lo, hi, by, loop_over, settings, pushes}
use Rattle.reversal.specs.Places.{scope_of}
use Rattle.loop_bounds.specs.Heads.{head_of}
use Rattle.adjoint_loops.proofs.Grown.{on_ok, thrice, by_front}
use Rattle.adjoint_loops.proofs.sequential.push_forward_loop.Goals as goal

pub returns : goal.returns
returns c =
    on_ok c.push_pushes_here.result
    (λ e. thrice (map astmt_tree c.args.statements.now) (map astmt_tree c.push_settings.new.statements) (map astmt_tree c.push_looped.new.statements) (map astmt_tree c.push_pushes_here.new.statements)
    (settings (head_of c.args.head.now)) (loop_over None (head_of c.args.head.now) (lo (head_of c.args.head.now)) (hi (head_of c.args.head.now)) (by (head_of c.args.head.now)) (map astmt_tree c.args.made) ∷ []) (pushes (scope_of c.args.scope.now).key (head_of c.args.head.now))
    c.in_ok-push_settings.ensures
    (by_front c.forward_front.result (head_of c.args.head.now) (lo (head_of c.args.head.now)) (hi (head_of c.args.head.now)) (by (head_of c.args.head.now)) (map astmt_tree c.args.made) (map astmt_tree c.push_settings.new.statements) (map astmt_tree c.push_looped.new.statements)
    c.forward_front.ensures c.in_ok-push_looped.ensures)
    e)
    c.push_pushes_here.ensures
