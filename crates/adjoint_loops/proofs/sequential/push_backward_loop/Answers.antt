use Rattle.std.proofs.Common.{map, [], ◌∷◌, None}
use Rattle.fl_ast.specs.Tree.{minus}
use Rattle.fl_ast.specs.AdjointTree.{astmt_tree}
use Rattle.adjoint_rules.specs.Bounds.{lo, by, last_value, loop_over, pops}
use Rattle.reversal.specs.Places.{scope_of}
use Rattle.loop_bounds.specs.Heads.{head_of}
use Rattle.adjoint_loops.proofs.Grown.{on_ok, twice, by_front}
use Rattle.adjoint_loops.proofs.sequential.push_backward_loop.Goals as goal

pub returns : goal.returns
returns c =
    on_ok c.push_looped.result
    (λ e. twice (map astmt_tree c.args.statements.now) (map astmt_tree c.push_pops_here.new.statements) (map astmt_tree c.push_looped.new.statements)
    (pops (scope_of c.args.scope.now).key (head_of c.args.head.now)) (loop_over None (head_of c.args.head.now) (last_value (head_of c.args.head.now)) (lo (head_of c.args.head.now)) (minus (by (head_of c.args.head.now))) (map astmt_tree c.args.made) ∷ [])
    c.in_ok-push_pops_here.ensures
    (by_front c.backward_front.result (head_of c.args.head.now) (last_value (head_of c.args.head.now)) (lo (head_of c.args.head.now)) (minus (by (head_of c.args.head.now))) (map astmt_tree c.args.made) (map astmt_tree c.push_pops_here.new.statements) (map astmt_tree c.push_looped.new.statements)
    c.backward_front.ensures e))
    c.push_looped.ensures
