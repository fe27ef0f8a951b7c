use Rattle.std.proofs.Common.{map, ap, [], ◌++◌, ◌∷◌, ◌∙◌, None}
use Rattle.fl_ast.specs.AdjointTree.{astmt_tree}
use Rattle.adjoint_rules.specs.Bounds.{lo, hi, by, loop_over}
use Rattle.loop_bounds.specs.Heads.{head_of}
use Rattle.adjoint_loops.proofs.Grown.{by_front}
use Rattle.adjoint_loops.proofs.around.only.Goals as goal

pub returns : goal.returns
returns c =
    by_front c.forward_front.result (head_of c.args.head.now) (lo (head_of c.args.head.now)) (hi (head_of c.args.head.now)) (by (head_of c.args.head.now)) (map astmt_tree c.args.body) (map astmt_tree c.new-one.result) (map astmt_tree c.push_looped.new.statements)
    c.forward_front.ensures c.in_ok-push_looped.ensures
    ∙ ap (λ r. map astmt_tree r ++ loop_over None (head_of c.args.head.now) (lo (head_of c.args.head.now)) (hi (head_of c.args.head.now)) (by (head_of c.args.head.now)) (map astmt_tree c.args.body) ∷ []) c.new-one.ensures
