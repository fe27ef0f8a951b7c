use Rattle.std.proofs.Common.{map, Some}
use Rattle.fl_ast.specs.AdjointTree.{astmt_tree}
use Rattle.adjoint_rules.specs.Bounds.{loops_around}
use Rattle.loop_bounds.specs.Heads.{head_of}
use Rattle.adjoint_loops.specs.Further.{heads_of}
use Rattle.adjoint_loops.proofs.Grown.{on_ok, one, around}
use Rattle.adjoint_loops.proofs.around.push_around.Goals as goal

pub returns : goal.returns
returns c =
    on_ok c.push.result
    (λ e. one c.args.statements.now c.push.new.self c.looped.result (loops_around (Some c.args.clauses) (head_of c.args.head.now) (heads_of c.args.further.now) (map astmt_tree c.args.iteration)) e
    (around (Some c.args.clauses) (head_of c.args.head.now) c.args.further.now c.in_ok-front.front (map astmt_tree c.in_ok-body.body) (map astmt_tree c.args.iteration) (astmt_tree c.looped.result)
    c.in_ok-body.ensures c.in_ok-front.ensures c.looped.ensures))
    c.push.ensures.ok
