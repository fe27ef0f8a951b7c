use Rattle.adjoint_rules.specs.Bounds.{lo, hi, by}
use Rattle.loop_bounds.specs.Heads.{head_of}
use Rattle.adjoint_loops.proofs.Grown.{looped_is}
use Rattle.adjoint_loops.proofs.around.forward_front.Goals as goal

pub returns : goal.returns
returns c =
    looped_is (head_of c.args.head.now) (record { var = c.in_ok-var.var; first = c.in_ok-first.first; last = c.in_ok-last.last; step = c.in_ok-step.step }) (lo (head_of c.args.head.now)) (hi (head_of c.args.head.now)) (by (head_of c.args.head.now))
    c.in_ok-var.ensures c.in_ok-first.ensures c.in_ok-last.ensures (c.in_ok-step.ensures)
