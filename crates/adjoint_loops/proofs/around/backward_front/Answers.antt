use Rattle.std.proofs.Common.{ap, ◌∙◌}
use Rattle.fl_ast.specs.Tree.{minus}
use Rattle.adjoint_rules.specs.Bounds.{lo, by, last_value}
use Rattle.loop_bounds.specs.Heads.{head_of}
use Rattle.adjoint_loops.proofs.Grown.{looped_is}
use Rattle.adjoint_loops.proofs.around.backward_front.Goals as goal

pub returns : goal.returns
returns c =
    looped_is (head_of c.args.head.now) (record { var = c.in_ok-var.var; first = c.in_ok-first.first; last = c.in_ok-last.last; step = c.in_ok-step.step }) (last_value (head_of c.args.head.now)) (lo (head_of c.args.head.now)) (minus (by (head_of c.args.head.now)))
    c.in_ok-var.ensures c.in_ok-first.ensures c.in_ok-last.ensures (c.in_ok-step.ensures ∙ ap minus c.in_ok-by.ensures)
