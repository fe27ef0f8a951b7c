use Rattle.std.proofs.Common.{map, ap, ◌∙◌}
use Rattle.std.proofs.lemmas.List.{take_all}
use Rattle.reversal.proofs.Calls.{in_adjoint_of}
use Rattle.reversal.proofs.Calls.{finished}
use Rattle.reversal.proofs.expression.+in_adjoint.Goals as goal

pub all_in_adjoint-returns : goal.all_in_adjoint-returns
all_in_adjoint-returns t c =
    finished c.loop-i.all c.args.exprs.now
    (c.loop-i.invariant ∙ ap (map in_adjoint_of) (take_all c.loop-i.i c.args.exprs.now c.loop-i-test.false))
