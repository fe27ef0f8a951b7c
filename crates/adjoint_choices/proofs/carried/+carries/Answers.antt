use Rattle.std.proofs.Common.{sym}
use Rattle.adjoint_choices.proofs.Together.{not_followed, followed}
use Rattle.adjoint_choices.proofs.carried.+carries.Goals as goal

pub carries-returns-then-not-is_followed : goal.carries-returns-then-not-is_followed
carries-returns-then-not-is_followed t c =
    not_followed c.args.name.now c.args.expr.now c.in-Call.fun c.in-Call.args c.as_slice-args.result.now c.in-Call.is c.as_slice-args.ensures (sym c.if-not-is_followed.ensures)

pub carries-returns-else-not-is_followed : goal.carries-returns-else-not-is_followed
carries-returns-else-not-is_followed t c =
    followed c.args.name.now c.args.expr.now c.in-Call.fun c.in-Call.args c.as_slice-args.result.now c.any_carries.result c.in-Call.is c.as_slice-args.ensures (sym c.if-not-is_followed.ensures) c.any_carries.ensures
