use Rattle.std.proofs.Common.{◌+◌}
use Rattle.reverse_state.proofs.Stepping.{sum_closed}
use Rattle.reverse_state.proofs.reverse.Reverse.close_sum.Goals as goal

pub returns : goal.returns
returns g c =
    rw (← c.self.view_is)
    (sum_closed _ c.add.new.self (c.self.inside.shared + c.args.place) c.last_amount-amount.result c.last_amount-amount.ensures.amount
    (rw (← c.last_amount-amount.ensures.later) c.add.ensures))
