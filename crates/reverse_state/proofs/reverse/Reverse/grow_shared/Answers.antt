use Rattle.transposition.specs.Worlds.{is_one_step}
use Rattle.reverse_sweep.specs.Reversing.{counted, grown}
use Rattle.reverse_state.specs.Holding.{on_stage}
use Rattle.reverse_state.proofs.Joining.{leaves_both}
use Rattle.reverse_state.proofs.reverse.Reverse.grow_shared.Goals as goal

pub returns : goal.returns
returns g c =
    leaves_both {u = c.args.self.now} {v = c.grow.new.self} {w = c.count.new.self} (λ n. on_stage (grown (is_one_step c.args.choice) c.args.cell c.args.amount)) (λ n. on_stage (counted c.args.choice))
    (rw (← c.is_one_step.ensures) c.grow.ensures) c.count.ensures
