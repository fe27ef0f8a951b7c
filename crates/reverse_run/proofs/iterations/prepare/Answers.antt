use Rattle.reverse_run.specs.Undoing.{counts_back}
use Rattle.reverse_run.proofs.Iterating.{prepared}
use Rattle.reverse_run.proofs.iterations.prepare.Goals as goal

pub returns : goal.returns
returns g c =
    prepared c.args.run.now c.set_variables.new.run c.refill_all.new.run c.clear_all.new.run c.open_sums.new.run (counts_back c.args.rounds.now) c.args.k c.args.privates.now c.args.reductions.now
    c.set_variables.ensures c.refill_all.ensures c.clear_all.ensures c.open_sums.ensures
