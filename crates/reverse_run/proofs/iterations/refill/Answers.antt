use Rattle.reverse_run.proofs.Iterating.{refilled}
use Rattle.reverse_run.proofs.iterations.refill.Goals as goal

pub returns-then-private : goal.returns-then-private
returns-then-private g c = refilled c.args.run.now c.pop-word.new.self c.set_own_value.new.self c.args.private.now.pushes c.args.private.now.place c.pop-word.result c.if-private.true c.pop-word.ensures c.set_own_value.ensures
