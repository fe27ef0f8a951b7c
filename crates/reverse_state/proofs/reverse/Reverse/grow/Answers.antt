use Rattle.reverse_state.proofs.reverse.Reverse.grow.Goals as goal

pub returns-then-one_step : goal.returns-then-one_step
returns-then-one_step g c = rw c.if-one_step.true c.add.ensures
