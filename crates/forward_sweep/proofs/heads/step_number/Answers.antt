use Rattle.forward_sweep.proofs.heads.step_number.Goals as goal

pub returns-in-Some-clause-does : goal.returns-in-Some-clause-does
returns-in-Some-clause-does g c = rw c.in-Some.is c.index.ensures.does
