use Rattle.forward_sweep.proofs.rounds.push_further.Goals as goal

pub returns-in-Some-clause-left : goal.returns-in-Some-clause-left
returns-in-Some-clause-left g c = rw c.in-Some.is c.push_bounds.ensures.left
