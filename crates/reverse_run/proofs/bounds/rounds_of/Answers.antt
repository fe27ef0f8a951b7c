use Rattle.reverse_run.proofs.Bounding.{one_given, two_given}
use Rattle.reverse_run.proofs.bounds.rounds_of.Goals as goal

pub returns-in-One-clause-gives : goal.returns-in-One-clause-gives
returns-in-One-clause-gives g c = rw c.in-One.is (one_given c.args.run.now c.bounds-turns.new.run c.in-One.place c.bounds-turns.result c.bounds-turns.ensures.gives)

pub returns-in-Two-clause-gives : goal.returns-in-Two-clause-gives
returns-in-Two-clause-gives g c =
    rw c.in-Two.is (two_given c.args.run.now c.bounds-further.new.run c.bounds-turns-in-Two.new.run c.in-Two.outer c.in-Two.inner c.bounds-further.result c.bounds-turns-in-Two.result c.bounds-further.ensures.gives c.bounds-turns-in-Two.ensures.gives)
