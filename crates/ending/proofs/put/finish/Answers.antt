use Rattle.ending.proofs.put.finish.Goals as goal

pub returns-in-Err-Memory : goal.returns-in-Err-Memory
returns-in-Err-Memory g c = rw (c.in-Err-Memory.is, c.in-Err-Memory.field-0-is) c.put_as-in-Err-Memory.ensures
