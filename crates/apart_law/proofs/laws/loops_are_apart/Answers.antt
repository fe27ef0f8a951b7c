use Rattle.apart_law.proofs.Loops.{loops_apart}
use Rattle.apart_law.proofs.laws.loops_are_apart.Goals as goal

pub returns : goal.returns
returns c = loops_apart
