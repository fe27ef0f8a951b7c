use Rattle.loop_pairs.proofs.Numbered.{loops_stand}
use Rattle.loop_pairs.proofs.laws.loops_stand_at_their_numbers.Goals as goal

pub returns : goal.returns
returns c = loops_stand
