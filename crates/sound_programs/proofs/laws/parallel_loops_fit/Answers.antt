use Rattle.sound_programs.proofs.Collecting.{loops_fit}
use Rattle.sound_programs.proofs.laws.parallel_loops_fit.Goals as goal

pub returns : goal.returns
returns c = loops_fit
