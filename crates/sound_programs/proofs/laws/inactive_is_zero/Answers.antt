use Rattle.sound_programs.proofs.Inactive.{inactive_zero}
use Rattle.sound_programs.proofs.laws.inactive_is_zero.Goals as goal

pub returns : goal.returns
returns c = inactive_zero
