use Rattle.sound_programs.proofs.Transposing.{made_transposed}
use Rattle.sound_programs.proofs.laws.made_is_transposed.Goals as goal

pub returns : goal.returns
returns c = made_transposed
