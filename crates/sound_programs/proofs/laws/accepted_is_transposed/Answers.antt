use Rattle.sound_programs.proofs.Transposing.{accepted_transposed}
use Rattle.sound_programs.proofs.laws.accepted_is_transposed.Goals as goal

pub returns : goal.returns
returns c = accepted_transposed
