use Rattle.sound_programs.proofs.Programs.{names_fit}
use Rattle.sound_programs.proofs.laws.asked_names_fit.Goals as goal

pub returns : goal.returns
returns c = names_fit
