use Rattle.sound_programs.proofs.Programs.{places_fit}
use Rattle.sound_programs.proofs.laws.layouts_fit.Goals as goal

pub returns : goal.returns
returns c = places_fit
