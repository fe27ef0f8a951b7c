use Rattle.sound_programs.proofs.Programs.{places_suffice}
use Rattle.sound_programs.proofs.laws.places_suffice.Goals as goal

pub returns : goal.returns
returns c = places_suffice
