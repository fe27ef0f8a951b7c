use Rattle.sound_programs.proofs.Programs.{programs_sound}
use Rattle.sound_programs.proofs.laws.programs_are_sound.Goals as goal

pub returns : goal.returns
returns c = programs_sound
