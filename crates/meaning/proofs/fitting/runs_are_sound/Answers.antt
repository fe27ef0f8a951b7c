use Rattle.meaning.proofs.Soundly.{runs_sound}
use Rattle.meaning.proofs.fitting.runs_are_sound.Goals as goal

pub returns : goal.returns
returns c = runs_sound
