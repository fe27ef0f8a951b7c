use Rattle.sound_programs.proofs.Collecting.{choices_fit}
use Rattle.sound_programs.proofs.laws.made_choices_fit.Goals as goal

pub returns : goal.returns
returns c = choices_fit
