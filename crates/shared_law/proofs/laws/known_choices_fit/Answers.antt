use Rattle.shared_law.proofs.Choices.{known_fit}
use Rattle.shared_law.proofs.laws.known_choices_fit.Goals as goal

pub returns : goal.returns
returns c = known_fit
