use Rattle.meaning.proofs.Placing.{fitting_by_place}
use Rattle.meaning.proofs.fitting.fitting_is_by_place.Goals as goal

pub returns : goal.returns
returns c = fitting_by_place
