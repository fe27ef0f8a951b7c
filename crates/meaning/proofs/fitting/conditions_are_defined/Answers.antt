use Rattle.meaning.proofs.FittingProofs.{conditions_defined}
use Rattle.meaning.proofs.fitting.conditions_are_defined.Goals as goal

pub returns : goal.returns
returns c = conditions_defined
