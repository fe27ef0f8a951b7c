use Rattle.meaning.proofs.FittingProofs.{values_fitting}
use Rattle.meaning.proofs.fitting.values_fit.Goals as goal

pub returns : goal.returns
returns c = values_fitting
