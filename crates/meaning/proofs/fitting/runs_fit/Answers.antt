use Rattle.meaning.proofs.FittingProofs.{runs_fitting}
use Rattle.meaning.proofs.fitting.runs_fit.Goals as goal

pub returns : goal.returns
returns c = runs_fitting
