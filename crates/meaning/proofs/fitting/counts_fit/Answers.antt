use Rattle.meaning.proofs.FittingProofs.{counts_fitting}
use Rattle.meaning.proofs.fitting.counts_fit.Goals as goal

pub returns : goal.returns
returns c = counts_fitting
