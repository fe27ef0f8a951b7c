use Rattle.meaning.proofs.Variables.{variables_fit}
use Rattle.meaning.proofs.laws.variables_fit.Goals as goal

pub returns : goal.returns
returns c = variables_fit
