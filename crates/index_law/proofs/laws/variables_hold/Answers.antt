use Rattle.index_law.proofs.Variables.{variables_hold}
use Rattle.index_law.proofs.laws.variables_hold.Goals as goal

pub returns : goal.returns
returns c = variables_hold
