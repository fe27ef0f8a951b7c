use Rattle.index_forms.proofs.Worths.{value-plus, value-minus}
use Rattle.index_law.proofs.laws.sums_are_exact.Goals as goal

pub returns-clause-sums : goal.returns-clause-sums
returns-clause-sums c = value-plus

pub returns-clause-differences : goal.returns-clause-differences
returns-clause-differences c = value-minus
