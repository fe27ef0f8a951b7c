use Rattle.transposition.proofs.Whole.{undone_all}
use Rattle.transposition.proofs.laws.statements_are_undone.Goals as goal

pub returns : goal.returns
returns c = undone_all
