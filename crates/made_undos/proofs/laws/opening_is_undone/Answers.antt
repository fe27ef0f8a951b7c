use Rattle.made_undos.proofs.Opening.{opening_undone}
use Rattle.made_undos.proofs.laws.opening_is_undone.Goals as goal

pub returns : goal.returns
returns c = opening_undone
