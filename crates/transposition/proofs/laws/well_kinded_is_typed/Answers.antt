use Rattle.transposition.proofs.WellKinded.{typed_by_kinds}
use Rattle.transposition.proofs.laws.well_kinded_is_typed.Goals as goal

pub returns : goal.returns
returns c = typed_by_kinds
