use Rattle.index_law.proofs.Iterations.{invariants_hold}
use Rattle.index_law.proofs.laws.invariants_hold.Goals as goal

pub returns : goal.returns
returns c = invariants_hold
