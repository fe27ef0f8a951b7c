use Rattle.loop_scopes.proofs.Opening.{opening_outside}
use Rattle.made_steps.proofs.laws.opening_is_outside.Goals as goal

pub returns : goal.returns
returns c = opening_outside
