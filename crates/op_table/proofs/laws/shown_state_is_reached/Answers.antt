use Rattle.op_table.proofs.Reached.{shown}
use Rattle.op_table.proofs.laws.shown_state_is_reached.Goals as goal

pub returns : goal.returns
returns g c = shown
