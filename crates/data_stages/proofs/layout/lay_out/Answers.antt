use Rattle.std.proofs.Common.{refl, Ok, Err}
use Rattle.ending.proofs.Follow.{finds, refuses}
use Rattle.store_core.specs.Places.{shapes_of}
use Rattle.data_stages.proofs.Found.{lays_found}
use Rattle.data_stages.proofs.layout.lay_out.Goals as goal

pub returns-in-Ok-clause-part : goal.returns-in-Ok-clause-part
unfolding Rattle.data_stages.specs.Layouts.layout_stage
returns-in-Ok-clause-part c = finds _ _ (lays_found (Ok c.in-Ok.layout) (shapes_of c.args.typed.now c.args.args.now.entries) c.in-Ok.ensures)

pub returns-in-Err-clause-part : goal.returns-in-Err-clause-part
unfolding Rattle.data_stages.specs.Layouts.layout_stage
returns-in-Err-clause-part c =
    refuses _ _ _ _ refl (lays_found (Err c.in-Err.error) (shapes_of c.args.typed.now c.args.args.now.entries) c.in-Err.ensures)
    c.layout_refused.ensures
