use Rattle.std.proofs.Common.{refl, Ok, Err, codes}
use Rattle.ending.proofs.Follow.{finds, refuses}
use Rattle.data_stages.specs.Faults.{say_data}
use Rattle.data_stages.proofs.Found.{direction_found}
use Rattle.data_stages.proofs.data.direction_of.Goals as goal

pub returns-in-Ok : goal.returns-in-Ok
unfolding Rattle.data_stages.specs.Files.direction_part
returns-in-Ok c = finds _ _ (direction_found c.args.typed.now c.args.args.now c.args.bytes.now (Ok c.in-Ok.direction) c.in-Ok.ensures.json c.in-Ok.ensures.no_json)

pub returns-in-Err : goal.returns-in-Err
unfolding Rattle.data_stages.specs.Files.direction_part
returns-in-Err c =
    refuses _ (say_data (codes "direction")) _ _ refl (direction_found c.args.typed.now c.args.args.now c.args.bytes.now (Err c.in-Err.error) c.in-Err.ensures.json c.in-Err.ensures.no_json)
    c.data_refused.ensures
