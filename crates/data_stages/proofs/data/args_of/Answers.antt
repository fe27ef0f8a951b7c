use Rattle.std.proofs.Common.{refl, Ok, Err, codes}
use Rattle.ending.proofs.Follow.{finds, refuses}
use Rattle.data_stages.specs.Faults.{say_data}
use Rattle.data_stages.proofs.Found.{args_found}
use Rattle.data_stages.proofs.data.args_of.Goals as goal

pub returns-in-Ok-clause-part : goal.returns-in-Ok-clause-part
unfolding Rattle.data_stages.specs.Files.args_part
returns-in-Ok-clause-part c = finds _ _ (args_found c.args.typed.now c.args.bytes.now (Ok c.in-Ok.args) c.in-Ok.ensures.json c.in-Ok.ensures.no_json)

pub returns-in-Ok-clause-read : goal.returns-in-Ok-clause-read
returns-in-Ok-clause-read c = args_found c.args.typed.now c.args.bytes.now (Ok c.in-Ok.args) c.in-Ok.ensures.json c.in-Ok.ensures.no_json

pub returns-in-Err-clause-part : goal.returns-in-Err-clause-part
unfolding Rattle.data_stages.specs.Files.args_part
returns-in-Err-clause-part c =
    refuses _ (say_data (codes "data")) _ _ refl (args_found c.args.typed.now c.args.bytes.now (Err c.in-Err.error) c.in-Err.ensures.json c.in-Err.ensures.no_json)
    c.data_refused.ensures
