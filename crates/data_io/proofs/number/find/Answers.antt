use Rattle.std.proofs.Common.{◌∙◌}
use Rattle.serde_json.specs.View.{view}
use Rattle.data_io.proofs.Texts.{found_text, found_none}
use Rattle.data_io.proofs.number.find.Goals as goal

pub returns-in-Ok : goal.returns-in-Ok
returns-in-Ok c = c.get.ensures ∙ found_text c.args.name.now c.bytes.result.now c.in-Ok.key.now (view c.args.value.now) c.bytes.ensures c.in-Ok.ensures.cases.0 c.in-Ok.ensures.cases.1

pub returns-in-Err : goal.returns-in-Err
returns-in-Err c = found_none c.args.name.now c.bytes.result.now (view c.args.value.now) c.bytes.ensures c.in-Err.ensures.cases.0
