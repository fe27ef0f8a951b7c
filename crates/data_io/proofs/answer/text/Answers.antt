use Rattle.data_io.proofs.Texts.{text_is, text_none}
use Rattle.data_io.proofs.answer.text.Goals as goal

pub returns-in-Ok : goal.returns-in-Ok
returns-in-Ok c = text_is c.args.name.now c.bytes.result.now c.in-Ok.text.now c.bytes.ensures c.in-Ok.ensures.cases.0 c.in-Ok.ensures.cases.1

pub returns-in-Err : goal.returns-in-Err
returns-in-Err c = text_none c.args.name.now c.bytes.result.now c.bytes.ensures c.in-Err.ensures.cases.0
