use Rattle.std.proofs.Common.{refl}
use Rattle.ending.proofs.Follow.{finds, refuses}
use Rattle.program_stage.proofs.Typing.{judged_again}
use Rattle.program_stage.proofs.types.typed_of.Goals as goal

pub returns-in-Ok-clause-part : goal.returns-in-Ok-clause-part
unfolding Rattle.program_stage.specs.Typing.typed_stage
returns-in-Ok-clause-part c = finds _ _ c.in-Ok.ensures

pub returns-in-Ok-clause-judged : goal.returns-in-Ok-clause-judged
returns-in-Ok-clause-judged c = judged_again _ _ c.in-Ok.ensures

pub returns-in-Err-clause-part : goal.returns-in-Err-clause-part
unfolding Rattle.program_stage.specs.Typing.typed_stage
returns-in-Err-clause-part c = refuses _ _ _ _ refl c.in-Err.ensures c.type_refused.ensures
