use Rattle.std.proofs.Common.{refl}
use Rattle.ending.proofs.Follow.{finds, refuses}
use Rattle.program_stage.proofs.syntax.program_of.Goals as goal

pub returns-in-Ok : goal.returns-in-Ok
unfolding Rattle.program_stage.specs.Parsing.parsed_stage
returns-in-Ok c = record { part = finds _ _ c.in-Ok.ensures.parsed; readable = c.in-Ok.ensures.readable }

pub returns-in-Err : goal.returns-in-Err
unfolding Rattle.program_stage.specs.Parsing.parsed_stage
returns-in-Err c = record { part = refuses _ _ _ _ refl c.in-Err.ensures.parsed c.parse_refused.ensures; readable = tt }
