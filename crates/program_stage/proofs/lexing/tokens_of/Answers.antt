use Rattle.std.proofs.Common.{refl}
use Rattle.ending.proofs.Follow.{finds, refuses}
use Rattle.program_stage.proofs.lexing.tokens_of.Goals as goal

pub returns-in-Ok-clause-part : goal.returns-in-Ok-clause-part
unfolding Rattle.program_stage.specs.Lexing.lexed_stage
returns-in-Ok-clause-part c = finds _ _ c.in-Ok.ensures.exact

pub returns-in-Err-clause-part : goal.returns-in-Err-clause-part
unfolding Rattle.program_stage.specs.Lexing.lexed_stage
returns-in-Err-clause-part c = refuses _ _ _ _ refl c.in-Err.ensures.exact c.lex_refused.ensures
