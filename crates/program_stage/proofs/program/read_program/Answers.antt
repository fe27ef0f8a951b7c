use Rattle.ending.proofs.Follow.{goes_in, ends_in}
use Rattle.program_stage.proofs.program.read_program.Goals as goal

pub returns-in_err-tokens-clause-part : goal.returns-in_err-tokens-clause-part
unfolding Rattle.program_stage.specs.Programs.source_stage
returns-in_err-tokens-clause-part c = ends_in c.in_err-tokens.ensures.part c.from_residual.ensures

pub returns-in_err-program-clause-part : goal.returns-in_err-program-clause-part
unfolding Rattle.program_stage.specs.Programs.source_stage
returns-in_err-program-clause-part c =
    goes_in c.in_ok-tokens.ensures.part (ends_in (rw c.deref.ensures.value at c.in_err-program.ensures.part) c.from_residual-in_err-program.ensures)

pub returns-clause-part : goal.returns-clause-part
unfolding Rattle.program_stage.specs.Programs.source_stage
returns-clause-part c = goes_in c.in_ok-tokens.ensures.part (goes_in (rw c.deref.ensures.value at c.in_ok-program.ensures.part) c.typed_of.ensures.part)
