use Rattle.ending.proofs.Follow.{goes_on, ends_at, stands}
use Rattle.program_stage.proofs.program.load_program.Goals as goal

pub returns-in_err-text-clause-stage : goal.returns-in_err-text-clause-stage
unfolding Rattle.program_stage.specs.Programs.program_stage
returns-in_err-text-clause-stage g c = ends_at c.in_err-text.ensures.stage c.from_residual.ensures

pub returns-clause-stage : goal.returns-clause-stage
unfolding Rattle.program_stage.specs.Programs.program_stage
returns-clause-stage g c = goes_on c.in_ok-text.ensures.stage (stands (rw c.deref.ensures.value at c.read_program.ensures.part))
