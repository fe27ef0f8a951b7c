use Rattle.std.proofs.Common.{refl}
use Rattle.ending.proofs.Follow.{goes_on, ends_at, ends_part, stands, gives}
use Rattle.program_stage.proofs.program.load_subject.Goals as goal

pub returns-in_err-typed : goal.returns-in_err-typed
unfolding Rattle.program_stage.specs.Programs.subject_stage
returns-in_err-typed g c = ends_at c.in_err-typed.ensures.stage c.from_residual.ensures

pub returns-in_err-check_names : goal.returns-in_err-check_names
unfolding Rattle.program_stage.specs.Programs.subject_stage
returns-in_err-check_names g c = goes_on c.in_ok-typed.ensures.stage (ends_part c.in_err-check_names.ensures c.from_residual-in_err-check_names.ensures)

pub returns-in_err-check_names-2 : goal.returns-in_err-check_names-2
unfolding Rattle.program_stage.specs.Programs.subject_stage
returns-in_err-check_names-2 g c =
    goes_on c.in_ok-typed.ensures.stage (goes_on (stands c.in_ok-check_names.ensures)
    (ends_part c.in_err-check_names-2.ensures c.from_residual-in_err-check_names-2.ensures))

pub returns : goal.returns
unfolding Rattle.program_stage.specs.Programs.subject_stage
returns g c =
    goes_on c.in_ok-typed.ensures.stage (goes_on (stands c.in_ok-check_names.ensures)
    (goes_on (stands c.in_ok-check_names-2.ensures) (stands (gives c.in_ok-typed.typed refl))))
