use Rattle.std.proofs.Common.{refl}
use Rattle.ending.proofs.Follow.{goes_on, ends_at, ends_part, stands, gives}
use Rattle.commands.proofs.directed.prepare.Goals as goal

pub returns-in_err-typed-clause-stage : goal.returns-in_err-typed-clause-stage
unfolding Rattle.commands.specs.Tangents.directed_stage
returns-in_err-typed-clause-stage g c = ends_at c.in_err-typed.ensures.stage c.from_residual.ensures

pub returns-in_err-args-clause-stage : goal.returns-in_err-args-clause-stage
unfolding Rattle.commands.specs.Tangents.directed_stage
returns-in_err-args-clause-stage g c = goes_on c.in_ok-typed.ensures.stage (ends_at c.in_err-args.ensures.stage c.from_residual-in_err-args.ensures)

pub returns-in_err-direction-clause-stage : goal.returns-in_err-direction-clause-stage
unfolding Rattle.commands.specs.Tangents.directed_stage
returns-in_err-direction-clause-stage g c =
    goes_on c.in_ok-typed.ensures.stage (goes_on c.in_ok-args.ensures.stage (ends_at c.in_err-direction.ensures c.from_residual-in_err-direction.ensures))

pub returns-in_err-layout-clause-stage : goal.returns-in_err-layout-clause-stage
unfolding Rattle.commands.specs.Tangents.directed_stage
returns-in_err-layout-clause-stage g c =
    goes_on c.in_ok-typed.ensures.stage (goes_on c.in_ok-args.ensures.stage (goes_on c.in_ok-direction.ensures
    (ends_part c.in_err-layout.ensures.part c.from_residual-in_err-layout.ensures)))

pub returns-clause-stage : goal.returns-clause-stage
unfolding Rattle.commands.specs.Tangents.directed_stage
returns-clause-stage g c =
    goes_on c.in_ok-typed.ensures.stage (goes_on c.in_ok-args.ensures.stage (goes_on c.in_ok-direction.ensures
    (goes_on (stands c.in_ok-layout.ensures.part) (stands (gives _ refl)))))
