use Rattle.ending.proofs.Follow.{goes_on, ends_at, ends_part, stands, gives, wants}
use Rattle.commands.proofs.TangentDone.{tangent_done}
use Rattle.commands.proofs.tangent.tangent.Goals as goal

pub returns-in_err-inputs-clause-stage : goal.returns-in_err-inputs-clause-stage
unfolding Rattle.commands.specs.Tangents.tangent_stage
returns-in_err-inputs-clause-stage g c = ends_at c.in_err-inputs.ensures.stage c.from_residual.ensures

pub returns-in_err-found-clause-stage : goal.returns-in_err-found-clause-stage
unfolding Rattle.commands.specs.Tangents.tangent_stage
returns-in_err-found-clause-stage g c = goes_on c.in_ok-inputs.ensures.stage (ends_part c.in_err-found.ensures.part c.from_residual-in_err-found.ensures)

pub returns-in-Ok-clause-stage : goal.returns-in-Ok-clause-stage
unfolding Rattle.commands.specs.Tangents.tangent_stage
returns-in-Ok-clause-stage g c = goes_on c.in_ok-inputs.ensures.stage (goes_on (stands c.in_ok-found.ensures.part) (stands (gives _ c.in-Ok.ensures)))

pub returns-in-Ok-clause-done : goal.returns-in-Ok-clause-done
returns-in-Ok-clause-done g c =
    λ files e. tangent_done _ _ _ c.in_ok-inputs.inputs _ _ _ (c.in_ok-inputs.ensures.stage.told files e) c.in_ok-found.ensures.ends c.in-Ok.ensures c.in_ok-found.ensures.ticks

pub returns-clause-stage : goal.returns-clause-stage
unfolding Rattle.commands.specs.Tangents.tangent_stage
returns-clause-stage g c = goes_on c.in_ok-inputs.ensures.stage (goes_on (stands c.in_ok-found.ensures.part) (stands wants))
