use Rattle.ending.proofs.Follow.{goes_on, ends_at, stands}
use Rattle.run_stages.proofs.Finishing.{run_told}
use Rattle.run_stages.proofs.run.load_run.Goals as goal

pub returns-in_err-prepared-clause-stage : goal.returns-in_err-prepared-clause-stage
unfolding Rattle.run_stages.specs.Runs.run_stage
returns-in_err-prepared-clause-stage g c = ends_at c.in_err-prepared.ensures.stage c.from_residual.ensures

pub returns-clause-stage : goal.returns-clause-stage
unfolding Rattle.run_stages.specs.Runs.run_stage
returns-clause-stage g c = goes_on c.in_ok-prepared.ensures.stage (stands c.answer.ensures.part)

pub returns-clause-done : goal.returns-clause-done
returns-clause-done g c =
    run_told _ _ c.in_ok-prepared.prepared.inputs c.answer.result _ _ (λ files e. c.in_ok-prepared.ensures.stage.told files e) c.answer.ensures.ends c.answer.ensures.text c.answer.ensures.ticks
