use Rattle.ending.proofs.Follow.{goes_on, ends_at, stands}
use Rattle.run_stages.proofs.inputs.placed.Goals as goal

pub returns-in_err-load_certificate-clause-stage : goal.returns-in_err-load_certificate-clause-stage
unfolding Rattle.run_stages.specs.Runs.data_stage
returns-in_err-load_certificate-clause-stage g c = ends_at c.in_err-load_certificate.ensures c.from_residual.ensures

pub returns-clause-stage : goal.returns-clause-stage
unfolding Rattle.run_stages.specs.Runs.data_stage
returns-clause-stage g c = goes_on c.in_ok-load_certificate.ensures (stands c.lay_out.ensures.part)
