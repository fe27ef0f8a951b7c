use Rattle.ending.proofs.Follow.{goes_on, ends_at, ends_part, stands, gives, wants}
use Rattle.certificate_stages.specs.Certificates.{proved_for}
use Rattle.certificate_stages.proofs.Due.{text_due}
use Rattle.certificate_stages.proofs.prove.load_certificate.Goals as goal

pub returns-in_err-typed : goal.returns-in_err-typed
unfolding Rattle.certificate_stages.specs.Certificates.certificate_stage Rattle.program_stage.specs.Programs.subject_stage
returns-in_err-typed g c = ends_at c.in_err-typed.ensures.stage c.from_residual.ensures

pub returns-in_err-active : goal.returns-in_err-active
unfolding Rattle.certificate_stages.specs.Certificates.certificate_stage Rattle.program_stage.specs.Programs.subject_stage
returns-in_err-active g c = goes_on c.in_ok-typed.ensures.stage (ends_part c.in_err-active.ensures.part c.from_residual-in_err-active.ensures)

pub returns-in-Ok : goal.returns-in-Ok
unfolding Rattle.certificate_stages.specs.Certificates.certificate_stage Rattle.program_stage.specs.Programs.subject_stage
returns-in-Ok g c =
    goes_on c.in_ok-typed.ensures.stage (goes_on (stands c.in_ok-active.ensures.part)
    (stands (gives _ (text_due proved_for c.in_ok-typed.typed c.args.of.now c.args.wrt.now c.in_ok-active.active.names c.text_for.result _ c.in_ok-active.ensures.active c.text_for.ensures c.in-Ok.is))))

pub returns : goal.returns
unfolding Rattle.certificate_stages.specs.Certificates.certificate_stage Rattle.program_stage.specs.Programs.subject_stage
returns g c = goes_on c.in_ok-typed.ensures.stage (goes_on (stands c.in_ok-active.ensures.part) (stands wants))
