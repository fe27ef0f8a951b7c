use Rattle.commands.proofs.CertificateDone.{certificate_told}
use Rattle.commands.proofs.prove.prove.Goals as goal

pub returns-clause-stage : goal.returns-clause-stage
returns-clause-stage g c = rw (c.as_slice.ensures, c.as_slice-2.ensures) at c.load_certificate.ensures

pub returns-clause-done : goal.returns-clause-done
returns-clause-done g c = certificate_told c.args.subject.now _ (rw (c.as_slice.ensures, c.as_slice-2.ensures) at c.load_certificate.ensures)
