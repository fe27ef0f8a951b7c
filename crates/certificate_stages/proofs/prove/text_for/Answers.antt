use Rattle.certificate_stages.proofs.Due.{certificates_are}
use Rattle.certificate_stages.proofs.prove.text_for.Goals as goal

pub returns : goal.returns
returns c = λ of wrt active. certificates_are c.args.typed.now of wrt c.args.active.now.names (λ text. text.items) c.proved_certificate.result active c.proved_certificate.ensures.text
