use Rattle.certificate_rules.proofs.Stating.{stated-accepted}
use Rattle.certificate_rules.proofs.laws.stated_is_accepted.Goals as goal

pub returns : goal.returns
returns c = stated-accepted
