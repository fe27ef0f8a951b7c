use Rattle.certificate_rules.proofs.Sound.{accepted-disjoint}
use Rattle.certificate_rules.proofs.DecidedCloses.{tests-decide}
use Rattle.certificate_rules.proofs.laws.accepted_is_disjoint.Goals as goal

pub returns-clause-disjoint : goal.returns-clause-disjoint
returns-clause-disjoint c = accepted-disjoint

pub returns-clause-tests : goal.returns-clause-tests
returns-clause-tests c = tests-decide
