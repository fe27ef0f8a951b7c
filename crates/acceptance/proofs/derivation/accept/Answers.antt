use Rattle.index_knowledge.specs.Told.{pair_told}
use Rattle.acceptance.specs.Told.{survey_of, derivation_told}
use Rattle.acceptance.proofs.LinesOf.{accepted_exact, accepted_disjoint}
use Rattle.acceptance.proofs.derivation.accept.Goals as goal

pub returns-clause-exact : goal.returns-clause-exact
returns-clause-exact c = accepted_exact (survey_of c.args.knowledge.now) (pair_told c.args.pair.now) (derivation_told c.args.derivation.now) c.in_ok-is_accepted.field-0 c.in_ok-is_accepted.ensures

pub returns-clause-disjoint : goal.returns-clause-disjoint
returns-clause-disjoint c = accepted_disjoint (survey_of c.args.knowledge.now) (pair_told c.args.pair.now) (derivation_told c.args.derivation.now) c.in_ok-is_accepted.field-0 c.in_ok-is_accepted.ensures
