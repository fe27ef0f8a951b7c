use Rattle.index_knowledge.specs.Told.{pair_told}
use Rattle.acceptance.specs.Told.{survey_of}
use Rattle.disjoint_prover.proofs.FactCases.{accepted_where}
use Rattle.disjoint_prover.proofs.plain.prove.Goals as goal

pub returns-clause-accepted : goal.returns-clause-accepted
returns-clause-accepted c = accepted_where (survey_of c.args.knowledge.now) (pair_told c.args.pair.now) c.in_ok-by_cases.field-0 c.in_ok-by_cases.ensures
