use Rattle.std.proofs.Common.{◌≡◌, suc, drop}
use Rattle.index_knowledge.specs.Told.{facts_told, pair_told}
use Rattle.certificate_rules.specs.Plain.{by_facts}
use Rattle.acceptance.specs.Told.{survey_of}
use Rattle.disjoint_prover.specs.FactRules.{derive}
use Rattle.disjoint_prover.proofs.plain.by_facts.Given as goal

abbrev pub invariant-loop-i : goal.invariant-loop-i
invariant-loop-i l =
    by_facts (derive l.rule (survey_of l.knowledge) (pair_told l.pair)) 1 (facts_told l.facts)
    ≡ by_facts (derive l.rule (survey_of l.knowledge) (pair_told l.pair)) (suc l.i) (facts_told (drop l.i l.facts))
