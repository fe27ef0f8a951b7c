use Rattle.std.proofs.Common.{◌≡◌, drop}
use Rattle.index_forms.specs.Listed.{all_forms_seen}
use Rattle.index_knowledge.specs.Knowledge.{with_facts, facts}
use Rattle.index_knowledge.specs.Told.{facts_told}
use Rattle.index_knowledge.proofs.fact.facts.Given as goal

abbrev pub invariant-loop-i : goal.invariant-loop-i
invariant-loop-i l =
    with_facts (drop l.i l.accesses) (all_forms_seen (drop l.i l.ones)) l.accesses (all_forms_seen l.twos) (facts_told l.all)
    ≡ facts l.accesses (all_forms_seen l.ones) (all_forms_seen l.twos)
