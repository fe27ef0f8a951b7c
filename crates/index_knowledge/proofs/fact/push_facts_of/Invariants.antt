use Rattle.std.proofs.Common.{◌≡◌, drop}
use Rattle.index_forms.specs.Listed.{forms_seen, all_forms_seen}
use Rattle.index_knowledge.specs.Knowledge.{with_facts_of}
use Rattle.index_knowledge.specs.Told.{facts_told}
use Rattle.index_knowledge.proofs.fact.push_facts_of.Given as goal

abbrev pub invariant-loop-i : goal.invariant-loop-i
invariant-loop-i l =
    with_facts_of l.first (forms_seen l.ones) (drop l.i l.accesses) (all_forms_seen (drop l.i l.twos)) (facts_told l.all)
    ≡ with_facts_of l.first (forms_seen l.ones) l.accesses (all_forms_seen l.twos) (facts_told l.initial.all)
