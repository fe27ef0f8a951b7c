use Rattle.std.proofs.Common.{◌≡◌, drop}
use Rattle.index_forms.specs.Listed.{forms_seen, all_forms_seen}
use Rattle.index_knowledge.specs.Knowledge.{pairing, with_pairs_of}
use Rattle.index_knowledge.specs.Told.{pairs_told}
use Rattle.index_knowledge.proofs.pair.push_pairs_of.Given as goal

abbrev pub invariant-loop-i : goal.invariant-loop-i
invariant-loop-i l =
    let c = pairing l.loop_number l.nest l.name in
    with_pairs_of c l.first (forms_seen l.ones) (drop l.i l.rights) (drop l.i l.accesses) (all_forms_seen (drop l.i l.twos)) (pairs_told l.all)
    ≡ with_pairs_of c l.first (forms_seen l.ones) (drop l.from l.rights) (drop l.from l.accesses) (all_forms_seen (drop l.from l.twos)) (pairs_told l.initial.all)
