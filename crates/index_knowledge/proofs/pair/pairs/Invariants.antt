use Rattle.std.proofs.Common.{◌≡◌, drop}
use Rattle.index_forms.specs.Listed.{all_forms_seen}
use Rattle.index_knowledge.specs.Knowledge.{pairing, with_pairs, pairs}
use Rattle.index_knowledge.specs.Told.{pairs_told}
use Rattle.index_knowledge.proofs.pair.pairs.Given as goal

abbrev pub invariant-loop-i : goal.invariant-loop-i
invariant-loop-i l =
    let c = pairing l.loop_number l.nest l.name in
    with_pairs c (drop l.i l.rights) (drop l.i l.accesses) (all_forms_seen (drop l.i l.ones)) (all_forms_seen (drop l.i l.twos)) (pairs_told l.all)
    ≡ pairs c l.rights l.accesses (all_forms_seen l.ones) (all_forms_seen l.twos)
