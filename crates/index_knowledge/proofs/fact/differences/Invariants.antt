use Rattle.std.proofs.Common.{◌≡◌, ◌++◌, drop, map}
use Rattle.index_forms.specs.Seen.{form_tree}
use Rattle.index_forms.specs.Sums.{differences}
use Rattle.index_forms.specs.Listed.{forms_seen}
use Rattle.index_knowledge.proofs.fact.differences.Given as goal

abbrev pub invariant-loop-i : goal.invariant-loop-i
invariant-loop-i l =
    map form_tree l.all ++ differences (forms_seen (drop l.i l.ones)) (forms_seen (drop l.i l.twos)) ≡ differences (forms_seen l.ones) (forms_seen l.twos)
