use Rattle.std.proofs.Common.{◌≡◌, drop, map, Some}
use Rattle.index_forms.specs.Parts.{sum_seen}
use Rattle.certificate_rules.specs.Accepted.{combined}
use Rattle.acceptance.specs.Told.{forms_in, multiple_told}
use Rattle.acceptance.proofs.combination.add_multiples.Given as goal

abbrev pub invariant-loop-i : goal.invariant-loop-i
invariant-loop-i l = Some (sum_seen l.sum) ≡ combined (forms_in l.above) (map multiple_told (drop l.i l.multiples))
