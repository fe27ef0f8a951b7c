use Rattle.std.proofs.Common.{◌≡◌, drop}
use Rattle.index_ranges.specs.Told.{ranges_told}
use Rattle.certificate_rules.specs.Surveys.{range_of}
use Rattle.acceptance.proofs.range.range_of.Given as goal

abbrev pub invariant-loop-i : goal.invariant-loop-i
invariant-loop-i l = range_of (ranges_told l.ranges) l.number ≡ range_of (ranges_told (drop l.i l.ranges)) l.number
