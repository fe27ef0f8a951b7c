use Rattle.std.proofs.Common.{◌≡◌, ◌≤◌, drop, Some}
use Rattle.index_ranges.specs.Told.{ranges_told}
use Rattle.certificate_rules.specs.Tests.{Interval, interval}
use Rattle.acceptance.proofs.InnerRuns.{seen}
use Rattle.acceptance.proofs.range.interval.Given as goal

abbrev pub invariant-loop-i : goal.invariant-loop-i
invariant-loop-i l = (l.i ≤ l.count) × (let w : Interval = record { low = l.low; high = l.high; last = seen (drop l.count l.terms) } in Some w ≡ interval (ranges_told l.ranges) (seen (drop l.i l.terms)))
