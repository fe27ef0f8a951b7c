use Rattle.std.proofs.Common.{◌≡◌, ◌+◌, ◌-◌, ◌++◌}
use Rattle.certificate_rules.specs.Plain.{numbers_from}
use Rattle.disjoint_prover.proofs.lines.numbers.Given as goal

abbrev pub invariant-loop-i : goal.invariant-loop-i
invariant-loop-i l = l.all ++ numbers_from (l.from + l.i) (l.count - l.i) ≡ numbers_from l.from l.count
