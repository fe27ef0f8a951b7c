use Rattle.std.proofs.Common.{◌≡◌, drop}
use Rattle.certificate_check.specs.Flaws.{loops_of, first_flaw}
use Rattle.certificate_check.proofs.flaw.first_flaw.Given as goal

abbrev pub invariant-loop-i : goal.invariant-loop-i
invariant-loop-i l = first_flaw l.active (loops_of l.loops) l.givens ≡ first_flaw l.active (loops_of l.loops) (drop l.i l.givens)
