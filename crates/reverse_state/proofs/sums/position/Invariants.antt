use Rattle.std.proofs.Common.{◌≡◌, ℕ, drop, None}
use Rattle.reverse_sweep.specs.Reversing.{summed}
use Rattle.reverse_state.specs.Holding.{sums_back}
use Rattle.reverse_state.proofs.sums.position.Given as goal

abbrev pub invariant-loop-i : goal.invariant-loop-i
invariant-loop-i l = (a : ℕ) → summed l.cell a (sums_back (drop l.i l.sums)) ≡ None
