use Rattle.std.proofs.Common.{◌≡◌, take}
use Rattle.reversal.proofs.copy.+copy.Given as goal

abbrev pub invariant-copies-loop-i : goal.invariant-copies-loop-i
invariant-copies-loop-i l = l.all ≡ take l.i l.exprs
