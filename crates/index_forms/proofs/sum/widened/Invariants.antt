use Rattle.std.proofs.Common.{◌≡◌, take}
use Rattle.index_forms.proofs.sum.widened.Given as goal

abbrev pub invariant-loop-i : goal.invariant-loop-i
invariant-loop-i l = l.all ≡ take l.i l.terms
