use Rattle.std.proofs.Common.{◌≡◌, drop}
use Rattle.index_forms.specs.Form.{name_order}
use Rattle.index_forms.proofs.comparison.bytes_order.Given as goal

abbrev pub invariant-loop-i : goal.invariant-loop-i
invariant-loop-i l = name_order l.m l.n ≡ name_order (drop l.i l.m) (drop l.i l.n)
