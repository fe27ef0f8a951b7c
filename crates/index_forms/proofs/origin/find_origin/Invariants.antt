use Rattle.std.proofs.Common.{◌≡◌, drop, None}
use Rattle.index_forms.specs.Origins.{origin_in}
use Rattle.index_forms.proofs.origin.find_origin.Given as goal

abbrev pub invariant-loop-i : goal.invariant-loop-i
invariant-loop-i l = origin_in (drop l.i l.entries) l.name ≡ None
