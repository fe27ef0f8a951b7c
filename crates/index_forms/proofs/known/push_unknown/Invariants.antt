use Rattle.std.proofs.Common.{◌≡◌, ◌++◌, drop}
use Rattle.index_forms.specs.Origins.{unknown_of}
use Rattle.index_forms.proofs.known.push_unknown.Given as goal

abbrev pub invariant-loop-i : goal.invariant-loop-i
invariant-loop-i l = l.entries ++ unknown_of (drop l.i l.names) ≡ l.initial.entries ++ unknown_of l.names
