use Rattle.std.proofs.Common.{◌≡◌, ◌++◌, drop}
use Rattle.sharing_choice.specs.Choosing.{taken_names}
use Rattle.sharing_choice.proofs.derivations.taken_names.Given as goal

abbrev pub invariant-loop-i : goal.invariant-loop-i
invariant-loop-i l = l.names ++ taken_names l.which l.number (drop l.i l.chosen) ≡ taken_names l.which l.number l.chosen
