use Rattle.std.proofs.Common.{◌≡◌, ◌++◌, map, drop}
use Rattle.certificate_check.specs.Flaws.{loops_of}
use Rattle.sharing_choice.specs.Choosing.{chosen}
use Rattle.sharing_choice.proofs.choice.chosen_all.Given as goal

abbrev pub invariant-loop-i : goal.invariant-loop-i
invariant-loop-i l = l.all ++ map (chosen (loops_of l.loops) l.givens) (drop l.i l.entries) ≡ map (chosen (loops_of l.loops) l.givens) l.entries
