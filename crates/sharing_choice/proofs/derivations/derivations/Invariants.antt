use Rattle.std.proofs.Common.{◌≡◌, ◌++◌, map, drop}
use Rattle.certificate_check.specs.Flaws.{loops_of}
use Rattle.sharing_choice.specs.Choosing.{derivations}
use Rattle.sharing_choice.specs.Shown.{given_told}
use Rattle.sharing_choice.proofs.derivations.derivations.Given as goal

abbrev pub invariant-loop-i : goal.invariant-loop-i
invariant-loop-i l = map given_told l.all ++ derivations l.which l.chosen (loops_of (drop l.i l.loops)) l.givens ≡ derivations l.which l.chosen (loops_of l.loops) l.givens
