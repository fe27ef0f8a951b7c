use Rattle.std.proofs.Common.{◌≡◌, drop}
use Rattle.index_knowledge.specs.Told.{pair_told}
use Rattle.certificate_check.specs.Pairs.{loop_of}
use Rattle.sharing_choice.specs.Choosing.{given_for}
use Rattle.sharing_choice.proofs.derivation.given_for.Given as goal

abbrev pub invariant-loop-i : goal.invariant-loop-i
invariant-loop-i l = given_for (loop_of l.around) (drop l.i l.givens) (pair_told l.pair) ≡ given_for (loop_of l.around) l.givens (pair_told l.pair)
