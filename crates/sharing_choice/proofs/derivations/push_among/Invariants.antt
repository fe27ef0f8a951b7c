use Rattle.std.proofs.Common.{◌≡◌, ◌++◌, map, drop}
use Rattle.certificate_check.specs.Pairs.{loop_of}
use Rattle.sharing_choice.specs.Choosing.{derived_pairs, pairs_among}
use Rattle.sharing_choice.specs.Shown.{given_told}
use Rattle.sharing_choice.proofs.derivations.push_among.Given as goal

abbrev pub invariant-loop-i : goal.invariant-loop-i
invariant-loop-i l =
    map given_told l.all ++ derived_pairs (loop_of l.around) l.givens (pairs_among l.names (loop_of l.around) (drop l.i l.accesses))
    ≡ map given_told l.fn.all ++ derived_pairs (loop_of l.around) l.givens (pairs_among l.names (loop_of l.around) l.accesses)
