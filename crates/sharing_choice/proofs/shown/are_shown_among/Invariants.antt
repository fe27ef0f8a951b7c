use Rattle.std.proofs.Common.{◌≡◌, drop}
use Rattle.std.specs.List.{list_all}
use Rattle.certificate_check.specs.Pairs.{loop_of}
use Rattle.sharing_choice.specs.Choosing.{is_shown, pairs_among}
use Rattle.sharing_choice.proofs.shown.are_shown_among.Given as goal

abbrev pub invariant-loop-i : goal.invariant-loop-i
invariant-loop-i l =
    list_all (is_shown (loop_of l.around) l.givens) (pairs_among l.names (loop_of l.around) (drop l.i l.accesses))
    ≡ list_all (is_shown (loop_of l.around) l.givens) (pairs_among l.names (loop_of l.around) l.accesses)
