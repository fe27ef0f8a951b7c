use Rattle.std.proofs.Common.{◌≡◌, drop}
use Rattle.std.specs.List.{list_all}
use Rattle.certificate_check.specs.Pairs.{loop_of}
use Rattle.sharing_choice.specs.Choosing.{is_shown, pairs_with}
use Rattle.sharing_choice.proofs.shown.are_shown_with.Given as goal

-- where those so far are shown, it is as the others are
abbrev pub invariant-loop-i : goal.invariant-loop-i
invariant-loop-i l =
    list_all (is_shown (loop_of l.around) l.givens) (pairs_with l.names (loop_of l.around) l.first (drop l.i l.accesses))
    ≡ list_all (is_shown (loop_of l.around) l.givens) (pairs_with l.names (loop_of l.around) l.first (drop l.from l.accesses))
