use Rattle.std.proofs.Common.{◌≡◌}
use Rattle.reverse_opening.specs.Chosen.{rows_below}
use Rattle.reverse_opening.proofs.choices.rows_of.Given as goal

abbrev pub invariant-loop-number : goal.invariant-loop-number
invariant-loop-number l = l.rows ≡ rows_below l.shapes l.entries l.number
