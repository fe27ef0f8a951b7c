use Rattle.std.proofs.Common.{◌≡◌, max, drop}
use Rattle.reverse_opening.specs.Chosen.{count_in}
use Rattle.reverse_opening.proofs.choices.count_of.Given as goal

-- the count so far and that of the rest
abbrev pub invariant-loop-entry : goal.invariant-loop-entry
invariant-loop-entry l = max l.count (count_in (drop l.entry-index l.entries)) ≡ count_in l.entries
