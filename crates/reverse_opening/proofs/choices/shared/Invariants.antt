use Rattle.std.proofs.Common.{◌≡◌, ◌++◌, drop}
use Rattle.loop_choices.specs.Choosing.{is_shared}
use Rattle.reverse_opening.specs.Chosen.{names_in}
use Rattle.reverse_opening.proofs.choices.shared.Given as goal

-- the names so far and those of the rest are all
abbrev pub invariant-loop-entry : goal.invariant-loop-entry
invariant-loop-entry l = l.names ++ names_in is_shared (drop l.entry-index l.entries) l.number ≡ names_in is_shared l.entries l.number
