use Rattle.std.proofs.Common.{◌≡◌, ◌||◌, List, ℕ, drop, map}
use Rattle.fl_types.specs.Sharing.{has_name}
use Rattle.loop_accesses.specs.Views.{referred}
use Rattle.loop_accesses.proofs.classes.mark_referred.Given as goal

-- with those of the rest all are there
abbrev pub invariant-loop-i : goal.invariant-loop-i
invariant-loop-i l = (x : List ℕ) → (has_name x (map referred (drop l.i l.names)) || has_name x l.keys) ≡ (has_name x (map referred l.names) || has_name x l.fn.keys)
