use Rattle.std.proofs.Common.{◌≡◌, ◌||◌, List, ℕ, drop}
use Rattle.fl_types.specs.Sharing.{has_name}
use Rattle.known_names.proofs.indexed.mark_names.Given as goal

-- with those of the rest all are there
abbrev pub invariant-loop-name : goal.invariant-loop-name
invariant-loop-name l = (x : List ℕ) → (has_name x (drop l.name-index l.names) || has_name x l.keys) ≡ (has_name x l.names || has_name x l.fn.keys)
