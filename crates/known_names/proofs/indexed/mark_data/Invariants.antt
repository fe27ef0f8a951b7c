use Rattle.std.proofs.Common.{◌≡◌, ◌||◌, List, ℕ, drop}
use Rattle.fl_types.specs.Sharing.{has_name, is_ring_name}
use Rattle.known_names.proofs.indexed.mark_data.Given as goal

-- with those of the rest all are there
abbrev pub invariant-loop-decl : goal.invariant-loop-decl
invariant-loop-decl l = (x : List ℕ) → (is_ring_name (drop l.decl-index l.decls) x || has_name x l.keys) ≡ (is_ring_name l.decls x || has_name x l.fn.keys)
