-- What a team of workers needs.
use Rattle.std.specs.Prelude.{◌≡◌, ℕ, ◌≤◌, true, List, length}
use Rattle.op_table.specs.declared.view.View.{View}
use Rattle.op_table.specs.declared.plan.Key.{Key}
use Rattle.op_table.specs.Rule.{lists, position_of, Work}

-- each chunk that the view lists is at its end
abbrev pub AtEnds : Work → View → Type 0
AtEnds d v = (k : ℕ) → lists k v.held ≡ true → length (d.ops k) ≤ position_of k v.held

-- the table is for the plan's chunks, and its cells open as the plan says
abbrev pub IsFor : {P : Type 0} → (P → ℕ) → (P → List ℕ) → Key P → Type 0
IsFor many opens key = (many key.plan ≡ key.chunks) × (opens key.plan ≡ key.words.items)
