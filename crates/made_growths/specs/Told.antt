-- What is told of a program's names, slot by slot, and the worlds that it is told of.
use Rattle.std.specs.Prelude.{◌≡◌, ℕ, ◌<◌, Bool, List, map, length, Option, Some, None, slice_get}
use Rattle.fl_types.specs.declared.choice.Choice.{Choice}
use Rattle.fl_types.specs.declared.choice.Choice.TheVariants as choice
use Rattle.store_core.specs.declared.layout.Shape.{Shape}
use Rattle.resolved.specs.SlotTables.{Names}
use Rattle.resolved.specs.ResolvedExprs.{slot_name}
use Rattle.transposition.specs.Worlds.{World}
use Rattle.made_growths.specs.declared.names.UndoNames.{UndoNames}

pub record Told : Type 0 where
  pub pushed : List Bool
  pub active : List Bool
  pub choices : List (List Choice)
  pub shared : ℕ

abbrev pub told : UndoNames → Told
told n = record { pushed = n.pushed.now; active = n.active.now; choices = n.choices.now; shared = n.shared }

abbrev pub choice_or : Option Choice → Choice
choice_or None = choice.Atomic
choice_or (Some c) = c

abbrev pub in_row : Option (List Choice) → ℕ → Choice
in_row None slot = choice.Atomic
in_row (Some row) slot = choice_or (slice_get row slot)

-- how the adjoint of a slot's name is incremented in the parallel loop with a number
abbrev pub choice_in : Told → ℕ → ℕ → Choice
choice_in t number slot = in_row (slice_get t.choices number) slot

-- and where a statement stands: outside of parallel loops, or in the one with a number
abbrev pub choice_here : Told → Option ℕ → ℕ → Choice
choice_here t None slot = choice.Shared
choice_here t (Some number) slot = choice_in t number slot

-- which names have adjoints in the world, and how these are incremented here
pub record IsGrowing (names : Names) (t : Told) (region : Option ℕ) (w : World) : Type 0 where
  pub actives : map (λ (s : Shape). w.active s.name) names.0 ≡ t.active
  pub choosing : (slot : ℕ) → slot < length names.0 → w.choice (slot_name names.0 slot) ≡ choice_here t region slot
