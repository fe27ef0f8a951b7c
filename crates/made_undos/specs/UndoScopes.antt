-- What is known of a world where statements of reverse sweeps are made.
use Rattle.std.specs.Prelude.{◌≡◌, ℕ, ◌<◌, Bool, true, false, List, [], map, length, Option, None}
use Rattle.fl_types.specs.declared.choice.Choice.{Choice}
use Rattle.fl_ast.specs.Tree.{Subroutine}
use Rattle.store_core.specs.declared.layout.Shape.{Shape}
use Rattle.store_core.specs.Keys.{keys_of}
use Rattle.resolved.specs.SlotTables.{Names, names_of}
use Rattle.resolved.specs.ResolvedExprs.{slot_name}
use Rattle.loop_scopes.specs.Scopes.{IsScope, are_declared_placed}
use Rattle.transposition.specs.Worlds.{World}
use Rattle.transposition.specs.Programs.{program_world}
use Rattle.made_growths.specs.Told.{Told, choice_in, IsGrowing}

-- the world is of these names, with what is told of them, in the loops of these variables; `region` is the number of the parallel one
pub record IsUndoScope (names : Names) (t : Told) (accessed reduced : List Bool) (region : Option ℕ) (outer : List (List ℕ)) (w : World) : Type 0 where
  pub scope : IsScope names t.pushed accessed reduced outer w.site
  pub growing : IsGrowing names t region w
  pub choosing : (number slot : ℕ) → slot < length names.0 → w.choices number (slot_name names.0 slot) ≡ choice_in t number slot
  pub sharing : w.shared ≡ t.shared

-- the world is outside every loop
abbrev pub IsUndoOutside : Names → Told → World → Type 0
IsUndoOutside names t w = IsUndoScope names t (map (λ (s : Shape). false) names.0) (map (λ (s : Shape). false) names.0) None [] w

-- the world of a program is outside of its loops, and each of its declared names has a slot, where what is told is told of it
abbrev pub OpeningIsUndone : Type 0
OpeningIsUndone =
    (p : Subroutine) (es : List Shape) (pushed active : List ℕ → Bool) (choices : ℕ → List ℕ → Choice) (t : Told)
    → let names = names_of es p.decls in
    t.pushed ≡ map (λ (s : Shape). pushed s.name) names.0 → t.active ≡ map (λ (s : Shape). active s.name) names.0
    → ((number slot : ℕ) → slot < length names.0 → choices number (slot_name names.0 slot) ≡ choice_in t number slot) → t.shared ≡ length (keys_of es)
    → (are_declared_placed names ≡ true) × IsUndoOutside names t (program_world p es pushed active choices)
