-- What the run of a program in a direction answers.
use Rattle.std.specs.Prelude.{◌≡◌, ℕ, zero, suc, ◌+◌, if◌then◌else◌, List, [], ◌∷◌, ◌++◌, Option, Some, None, slice_get, slice_index, Result, Ok, Err}
use Rattle.fl_ast.specs.declared.kind.Kind.{Kind}
use Rattle.fl_ast.specs.Tree.{Subroutine}
use Rattle.fl_types.specs.Sharing.{has_name}
use Rattle.store_core.specs.declared.layout.Shape.{Shape}
use Rattle.store_core.specs.Keys.{size_of}
use Rattle.meaning.specs.declared.value.Value.{Value}
use Rattle.meaning.specs.Sites.{Cells, with_tangent}
use Rattle.meaning.specs.Stops.{at_end}
use Rattle.meaning.specs.Programs.{value_of_word, meaning, no_pushes, final_words, final_tangents}
use Rattle.dual_meaning.specs.declared.statements.RunStop.{RunStop}
use Rattle.dual_meaning.specs.declared.along.Tangents.{Tangents}
use Rattle.dual_meaning.specs.Runs.{stop_of, ticks_of, Stops}

-- the values and the tangents of all places at the end, with one tick for each statement instance; or the first stop
abbrev pub IsTangent : Subroutine → List Shape → (words direction : List ℕ) → Result Tangents RunStop → (before after : ℕ) → Type 0
IsTangent p shapes words direction (Ok found) before after =
    (found.values.items ≡ final_words p shapes words) × (found.tangents.items ≡ final_tangents p shapes words direction)
    × (stop_of (meaning p shapes no_pushes words direction) ≡ at_end) × (after ≡ before + ticks_of (meaning p shapes no_pushes words direction))
IsTangent p shapes words direction (Err stop) before after = Stops (meaning p shapes no_pushes words direction) stop before after

-- ---- the cells at the entry, name by name

-- a cell of a name of this kind, None being no argument, from its word and its tangent
abbrev pub entry_cell : Option Kind → Option ℕ → ℕ → Option Value
entry_cell None w t = None
entry_cell (Some kind) None t = None
entry_cell (Some kind) (Some w) t = with_tangent t (Some (value_of_word kind w))

-- n cells of a name from a place on
abbrev pub name_cells : Option Kind → (words tangents : List ℕ) → (at n : ℕ) → Cells
name_cells kind words tangents at zero = []
name_cells kind words tangents at (suc n) = entry_cell kind (slice_get words at) (slice_index tangents at) ∷ name_cells kind words tangents (at + 1) n

-- the kind of an argument
abbrev pub argument_kind : List (List ℕ) → Kind → List ℕ → Option Kind
argument_kind args kind x = if has_name x args then Some kind else None

-- the cells of all names from a place on, `kind` giving the kinds of names
abbrev pub shape_cells : (List ℕ → Kind) → List (List ℕ) → (words tangents : List ℕ) → ℕ → List Shape → Cells
shape_cells kind args words tangents at [] = []
shape_cells kind args words tangents at (s ∷ es) =
    name_cells (argument_kind args (kind s.name) s.name) words tangents at (size_of s.axes) ++ shape_cells kind args words tangents (at + size_of s.axes) es
