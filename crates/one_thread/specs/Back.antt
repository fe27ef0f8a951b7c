-- What the reverse part of a run leaves, from what the forward part left.
use Rattle.std.specs.Prelude.{◌≡◌, ℕ, ◌-◌, ◌%◌, ◌^◌, Bool, List, length, drop, Ok}
use Rattle.fl_ast.specs.Tree.{Subroutine}
use Rattle.fl_types.specs.declared.choice.Chosen.{Chosen}
use Rattle.store_core.specs.declared.layout.Shape.{Shape}
use Rattle.store_core.specs.Keys.{keys_of}
use Rattle.store_core.specs.Tapes.{Item}
use Rattle.meaning.specs.declared.value.TrapAt.{TrapAt}
use Rattle.meaning.specs.Logs.{Traced}
use Rattle.meaning.specs.Sites.{Cells}
use Rattle.meaning.specs.Stops.{by_conflict, at_end}
use Rattle.meaning.specs.Laws.{values_out}
use Rattle.resolved.specs.SlotTables.{names_of}
use Rattle.transposition.specs.Tapes.{Tape, empty, tape_after}
use Rattle.undo_steps.specs.UndoSteps.{UndoTrees}
use Rattle.undo_steps.specs.UndosStand.{AllUndoStand}
use Rattle.forward_law.specs.Forward.{tape_back}
use Rattle.forward_run.specs.Swept.{stop_in}
use Rattle.reverse_opening.specs.Chosen.{chosen_world}
use Rattle.reverse_run.specs.Undoing.{swept_back, swept_adds}

-- a run that nothing stops has ended with these cells and this tape
pub record HasRun (t : Traced TrapAt Cells) (cells : Cells) (tape : List Item) : Type 0 where
  pub ends : stop_in by_conflict t ≡ at_end
  pub cells_are : values_out t.out ≡ Ok cells
  pub tape_is : tape_back tape ≡ tape_after t.log empty

-- how many places live in loops alone
abbrev pub further : Subroutine → List Shape → ℕ
further p shapes = length (keys_of (names_of shapes p.decls).0) - length (keys_of shapes)

-- the adjoints, and the number of atomic additions to them, after statements that undo the program's are run on a tape, from the values
-- and the seed of each place
pub record IsUndoneTo (p : Subroutine) (shapes : List Shape) (pushed active : List ℕ → Bool) (choices : List Chosen) (tape : Tape) (cells adjoints : List ℕ) (adds : ℕ) : Type 0 where
  pub us : UndoTrees
  pub stands : AllUndoStand (names_of shapes p.decls) (chosen_world p shapes pushed active choices) us p.body
  pub adjoints_are : adjoints ≡ drop (length (keys_of shapes)) (swept_back (names_of shapes p.decls) (length (keys_of shapes)) us tape (further p shapes) cells)
  pub adds_are : adds ≡ swept_adds (names_of shapes p.decls) (length (keys_of shapes)) us tape (further p shapes) cells % 2 ^ 64
