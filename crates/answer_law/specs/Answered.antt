-- What a run's reverse sweep leaves, and that it is what is answered.
use Rattle.std.specs.Prelude.{◌≡◌, ℕ, ◌<◌, ◌^◌, All, true, List, drop, length, Some, Ok}
use Rattle.serde_json.specs.Data.{Data}
use Rattle.serde_json.specs.Read.{read}
use Rattle.fl_ast.specs.declared.decl.Decl.{Decl}
use Rattle.fl_ast.specs.declared.stmt.Program.{Program}
use Rattle.fl_ast.specs.Tree.{stmt_trees}
use Rattle.fl_types.specs.Sharing.{has_name}
use Rattle.store_core.specs.declared.layout.Shape.{Shape}
use Rattle.store_core.specs.declared.values.Args.{Args}
use Rattle.store_core.specs.declared.values.Entry.{Entry}
use Rattle.store_core.specs.declared.values.Weights.{Weights}
use Rattle.store_core.specs.Keys.{keys_of}
use Rattle.store_core.specs.Places.{shapes_of}
use Rattle.meaning.specs.Laws.{values_out}
use Rattle.meaning.specs.Logs.{events}
use Rattle.meaning.specs.Sites.{Cells}
use Rattle.meaning.specs.Stops.{Limits, by_conflict, at_end, first_stop}
use Rattle.resolved.specs.SlotTables.{Names, names_of}
use Rattle.transposition.specs.Worlds.{Local}
use Rattle.adjoint_sets.specs.Names.{is_active}
use Rattle.undo_steps.specs.UndoSteps.{UndoTrees}
use Rattle.undo_steps.specs.UndosStand.{AllUndoStand}
use Rattle.reverse_sweep.specs.Reversing.{reversing}
use Rattle.reverse_sweep.specs.Machine.{undos_run}
use Rattle.reverse_law.specs.Reverse.{at_first}
use Rattle.sound_programs.specs.Accepted.{IsAccepted}
use Rattle.data_io.specs.DataFaults.{entries_of}
use Rattle.answers.specs.Runs.{shown_at, values_of, adjoints_of}
use Rattle.answers.specs.Sweeps.{forward_run, end_words, run_choices, reverse_world, reverse_entry, seeded_cells, quieted}

-- ---- what is left

-- the cells after statements are undone, n being the number of shared places
abbrev pub cells_back : Names → (n : ℕ) → UndoTrees → Local → List ℕ → List ℕ
cells_back names n us l cells = (undos_run names n us (reversing l (at_first cells))).stage.cells

-- the cells are what statements that undo the program's leave of the forward sweep's end and the weights
pub record IsBack (program : Program) (shapes : List Shape) (args : Args) (weights : Weights) (of wrt : List (List ℕ)) (left : List ℕ) : Type 0 where
  pub us : UndoTrees
  pub stands : AllUndoStand (names_of shapes program.decls) (reverse_world program shapes of wrt (run_choices program of wrt)) us (stmt_trees program.body)
  pub cells : left ≡ cells_back (names_of shapes program.decls) (length (keys_of shapes)) us (reverse_entry program shapes args of wrt)
      (seeded_cells program shapes args weights of wrt)

-- the adjoints among these cells, with zeros for names that aren't active, and the values at the end are those of the answer
pub record IsAnswered (program : Program) (shapes : List Shape) (args : Args) (weights : Weights) (of wrt : List (List ℕ)) (left : List ℕ) : Type 0 where
  pub adjoint : quieted (is_active program of wrt) (shown_at program shapes (drop (length (keys_of shapes)) left) wrt)
      ≡ shown_at program shapes (adjoints_of program shapes args weights) wrt
  pub value : shown_at program shapes (end_words program shapes args of wrt) of ≡ shown_at program shapes (values_of program shapes args) of

-- ---- what is read

-- all words are of 64 bits
abbrev pub AreSmall : List Entry → Type 0
AreSmall es = All (λ (e : Entry). All (λ w. w < 2 ^ 64) e.words) es

-- each name is one of these
abbrev pub AreAmong : List (List ℕ) → List Entry → Type 0
AreAmong names es = All (λ (e : Entry). has_name e.name names ≡ true) es

abbrev pub ReadWordsAreSmall : Type 0
ReadWordsAreSmall = (bytes : List ℕ) (decls : List Decl) (names : List (List ℕ)) (d : Data) → read bytes ≡ Some d → AreSmall (entries_of decls names d)

abbrev pub SeedsAreAsked : Type 0
SeedsAreAsked = (decls : List Decl) (names : List (List ℕ)) (d : Data) → AreAmong names (entries_of decls names d)

-- ---- the law

-- where the forward sweep of an accepted program is stopped by nothing, what the reverse sweep leaves is answered
abbrev pub MadeIsAnswered : Type 0
MadeIsAnswered =
    (program : Program) (args : Args) (weights : Weights) (of wrt : List (List ℕ)) (limits : Limits) (ended : Cells) (left : List ℕ)
    → let shapes = shapes_of program args.entries in
    IsAccepted program of wrt → AreSmall args.entries → AreSmall weights.entries → AreAmong of weights.entries
    → values_out (forward_run program shapes args of wrt).out ≡ Ok ended
    → first_stop by_conflict limits (events (forward_run program shapes args of wrt).log) ≡ at_end
    → IsBack program shapes args weights of wrt left
    → IsAnswered program shapes args weights of wrt left
