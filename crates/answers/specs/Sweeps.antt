-- What `run` answers for every program: the values that the program ends with, and the transposed derivative applied to the weights; and
-- what its two sweeps begin with.
use Rattle.std.specs.Prelude.{ℕ, ◌-◌, ◌%◌, ◌^◌, Bool, true, false, List, [], ◌++◌, map, length, replicate, None}
use Rattle.fl_ast.specs.declared.stmt.Program.{Program}
use Rattle.fl_ast.specs.Tree.{program_tree, stmt_trees}
use Rattle.fl_types.specs.declared.choice.Chosen.{Chosen}
use Rattle.store_core.specs.declared.layout.Shape.{Shape}
use Rattle.store_core.specs.declared.values.Args.{Args}
use Rattle.store_core.specs.declared.values.Entry.{Entry}
use Rattle.store_core.specs.declared.values.Weights.{Weights}
use Rattle.store_core.specs.Filled.{place_words}
use Rattle.store_core.specs.Keys.{keys_of}
use Rattle.meaning.specs.declared.value.TrapAt.{TrapAt}
use Rattle.meaning.specs.Logs.{Traced}
use Rattle.meaning.specs.Sites.{Cells}
use Rattle.meaning.specs.Programs.{meaning, words_after}
use Rattle.transposition.specs.Programs.{program_world}
use Rattle.transposition.specs.Tapes.{Tape, empty, tape_after}
use Rattle.transposition.specs.Worlds.{World, Local}
use Rattle.reverse_law.specs.Adds.{adds_of_all}
use Rattle.adjoint_choices.specs.Choosing.{choices_of}
use Rattle.adjoint_sets.specs.Names.{is_active, is_needed}
use Rattle.loop_choices.specs.Choosing.{choice_in}
use Rattle.data_io.specs.declared.answer.Answer.{Answer}
use Rattle.answers.specs.Runs.{shown_at, values_of, adjoints_of, text_of}

-- ---- the forward sweep

-- the words of all places at a run's entry, 0 where nothing is given
abbrev pub entry_words : List Shape → Args → List ℕ
entry_words shapes args = place_words shapes args.entries

-- the weights of all places, 0 where none is given
abbrev pub seed_words : List Shape → Weights → List ℕ
seed_words shapes weights = place_words shapes weights.entries

-- the run that pushes the old values of the needed names
abbrev pub forward_run : Program → List Shape → Args → (of wrt : List (List ℕ)) → Traced TrapAt Cells
forward_run program shapes args of wrt =
    meaning (program_tree program) shapes (is_needed program (is_active program of wrt)) (entry_words shapes args) []

abbrev pub tape_left : Program → List Shape → Args → (of wrt : List (List ℕ)) → Tape
tape_left program shapes args of wrt = tape_after (forward_run program shapes args of wrt).log empty

-- the words of all places at its end
abbrev pub end_words : Program → List Shape → Args → (of wrt : List (List ℕ)) → List ℕ
end_words program shapes args of wrt = words_after (length (keys_of shapes)) (forward_run program shapes args of wrt).out

-- ---- the reverse sweep

-- how adjoints are incremented in each parallel loop, where nothing is known of which iterations meet
abbrev pub run_choices : Program → (of wrt : List (List ℕ)) → List Chosen
run_choices program of wrt = choices_of program (is_active program of wrt)

abbrev pub reverse_world : Program → List Shape → (of wrt : List (List ℕ)) → List Chosen → World
reverse_world program shapes of wrt choices =
    program_world (program_tree program) shapes (is_needed program (is_active program of wrt)) (is_active program of wrt) (choice_in choices)

-- how many places an iteration has of its own: those of names that the layout hasn't
abbrev pub own_count : World → ℕ
own_count w = length w.site.keys - w.shared

-- a tape, and words of an iteration's own, which are 0
abbrev pub opening_local : ℕ → Tape → Local
opening_local own tape = record { tape = tape; values = replicate own 0; adjoints = replicate own 0 }

abbrev pub reverse_entry : Program → List Shape → Args → (of wrt : List (List ℕ)) → Local
reverse_entry program shapes args of wrt =
    opening_local (own_count (reverse_world program shapes of wrt (run_choices program of wrt))) (tape_left program shapes args of wrt)

-- the values at the end, and the weights as adjoints
abbrev pub seeded_cells : Program → List Shape → Args → Weights → (of wrt : List (List ℕ)) → List ℕ
seeded_cells program shapes args weights of wrt = end_words program shapes args of wrt ++ seed_words shapes weights

-- ---- the answer

-- zeros in the place of the words of a name that isn't active
abbrev pub quiet_words : Bool → List ℕ → List ℕ
quiet_words true ws = ws
quiet_words false ws = replicate (length ws) 0

abbrev pub quiet_entry : (List ℕ → Bool) → Entry → Entry
quiet_entry active e = record e { words = quiet_words (active e.name) e.words }

abbrev pub quieted : (List ℕ → Bool) → Weights → Weights
quieted active weights = record { entries = map (quiet_entry active) weights.entries }

-- `adds` being the number of atomic additions
abbrev pub run_answer : Program → List Shape → Args → Weights → (of wrt : List (List ℕ)) → (adds : ℕ) → Answer
run_answer program shapes args weights of wrt adds = record {
  adds = adds;
  adjoint = shown_at program shapes (adjoints_of program shapes args weights) wrt;
  value = shown_at program shapes (values_of program shapes args) of;
  choices = record { entries = run_choices program of wrt };
  race = None;
}

-- how many atomic additions to adjoints the reverse sweep makes, modulo 2^64
abbrev pub adds_of : Program → List Shape → Args → Weights → (of wrt : List (List ℕ)) → ℕ
adds_of program shapes args weights of wrt =
    adds_of_all (stmt_trees program.body) (reverse_world program shapes of wrt (run_choices program of wrt)) (reverse_entry program shapes args of wrt)
    (seeded_cells program shapes args weights of wrt) % 2 ^ 64

unfoldable pub run_text : Program → List Shape → Args → Weights → (of wrt : List (List ℕ)) → List ℕ
run_text program shapes args weights of wrt = text_of (run_answer program shapes args weights of wrt (adds_of program shapes args weights of wrt))
