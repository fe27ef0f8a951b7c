-- What the machine of reverse sweeps leaves of an accepted program's run.
use Rattle.std.specs.Prelude.{◌≡◌, ℕ, ◌+◌, ◌<◌, ◌^◌, All, true, false, List, length, Some, Ok, slice_index}
use Rattle.fl_ast.specs.declared.stmt.Program.{Program}
use Rattle.fl_ast.specs.Tree.{stmt_trees, program_tree}
use Rattle.fl_types.specs.declared.choice.Choice.{Choice}
use Rattle.fl_types.specs.Sharing.{has_name}
use Rattle.store_core.specs.declared.values.Entry.{Entry}
use Rattle.store_core.specs.Places.{shapes_of}
use Rattle.meaning.specs.declared.value.Dual.{Dual}
use Rattle.meaning.specs.declared.value.Value.TheVariants.{Ring}
use Rattle.meaning.specs.Logs.{events}
use Rattle.meaning.specs.Sites.{Cells}
use Rattle.meaning.specs.Expressions.{content}
use Rattle.meaning.specs.Statements.{run_all}
use Rattle.meaning.specs.Stops.{Limits, by_conflict, at_end, first_stop}
use Rattle.meaning.specs.Adjoints.{cells_along, unit}
use Rattle.meaning.specs.Programs.{entry_cells, run_of, adjoint_of}
use Rattle.resolved.specs.SlotTables.{Names, names_of}
use Rattle.transposition.specs.Tapes.{empty, tape_after}
use Rattle.transposition.specs.Worlds.{World, name_at}
use Rattle.transposition.specs.Law.{flat, local, Like, AreWords, SharedApart}
use Rattle.transposition.specs.Calms.{PairwiseAll}
use Rattle.adjoint_sets.specs.Names.{is_active, is_needed}
use Rattle.undo_steps.specs.UndoSteps.{UndoTrees}
use Rattle.undo_steps.specs.UndosStand.{AllUndoStand}
use Rattle.reverse_sweep.specs.Reversing.{reversing}
use Rattle.reverse_sweep.specs.Machine.{undos_run}
use Rattle.reverse_law.specs.Reverse.{at_first}
use Rattle.sound_programs.specs.Uses.{outer_use, AreFitting}
use Rattle.sound_programs.specs.Accepted.{IsAccepted, world_of_program, made_choices}

-- the names of a program's table
abbrev pub names_in : Program → List Entry → Names
names_in p values = names_of (shapes_of p values) p.decls

-- the cells after the machine has undone a run from these words: on that run's tape, with values vs and the adjoints of a seed
abbrev pub machine_cells : (p : Program) → List Entry → World → (words vs seed : List ℕ) → UndoTrees → List ℕ
machine_cells p values w words vs seed us =
    let s = entry_cells (program_tree p) (shapes_of p values) words in
    let l = local w.shared (tape_after (run_all (stmt_trees p.body) w.site s).log empty) vs seed in
    (undos_run (names_in p values) w.shared us (reversing l (at_first (flat w.shared vs seed)))).stage.cells

-- The run of an accepted program being stopped by nothing, the machine leaves on its tape and the final values of the needed names, in
-- the adjoint's cell of each place of an active name of `wrt`, the adjoint of the program, for a seed on the names of `of` alone; that
-- the differentiated reads of names with the choice Shared are apart is for certificates to show.
abbrev pub MachineIsAccepted : Type 0
MachineIsAccepted =
    (p : Program) (of wrt : List (List ℕ)) (values : List Entry) (choices : ℕ → List ℕ → Choice) (limits : Limits) (words vs seed : List ℕ)
    (s2 : Cells) (j : ℕ) (d : Dual) (us : UndoTrees)
    → let w = world_of_program p of wrt values choices in
    let s = entry_cells (program_tree p) (shapes_of p values) words in
    IsAccepted p of wrt → AreFitting p (is_active p of wrt) choices
    → AllUndoStand (names_in p values) w us (stmt_trees p.body)
    → PairwiseAll SharedApart (stmt_trees p.body) w (cells_along (unit j) s) → All (λ x. x < 2 ^ 64) words
    → (run_of (program_tree p) (shapes_of p values) (is_needed p (is_active p of wrt)) s).out ≡ Ok s2
    → first_stop by_conflict limits (events (run_of (program_tree p) (shapes_of p values) (is_needed p (is_active p of wrt)) s).log) ≡ at_end
    → Like (outer_use p of wrt) w.site.keys vs s2 → length vs ≡ length w.site.keys → length seed ≡ length w.site.keys → AreWords seed
    → ((q : ℕ) → has_name (name_at w.site.keys q) of ≡ false → slice_index seed q ≡ 0)
    → j < w.shared → content s j ≡ Some (Ring d) → has_name (name_at w.site.keys j) wrt ≡ true → is_active p of wrt (name_at w.site.keys j) ≡ true
    → slice_index (machine_cells p values w words vs seed us) (w.shared + j) ≡ adjoint_of (program_tree p) (shapes_of p values) words seed j

-- for the choices that are made where nothing is known of which iterations meet, nothing is to be shown of reads
abbrev pub MadeMachineIsTransposed : Type 0
MadeMachineIsTransposed =
    (p : Program) (of wrt : List (List ℕ)) (values : List Entry) (limits : Limits) (words vs seed : List ℕ) (s2 : Cells) (j : ℕ) (d : Dual)
    (us : UndoTrees)
    → let w = world_of_program p of wrt values (made_choices p of wrt) in
    let s = entry_cells (program_tree p) (shapes_of p values) words in
    IsAccepted p of wrt → AllUndoStand (names_in p values) w us (stmt_trees p.body) → All (λ x. x < 2 ^ 64) words
    → (run_of (program_tree p) (shapes_of p values) (is_needed p (is_active p of wrt)) s).out ≡ Ok s2
    → first_stop by_conflict limits (events (run_of (program_tree p) (shapes_of p values) (is_needed p (is_active p of wrt)) s).log) ≡ at_end
    → Like (outer_use p of wrt) w.site.keys vs s2 → length vs ≡ length w.site.keys → length seed ≡ length w.site.keys → AreWords seed
    → ((q : ℕ) → has_name (name_at w.site.keys q) of ≡ false → slice_index seed q ≡ 0)
    → j < w.shared → content s j ≡ Some (Ring d) → has_name (name_at w.site.keys j) wrt ≡ true → is_active p of wrt (name_at w.site.keys j) ≡ true
    → slice_index (machine_cells p values w words vs seed us) (w.shared + j) ≡ adjoint_of (program_tree p) (shapes_of p values) words seed j
