-- Runs and adjoints with the choices that go by what is known of a program's loops.
use Rattle.std.specs.Prelude.{◌≡◌, ℕ, ◌+◌, ◌<◌, ◌^◌, All, true, false, List, length, Some, Ok, slice_index}
use Rattle.fl_ast.specs.declared.stmt.Program.{Program}
use Rattle.fl_ast.specs.Tree.{stmt_trees, program_tree}
use Rattle.fl_types.specs.Sharing.{has_name}
use Rattle.store_core.specs.declared.values.Entry.{Entry}
use Rattle.store_core.specs.Places.{shapes_of}
use Rattle.meaning.specs.declared.value.Dual.{Dual}
use Rattle.meaning.specs.declared.value.Value.TheVariants.{Ring}
use Rattle.meaning.specs.Logs.{events}
use Rattle.meaning.specs.Sites.{Cells}
use Rattle.meaning.specs.Expressions.{content}
use Rattle.meaning.specs.Stops.{Limits, by_conflict, at_end, first_stop}
use Rattle.meaning.specs.Adjoints.{cells_along, unit}
use Rattle.meaning.specs.Programs.{entry_cells, run_of, adjoint_of}
use Rattle.transposition.specs.Worlds.{World, name_at}
use Rattle.transposition.specs.Law.{Like, AreWords}
use Rattle.transposition.specs.Calms.{IsCalmAll}
use Rattle.transposition.specs.Answer.{reverse_run}
use Rattle.certificate.specs.declared.derivation.Given.{Given}
use Rattle.adjoint_sets.specs.Names.{is_active, is_needed}
use Rattle.loop_choices.specs.Choosing.{choice_in}
use Rattle.program_certificates.specs.Choices.{choices_with}
use Rattle.undo_steps.specs.UndoSteps.{UndoTrees}
use Rattle.undo_steps.specs.UndosStand.{AllUndoStand}
use Rattle.run_law.specs.Machine.{names_in, machine_cells}
use Rattle.sound_programs.specs.Uses.{outer_use}
use Rattle.sound_programs.specs.Accepted.{IsAccepted, world_of_program}

-- the world of a program's reverse part with these choices, by derivations that are given
abbrev pub known_world : Program → (of wrt : List (List ℕ)) → List Entry → List Given → World
known_world p of wrt values givens = world_of_program p of wrt values (choice_in (choices_with p (is_active p of wrt) givens))

-- The run of an accepted program being stopped by nothing, any two iterations of each of its parallel loops are calm: no touches of theirs
-- conflict, and no place of a Shared name is read by both for active names. So their reverse iterations are apart from each other.
abbrev pub KnownIsCalm : Type 0
KnownIsCalm =
    (p : Program) (of wrt : List (List ℕ)) (values : List Entry) (givens : List Given) (limits : Limits) (words : List ℕ) (s2 : Cells) (j : ℕ)
    → let w = known_world p of wrt values givens in
    let s = entry_cells (program_tree p) (shapes_of p values) words in
    IsAccepted p of wrt → All (λ x. x < 2 ^ 64) words
    → (run_of (program_tree p) (shapes_of p values) (is_needed p (is_active p of wrt)) s).out ≡ Ok s2
    → first_stop by_conflict limits (events (run_of (program_tree p) (shapes_of p values) (is_needed p (is_active p of wrt)) s).log) ≡ at_end
    → IsCalmAll (stmt_trees p.body) w (cells_along (unit j) s)

-- and the reverse part with these choices leaves the program's adjoint
abbrev pub KnownIsTransposed : Type 0
KnownIsTransposed =
    (p : Program) (of wrt : List (List ℕ)) (values : List Entry) (givens : List Given) (limits : Limits) (words vs seed : List ℕ) (s2 : Cells)
    (j : ℕ) (d : Dual)
    → let w = known_world p of wrt values givens in
    let s = entry_cells (program_tree p) (shapes_of p values) words in
    IsAccepted p of wrt → All (λ x. x < 2 ^ 64) words
    → (run_of (program_tree p) (shapes_of p values) (is_needed p (is_active p of wrt)) s).out ≡ Ok s2
    → first_stop by_conflict limits (events (run_of (program_tree p) (shapes_of p values) (is_needed p (is_active p of wrt)) s).log) ≡ at_end
    → Like (outer_use p of wrt) w.site.keys vs s2 → length vs ≡ length w.site.keys → length seed ≡ length w.site.keys → AreWords seed
    → ((q : ℕ) → has_name (name_at w.site.keys q) of ≡ false → slice_index seed q ≡ 0)
    → j < w.shared → content s j ≡ Some (Ring d) → has_name (name_at w.site.keys j) wrt ≡ true → is_active p of wrt (name_at w.site.keys j) ≡ true
    → slice_index (reverse_run w (stmt_trees p.body) s vs seed).cells (w.shared + j) ≡ adjoint_of (program_tree p) (shapes_of p values) words seed j

-- and so does the machine of reverse sweeps, from statements that stand for what they undo with these choices
abbrev pub KnownMachineIsTransposed : Type 0
KnownMachineIsTransposed =
    (p : Program) (of wrt : List (List ℕ)) (values : List Entry) (givens : List Given) (limits : Limits) (words vs seed : List ℕ) (s2 : Cells)
    (j : ℕ) (d : Dual) (us : UndoTrees)
    → let w = known_world p of wrt values givens in
    let s = entry_cells (program_tree p) (shapes_of p values) words in
    IsAccepted p of wrt → AllUndoStand (names_in p values) w us (stmt_trees p.body) → All (λ x. x < 2 ^ 64) words
    → (run_of (program_tree p) (shapes_of p values) (is_needed p (is_active p of wrt)) s).out ≡ Ok s2
    → first_stop by_conflict limits (events (run_of (program_tree p) (shapes_of p values) (is_needed p (is_active p of wrt)) s).log) ≡ at_end
    → Like (outer_use p of wrt) w.site.keys vs s2 → length vs ≡ length w.site.keys → length seed ≡ length w.site.keys → AreWords seed
    → ((q : ℕ) → has_name (name_at w.site.keys q) of ≡ false → slice_index seed q ≡ 0)
    → j < w.shared → content s j ≡ Some (Ring d) → has_name (name_at w.site.keys j) wrt ≡ true → is_active p of wrt (name_at w.site.keys j) ≡ true
    → slice_index (machine_cells p values w words vs seed us) (w.shared + j) ≡ adjoint_of (program_tree p) (shapes_of p values) words seed j
