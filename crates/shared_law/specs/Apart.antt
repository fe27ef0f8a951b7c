-- Differentiated reads of names with the choice Shared, in different iterations of a parallel loop.
use Rattle.std.specs.Prelude.{◌≡◌, ℕ, ◌<◌, ◌^◌, All, Bool, List, Ok}
use Rattle.fl_ast.specs.declared.decl.Decl.{Decl}
use Rattle.fl_ast.specs.declared.stmt.Program.{Program}
use Rattle.fl_ast.specs.Tree.{stmt_trees, program_tree}
use Rattle.store_core.specs.declared.values.Entry.{Entry}
use Rattle.store_core.specs.Places.{shapes_of}
use Rattle.meaning.specs.Logs.{events}
use Rattle.meaning.specs.Sites.{Cells, Site}
use Rattle.meaning.specs.Statements.{Heads, iterations}
use Rattle.meaning.specs.Stops.{Limits, by_conflict, at_end, first_stop}
use Rattle.meaning.specs.Adjoints.{cells_along, unit}
use Rattle.meaning.specs.Programs.{entry_cells, run_of}
use Rattle.transposition.specs.Worlds.{name_at}
use Rattle.transposition.specs.Law.{HasDifferentiatedRead, SharedApart}
use Rattle.transposition.specs.Calms.{iteration_log, PairwiseAll, AreFlat}
use Rattle.index_forms.specs.Loops.{HeadedLoop}
use Rattle.apart_law.specs.Apart.{IsInstance, IsDifferentiated}
use Rattle.certificate.specs.declared.derivation.Given.{Given}
use Rattle.loop_choices.specs.Choosing.{choice_in}
use Rattle.program_certificates.specs.Choices.{choices_with}
use Rattle.adjoint_sets.specs.Names.{is_active, is_needed}
use Rattle.sound_programs.specs.Uses.{AreFitting}
use Rattle.sound_programs.specs.Accepted.{IsAccepted, world_of_program}

-- each differentiated read that the log of an iteration tells is such a read, of the name of its place
abbrev pub ReadsAreEvaluated : Type 0
ReadsAreEvaluated =
    (decls : List Decl) (on : List ℕ → Bool) (l : HeadedLoop) (site : Site) (heads : Heads) (cells : Cells) → AreFlat l.loop.body
    → IsInstance decls l site heads cells → (k p : ℕ) → k < iterations heads
    → HasDifferentiatedRead on p (iteration_log site l.loop.directive l.loop.var heads l.loop.body cells k)
    → (a : IsDifferentiated on site l heads cells k p) × (a.evaluated.access.place.name ≡ name_at site.keys p)

-- the choices that go by what is known of a program's loops, with derivations that are given, fit
abbrev pub KnownChoicesFit : Type 0
KnownChoicesFit =
    (p : Program) (of wrt : List (List ℕ)) (givens : List Given) → IsAccepted p of wrt
    → AreFitting p (is_active p of wrt) (choice_in (choices_with p (is_active p of wrt) givens))

-- so what the law of transposition asks of Shared names holds along a run that nothing stops, in every direction
abbrev pub ReadsAreApart : Type 0
ReadsAreApart =
    (p : Program) (of wrt : List (List ℕ)) (values : List Entry) (givens : List Given) (limits : Limits) (words : List ℕ) (s2 : Cells) (j : ℕ)
    → let w = world_of_program p of wrt values (choice_in (choices_with p (is_active p of wrt) givens)) in
    let s = entry_cells (program_tree p) (shapes_of p values) words in
    IsAccepted p of wrt → All (λ x. x < 2 ^ 64) words
    → (run_of (program_tree p) (shapes_of p values) (is_needed p (is_active p of wrt)) s).out ≡ Ok s2
    → first_stop by_conflict limits (events (run_of (program_tree p) (shapes_of p values) (is_needed p (is_active p of wrt)) s).log) ≡ at_end
    → PairwiseAll SharedApart (stmt_trees p.body) w (cells_along (unit j) s)
