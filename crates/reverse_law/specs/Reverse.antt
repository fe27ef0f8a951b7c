-- What the machine of reverse sweeps is to do: what the reverse part's trees of operations play.
use Rattle.std.specs.Prelude.{◌≡◌, ℕ, ◌+◌, ◌<◌, ◌^◌, All, true, false, Bool, List, [], length, Option, Some, None, Ok, slice_index, if◌then◌else◌}
use Rattle.fl_ast.specs.declared.directive.Directive.{Directive}
use Rattle.fl_ast.specs.Tree.{Statements, Subroutine}
use Rattle.fl_types.specs.declared.choice.Choice.{Choice}
use Rattle.fl_types.specs.Nests.{is_nest, iteration_body}
use Rattle.store_core.specs.declared.layout.Shape.{Shape}
use Rattle.store_core.specs.Keys.{keys_of}
use Rattle.operations.specs.Tree.{Played, play}
use Rattle.meaning.specs.declared.value.Dual.{Dual}
use Rattle.meaning.specs.declared.value.Value.TheVariants.{Ring}
use Rattle.meaning.specs.Logs.{events}
use Rattle.meaning.specs.Sites.{Cells, Site, kind_of}
use Rattle.meaning.specs.Expressions.{content}
use Rattle.meaning.specs.Statements.{run_all}
use Rattle.meaning.specs.Stops.{Limits, by_conflict, at_end, first_stop}
use Rattle.meaning.specs.Adjoints.{cells_along, unit}
use Rattle.meaning.specs.Programs.{entry_cells, run_of, adjoint_of}
use Rattle.resolved.specs.SlotTables.{Names, kind_at, names_of}
use Rattle.resolved.specs.ResolvedExprs.{slot_name}
use Rattle.transposition.specs.Tapes.{empty, tape_after, top_tapes}
use Rattle.transposition.specs.Worlds.{World, Local, in_iteration, name_at}
use Rattle.transposition.specs.Back.{loop_iterations, back_all, back_inner}
use Rattle.transposition.specs.Law.{Use, flat, local, Like, AreWords, SharedApart}
use Rattle.transposition.specs.Calms.{PairwiseAll}
use Rattle.transposition.specs.Sound.{SoundAll}
use Rattle.transposition.specs.Programs.{program_world}
use Rattle.sweep_steps.specs.declared.step.PrivateScalar.{PrivateScalar}
use Rattle.undo_steps.specs.UndoSteps.{UndoTrees}
use Rattle.undo_steps.specs.UndosStand.{IterationsUndo, AllUndoStand}
use Rattle.reverse_sweep.specs.Reversing.{Stage, Reversing, reversing, on_tape}
use Rattle.reverse_sweep.specs.Machine.{below_counts, counts_on, iteration_undone, undos_run}

-- the cells and kinds of a site are those of a table
pub record IsNamed (names : Names) (site : Site) : Type 0 where
  pub keys : site.keys ≡ keys_of names.0
  pub width : site.width ≡ names.2
  pub kinds : (slot : ℕ) → slot < length names.0 → kind_of site (slot_name names.0 slot) ≡ kind_at names.1 slot

-- these cells, no sums, and no operations so far
-- what was counted apart
abbrev pub uncounted : Reversing → Reversing
uncounted s = reversing s.local (record s.stage { adds = 0 })

abbrev pub at_first : List ℕ → Stage
at_first c = record { cells = c; sums = []; ops = []; adds = 0 }

-- where a played tree leaves a sweep
abbrev pub ended : Played Local → Reversing
ended r = reversing r.out (record { cells = r.cells; sums = []; ops = r.ops; adds = 0 })

-- from every tape and all words, statements that undo others come to what the trees play: the same operations, cells and words
abbrev pub ReverseIsPlayed : Type 0
ReverseIsPlayed =
    (names : Names) (w : World) (us : UndoTrees) (xs : Statements) (l : Local) (c : List ℕ) → IsNamed names w.site → AllUndoStand names w us xs
    → uncounted (undos_run names w.shared us (reversing l (at_first c))) ≡ ended (play (back_all xs w l) c)

-- the same of one iteration of a parallel loop that runs alone
abbrev pub IterationIsPlayed : Type 0
IterationIsPlayed =
    (names : Names) (w : World) (number : ℕ) (directive : Directive) (var : List ℕ) (body : Statements) (places : List (Option ℕ)) (privates : List PrivateScalar) (reductions : List ℕ) (us : UndoTrees) (l : Local) (c : List ℕ) (k : ℕ)
    → IsNamed names w.site → IterationsUndo names w number directive var body places privates reductions → AllUndoStand names (in_iteration w number directive var body) us (iteration_body directive body)
    → let below = on_tape (below_counts places l.tape) l in
    uncounted (iteration_undone w.shared privates reductions (counts_on places l.tape) (top_tapes below.tape) (undos_run names w.shared us) below k (at_first c))
    ≡ ended (play (loop_iterations w number directive var body (if is_nest directive body then back_inner body else back_all body) l k) c)

-- outside of its loops a program's names are those of its table
abbrev pub ProgramIsNamed : Type 0
ProgramIsNamed = (p : Subroutine) (shapes : List Shape) (pushed active : List ℕ → Bool) (choices : ℕ → List ℕ → Choice) → IsNamed (names_of shapes p.decls) (program_world p shapes pushed active choices).site

-- where the run of a program is stopped by nothing, the machine leaves on the tape and the final values in each adjoint's cell the
-- adjoint of the program at that place
abbrev pub MachineIsTransposed : Type 0
MachineIsTransposed =
    (p : Subroutine) (shapes : List Shape) (pushed active : List ℕ → Bool) (choices : ℕ → List ℕ → Choice) (u : Use) (limits : Limits) (words vs seed : List ℕ) (s2 : Cells) (j : ℕ) (d : Dual) (us : UndoTrees)
    → let names = names_of shapes p.decls in
    let w = program_world p shapes pushed active choices in
    let s = entry_cells p shapes words in
    AllUndoStand names w us p.body → SoundAll w u p.body → ((x : List ℕ) → u.held x ≡ None) → PairwiseAll SharedApart p.body w (cells_along (unit j) s) → All (λ x. x < 2 ^ 64) words → (run_of p shapes pushed s).out ≡ Ok s2 → first_stop by_conflict limits (events (run_of p shapes pushed s).log) ≡ at_end
    → Like u w.site.keys vs s2 → length vs ≡ length w.site.keys → length seed ≡ length w.site.keys → AreWords seed → ((q : ℕ) → u.live (name_at w.site.keys q) ≡ false → u.moved (name_at w.site.keys q) ≡ true → slice_index seed q ≡ 0)
    → j < w.shared → content s j ≡ Some (Ring d) → u.live (name_at w.site.keys j) ≡ true → u.moved (name_at w.site.keys j) ≡ true
    → slice_index (undos_run names w.shared us (reversing (local w.shared (tape_after (run_all p.body w.site s).log empty) vs seed) (at_first (flat w.shared vs seed)))).stage.cells (w.shared + j) ≡ adjoint_of p shapes words seed j
