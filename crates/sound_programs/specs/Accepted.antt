-- The law of transposition for accepted programs: its premises on names follow from typing and from the sets of names.
use Rattle.std.specs.Prelude.{◌≡◌, ◌⊎◌, ℕ, ◌+◌, ◌<◌, ◌≤◌, ◌^◌, All, true, false, List, [], length, Some, None, Ok, slice_index}
use Rattle.fl_ast.specs.declared.stmt.Program.{Program}
use Rattle.fl_ast.specs.Readable.{IsReadable}
use Rattle.fl_ast.specs.Tree.{stmt_trees, program_tree}
use Rattle.fl_types.specs.declared.choice.Choice.{Choice}
use Rattle.fl_types.specs.Rows.{judged}
use Rattle.fl_types.specs.Sharing.{has_name, ParallelLoop, loops_of_all}
use Rattle.fl_types.specs.Declarations.{is_declared}
use Rattle.store_core.specs.Keys.{keys_of, same_key, first_at}
use Rattle.store_core.specs.declared.values.Entry.{Entry}
use Rattle.store_core.specs.Places.{shapes_of}
use Rattle.meaning.specs.declared.value.Dual.{Dual}
use Rattle.meaning.specs.declared.value.Value.{Value}
use Rattle.meaning.specs.declared.value.Value.TheVariants.{Ring}
use Rattle.meaning.specs.Logs.{events}
use Rattle.meaning.specs.Sites.{Key, Cells, word_of}
use Rattle.meaning.specs.Expressions.{content}
use Rattle.meaning.specs.Stops.{Limits, by_conflict, at_end, first_stop}
use Rattle.meaning.specs.Adjoints.{cells_along, unit}
use Rattle.meaning.specs.Programs.{entry_site, entry_cells, no_pushes, run_of, adjoint_of}
use Rattle.reachability.specs.Reached.{IsAmong}
use Rattle.activity.specs.Active.{first_misfit}
use Rattle.adjoint_choices.specs.Choosing.{is_scalar_name, choices_of}
use Rattle.adjoint_sets.specs.Names.{is_active, is_needed}
use Rattle.transposition.specs.Worlds.{World, is_one_step, name_at}
use Rattle.transposition.specs.Law.{Like, AreWords, SharedApart}
use Rattle.transposition.specs.Calms.{AreFlat, PairwiseAll}
use Rattle.transposition.specs.Sound.{SoundAll}
use Rattle.transposition.specs.Programs.{program_world}
use Rattle.transposition.specs.Answer.{reverse_run}
use Rattle.sound_programs.specs.Uses.{is_own, outer_use, AreFitting}
use Rattle.loop_choices.specs.Choosing.{choice_in}

-- a program that some text reads as, and that typing doesn't refuse, with names that may be asked of and by
pub record IsAccepted (p : Program) (of wrt : List (List ℕ)) : Type 0 where
  pub readable : IsReadable p
  pub typed : judged p ≡ Ok p
  pub fit : first_misfit p of wrt ≡ None

-- where the reverse part of a program stands, for these choices: old values of the needed names are pushed
abbrev pub world_of_program : Program → (of wrt : List (List ℕ)) → List Entry → (ℕ → List ℕ → Choice) → World
world_of_program p of wrt values choices =
    program_world (program_tree p) (shapes_of p values) (is_needed p (is_active p of wrt)) (is_active p of wrt) choices

-- the one place of a scalar, from n on
pub record HasOnePlace (keys : List Key) (n : ℕ) (x : List ℕ) : Type 0 where
  pub q : ℕ
  pub place : first_at (same_key (x, [])) keys ≡ Some q
  pub only : (p : ℕ) → name_at keys p ≡ x → p ≡ q
  pub own : n ≤ q

-- the place of a scalar, below n
pub record HasPlace (keys : List Key) (n : ℕ) (x : List ℕ) : Type 0 where
  pub q : ℕ
  pub place : first_at (same_key (x, [])) keys ≡ Some q
  pub shared : q < n

-- what the law asks of a program's names holds
abbrev pub ProgramsAreSound : Type 0
ProgramsAreSound =
    (p : Program) (of wrt : List (List ℕ)) (values : List Entry) (choices : ℕ → List ℕ → Choice) → IsAccepted p of wrt
    → AreFitting p (is_active p of wrt) choices
    → SoundAll (world_of_program p of wrt values choices) (outer_use p of wrt) (stmt_trees p.body)

-- a loop's own name has one place, and that behind the layout; a scalar that is none has a place of the layout, where no loop's own name has one
pub record PlacesFit (p : Program) (keys : List Key) (count : ℕ) : Type 0 where
  pub own : (x : List ℕ) → is_declared p.decls x ≡ true → is_own p x ≡ true → HasOnePlace keys count x
  pub scalar : (x : List ℕ) → is_scalar_name p.decls x ≡ true → is_own p x ≡ false → HasPlace keys count x
  pub low : (q : ℕ) → q < count → is_own p (name_at keys q) ≡ false
  pub high : (q : ℕ) → count ≤ q → (name_at keys q ≡ []) ⊎ (is_own p (name_at keys q) ≡ true)

abbrev pub LayoutsFit : Type 0
LayoutsFit =
    (p : Program) (values : List Entry) → IsReadable p → judged p ≡ Ok p
    → PlacesFit p (entry_site (program_tree p) (shapes_of p values) no_pushes).keys (length (keys_of (shapes_of p values)))

-- no parallel loop is in another, and each has a number of its own
pub record LoopsFit (p : Program) : Type 0 where
  pub flat : (l : ParallelLoop) → IsAmong (loops_of_all [] (stmt_trees p.body)) l → AreFlat l.body
  pub one : (l k : ParallelLoop) → IsAmong (loops_of_all [] (stmt_trees p.body)) l → IsAmong (loops_of_all [] (stmt_trees p.body)) k
      → l.number ≡ k.number → l ≡ k

abbrev pub ParallelLoopsFit : Type 0
ParallelLoopsFit = (p : Program) → IsReadable p → judged p ≡ Ok p → LoopsFit p

-- each name of `wrt` moves; a name that moves and doesn't count isn't in `of`; an active argument counts
pub record NamesFit (p : Program) (of wrt : List (List ℕ)) : Type 0 where
  pub moved : (x : List ℕ) → has_name x wrt ≡ true → (outer_use p of wrt).moved x ≡ true
  pub seeded : (x : List ℕ) → (outer_use p of wrt).live x ≡ false → (outer_use p of wrt).moved x ≡ true → has_name x of ≡ false
  pub live : (x : List ℕ) → is_active p of wrt x ≡ true → has_name x p.args ≡ true → (outer_use p of wrt).live x ≡ true

abbrev pub AskedNamesFit : Type 0
AskedNamesFit = (p : Program) (of wrt : List (List ℕ)) → IsAccepted p of wrt → NamesFit p of wrt

-- the needed values are those of places of the layout: who has their words is like the cells
abbrev pub PlacesSuffice : Type 0
PlacesSuffice =
    (p : Program) (of wrt : List (List ℕ)) (values : List Entry) (vs : List ℕ) (s : Cells) → IsReadable p → judged p ≡ Ok p
    → ((q : ℕ) (v : Value) → q < length (keys_of (shapes_of p values)) → content s q ≡ Some v → slice_index vs q ≡ word_of (Some v))
    → Like (outer_use p of wrt) (entry_site (program_tree p) (shapes_of p values) no_pushes).keys vs s

-- the choices that are made where nothing is known of which iterations meet
abbrev pub made_choices : Program → (of wrt : List (List ℕ)) → ℕ → List ℕ → Choice
made_choices p of wrt = choice_in (choices_of p (is_active p of wrt))

-- fit, and none of them is Shared
pub record ChoicesFit (p : Program) (of wrt : List (List ℕ)) : Type 0 where
  pub fitting : AreFitting p (is_active p of wrt) (made_choices p of wrt)
  pub one_step : (number : ℕ) (x : List ℕ) → is_one_step (made_choices p of wrt number x) ≡ true

abbrev pub MadeChoicesFit : Type 0
MadeChoicesFit = (p : Program) (of wrt : List (List ℕ)) → IsAccepted p of wrt → ChoicesFit p of wrt

-- The run of an accepted program being stopped by nothing, its reverse part on the tape and the final values of the needed names leaves in
-- the adjoint's cell of each place of an active name of `wrt` the adjoint of the program, for a seed on the names of `of` alone; that the
-- differentiated reads of names with the choice Shared are apart is for certificates to show.
abbrev pub AcceptedIsTransposed : Type 0
AcceptedIsTransposed =
    (p : Program) (of wrt : List (List ℕ)) (values : List Entry) (choices : ℕ → List ℕ → Choice) (limits : Limits) (words vs seed : List ℕ)
    (s2 : Cells) (j : ℕ) (d : Dual)
    → let w = world_of_program p of wrt values choices in
    let s = entry_cells (program_tree p) (shapes_of p values) words in
    IsAccepted p of wrt → AreFitting p (is_active p of wrt) choices
    → PairwiseAll SharedApart (stmt_trees p.body) w (cells_along (unit j) s) → All (λ x. x < 2 ^ 64) words
    → (run_of (program_tree p) (shapes_of p values) (is_needed p (is_active p of wrt)) s).out ≡ Ok s2
    → first_stop by_conflict limits (events (run_of (program_tree p) (shapes_of p values) (is_needed p (is_active p of wrt)) s).log) ≡ at_end
    → Like (outer_use p of wrt) w.site.keys vs s2 → length vs ≡ length w.site.keys → length seed ≡ length w.site.keys → AreWords seed
    → ((q : ℕ) → has_name (name_at w.site.keys q) of ≡ false → slice_index seed q ≡ 0)
    → j < w.shared → content s j ≡ Some (Ring d) → has_name (name_at w.site.keys j) wrt ≡ true → is_active p of wrt (name_at w.site.keys j) ≡ true
    → slice_index (reverse_run w (stmt_trees p.body) s vs seed).cells (w.shared + j) ≡ adjoint_of (program_tree p) (shapes_of p values) words seed j

-- for the choices that are made nothing is to be shown of reads
abbrev pub MadeIsTransposed : Type 0
MadeIsTransposed =
    (p : Program) (of wrt : List (List ℕ)) (values : List Entry) (limits : Limits) (words vs seed : List ℕ) (s2 : Cells) (j : ℕ) (d : Dual)
    → let w = world_of_program p of wrt values (made_choices p of wrt) in
    let s = entry_cells (program_tree p) (shapes_of p values) words in
    IsAccepted p of wrt → All (λ x. x < 2 ^ 64) words
    → (run_of (program_tree p) (shapes_of p values) (is_needed p (is_active p of wrt)) s).out ≡ Ok s2
    → first_stop by_conflict limits (events (run_of (program_tree p) (shapes_of p values) (is_needed p (is_active p of wrt)) s).log) ≡ at_end
    → Like (outer_use p of wrt) w.site.keys vs s2 → length vs ≡ length w.site.keys → length seed ≡ length w.site.keys → AreWords seed
    → ((q : ℕ) → has_name (name_at w.site.keys q) of ≡ false → slice_index seed q ≡ 0)
    → j < w.shared → content s j ≡ Some (Ring d) → has_name (name_at w.site.keys j) wrt ≡ true → is_active p of wrt (name_at w.site.keys j) ≡ true
    → slice_index (reverse_run w (stmt_trees p.body) s vs seed).cells (w.shared + j) ≡ adjoint_of (program_tree p) (shapes_of p values) words seed j

-- and a name of `wrt` that isn't active has the adjoint 0, whether or not the run is stopped
abbrev pub InactiveIsZero : Type 0
InactiveIsZero =
    (p : Program) (of wrt : List (List ℕ)) (values : List Entry) (words seed : List ℕ) (j : ℕ)
    → let keys = (entry_site (program_tree p) (shapes_of p values) no_pushes).keys in
    IsAccepted p of wrt → All (λ x. x < 2 ^ 64) words
    → ((q : ℕ) → has_name (name_at keys q) of ≡ false → slice_index seed q ≡ 0)
    → has_name (name_at keys j) wrt ≡ true → is_active p of wrt (name_at keys j) ≡ false
    → adjoint_of (program_tree p) (shapes_of p values) words seed j ≡ 0
