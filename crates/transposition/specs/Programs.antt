-- The law of transposition for a whole program.
use Rattle.std.specs.Prelude.{◌≡◌, ℕ, ◌+◌, ◌<◌, ◌^◌, All, true, false, Bool, List, length, Some, None, Ok, slice_index}
use Rattle.fl_ast.specs.Tree.{Subroutine}
use Rattle.fl_types.specs.declared.choice.Choice.{Choice}
use Rattle.fl_types.specs.declared.choice.Choice.TheVariants.{Shared}
use Rattle.store_core.specs.declared.layout.Shape.{Shape}
use Rattle.store_core.specs.Keys.{keys_of}
use Rattle.meaning.specs.declared.value.Dual.{Dual}
use Rattle.meaning.specs.declared.value.Value.TheVariants.{Ring}
use Rattle.meaning.specs.Logs.{events}
use Rattle.meaning.specs.Sites.{Cells}
use Rattle.meaning.specs.Expressions.{content}
use Rattle.meaning.specs.Stops.{Limits, by_conflict, at_end, first_stop}
use Rattle.meaning.specs.Adjoints.{cells_along, unit}
use Rattle.meaning.specs.Programs.{entry_site, entry_cells, run_of, adjoint_of}
use Rattle.transposition.specs.Worlds.{World, name_at}
use Rattle.transposition.specs.Law.{Use, Like, AreWords, SharedApart}
use Rattle.transposition.specs.Calms.{PairwiseAll}
use Rattle.transposition.specs.Sound.{SoundAll}
use Rattle.transposition.specs.Answer.{reverse_run}

-- outside every loop of a program with this layout: which old values are pushed, which names have adjoints, and how they are
-- incremented in each parallel loop
abbrev pub program_world : Subroutine → List Shape → (pushed active : List ℕ → Bool) → (ℕ → List ℕ → Choice) → World
program_world p shapes pushed active choices = record {
  site = entry_site p shapes pushed;
  shared = length (keys_of shapes);
  active = active;
  choice = λ z. Shared;
  choices = choices;
}

-- where the run of a program is stopped by nothing, its reverse part on the tape and the final values leaves in each adjoint's cell the
-- adjoint of the program at that place
abbrev pub ProgramIsTransposed : Type 0
ProgramIsTransposed =
    (p : Subroutine) (shapes : List Shape) (pushed active : List ℕ → Bool) (choices : ℕ → List ℕ → Choice) (u : Use) (limits : Limits) (words vs seed : List ℕ) (s2 : Cells) (j : ℕ) (d : Dual)
    → let w = program_world p shapes pushed active choices in
    let s = entry_cells p shapes words in
    SoundAll w u p.body → ((x : List ℕ) → u.held x ≡ None) → PairwiseAll SharedApart p.body w (cells_along (unit j) s) → All (λ x. x < 2 ^ 64) words → (run_of p shapes pushed s).out ≡ Ok s2 → first_stop by_conflict limits (events (run_of p shapes pushed s).log) ≡ at_end → Like u w.site.keys vs s2
    → length vs ≡ length w.site.keys → length seed ≡ length w.site.keys → AreWords seed → ((q : ℕ) → u.live (name_at w.site.keys q) ≡ false → u.moved (name_at w.site.keys q) ≡ true → slice_index seed q ≡ 0)
    → j < w.shared → content s j ≡ Some (Ring d) → u.live (name_at w.site.keys j) ≡ true → u.moved (name_at w.site.keys j) ≡ true
    → slice_index (reverse_run w p.body s vs seed).cells (w.shared + j) ≡ adjoint_of p shapes words seed j
