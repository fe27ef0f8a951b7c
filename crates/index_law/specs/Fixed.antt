-- Arrays that a parallel loop doesn't assign hold the same throughout its iterations.
use Rattle.std.specs.Prelude.{◌≡◌, ℕ, Bool, true, false, List, ◌∷◌, Ok}
use Rattle.fl_ast.specs.declared.decl.Decl.{Decl}
use Rattle.fl_ast.specs.Tree.{Statement, Statements}
use Rattle.fl_types.specs.Sharing.{has_name}
use Rattle.meaning.specs.declared.value.IterationCount.{IterationCount}
use Rattle.meaning.specs.Sites.{Cells, Site, in_turn, in_iteration}
use Rattle.meaning.specs.Statements.{Heads, value_at, turns, one_turn, run, run_all}
use Rattle.meaning.specs.Sequential.{is_sequential, are_sequential}
use Rattle.meaning.specs.Reached.{cells_with, iteration_cells}
use Rattle.meaning.specs.Groups.{iteration_of}
use Rattle.index_forms.specs.Loops.{HeadedLoop, inside, written_by, written_in, is_fixed}
use Rattle.index_law.specs.Starts.{IsBegun}
use Rattle.index_law.specs.Valuations.{HoldsFixed}

-- none of them is among these names
abbrev pub AreOff : (List ℕ → Bool) → List (List ℕ) → Type 0
AreOff fixed names = (x : List ℕ) → fixed x ≡ true → has_name x names ≡ false

-- what the loop writes isn't fixed
abbrev pub FixedIsUnwritten : Type 0
FixedIsUnwritten = (decls : List Decl) (l : HeadedLoop) → AreOff (is_fixed decls l) (written_in (inside l))

-- at the start of an iteration
abbrev pub FixedAtStart : Type 0
FixedAtStart =
    (decls : List Decl) (l : HeadedLoop) (site : Site) (heads : Heads) (cells : Cells) → IsBegun l site heads cells → (k : ℕ) (c : Cells) → (turns k (iteration_of site l.loop heads) cells).out ≡ Ok c →
    HoldsFixed (is_fixed decls l) cells (in_iteration site l.loop.directive l.loop.var l.loop.body) (iteration_cells site l.loop.directive l.loop.var l.loop.body heads k c)

-- behind a statement that doesn't write them
abbrev pub FixedAfter : Type 0
FixedAfter =
    (fixed : List ℕ → Bool) (s : Statement) (site : Site) (before cells d : Cells) → is_sequential s ≡ true → AreOff fixed (written_by s) → (run s site cells).out ≡ Ok d → HoldsFixed fixed before site cells → HoldsFixed fixed before site d

-- at the start of turn m of a sequential loop
abbrev pub FixedInside : Type 0
FixedInside =
    (fixed : List ℕ → Bool) (var : List ℕ) (body : Statements) (site : Site) (before cells c : Cells) (t : IterationCount) (m : ℕ) → are_sequential body ≡ true → AreOff fixed (var ∷ written_in body) →
    (turns m (one_turn site var t (run_all body)) cells).out ≡ Ok c → HoldsFixed fixed before site cells → HoldsFixed fixed before (in_turn site var) (cells_with site var (value_at t m) c)
