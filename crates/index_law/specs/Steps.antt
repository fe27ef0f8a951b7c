-- What is known of scalars stays true along a run.
use Rattle.std.specs.Prelude.{◌≡◌, ℕ, ℤ, true, List, [], Some, Ok}
use Rattle.fl_ast.specs.Tree.{Statement, assignment, branch, loop, Statements}
use Rattle.meaning.specs.declared.value.Value.TheVariants.{Index}
use Rattle.meaning.specs.declared.value.IterationCount.{IterationCount}
use Rattle.meaning.specs.Sites.{Cells, Site, in_turn}
use Rattle.meaning.specs.Statements.{value_at, turns, one_turn, run, run_all}
use Rattle.meaning.specs.Sequential.{is_sequential, are_sequential}
use Rattle.meaning.specs.Frame.{content_by_name}
use Rattle.meaning.specs.Reached.{cells_with}
use Rattle.index_forms.specs.declared.form.Side.{Side}
use Rattle.index_forms.specs.Form.{Atom, inner, version}
use Rattle.index_forms.specs.Formed.{Known}
use Rattle.index_forms.specs.Walk.{without, known_after, known_inside}
use Rattle.index_law.specs.Worth.{HoldsKnown}

-- an assignment's Version atom has the value that its scalar holds behind it
abbrev pub HasStored : (Atom → ℤ) → Side → ℕ → Statement → Site → Cells → Type 0
HasStored v side n (assignment line atomic p e) site cells = (z : ℤ) → content_by_name site cells p.name [] ≡ Some (Index z) → v (version side n p.name) ≡ z
HasStored v side n (branch line arms other) site cells = Unit {0}
HasStored v side n (loop line number directive var low high step body) site cells = Unit {0}

-- behind a statement with number n
abbrev pub KnownAfterHolds : Type 0
KnownAfterHolds =
    (v : Atom → ℤ) (side : Side) (n : ℕ) (s : Statement) (k : Known) (site : Site) (cells d : Cells) → is_sequential s ≡ true → (run s site cells).out ≡ Ok d →
    HasStored v side n s site d → HoldsKnown v k site cells → HoldsKnown v (known_after side n s k) site d

-- at the start of turn m of a sequential loop, whose Inner atom has the variable's value
abbrev pub KnownInsideHolds : Type 0
KnownInsideHolds =
    (v : Atom → ℤ) (side : Side) (number : ℕ) (var : List ℕ) (body : Statements) (k : Known) (site : Site) (cells c : Cells) (t : IterationCount) (m : ℕ) → are_sequential body ≡ true →
    (turns m (one_turn site var t (run_all body)) cells).out ≡ Ok c → v (inner side number) ≡ value_at t m →
    HoldsKnown v k site cells → HoldsKnown v (known_inside side number var body k) (in_turn site var) (cells_with site var (value_at t m) c)

-- where less is known, as behind an arm that wasn't taken
abbrev pub KnownLessHolds : Type 0
KnownLessHolds = (v : Atom → ℤ) (names : List (List ℕ)) (k : Known) (site : Site) (cells : Cells) → HoldsKnown v k site cells → HoldsKnown v (without names k) site cells
