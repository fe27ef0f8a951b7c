-- The names that a body writes.
use Rattle.std.specs.Prelude.{◌≡◌, ℕ, ℤ, Bool, false, ◌||◌, List, length, Option, Ok}
use Rattle.fl_ast.specs.Tree.{Statements}
use Rattle.fl_types.specs.Sharing.{assigns_in}
use Rattle.store_core.specs.Scopes.{scopes_in}
use Rattle.meaning.specs.declared.value.Value.{Value}
use Rattle.meaning.specs.Sites.{Cells, Site, place_of}
use Rattle.meaning.specs.Statements.{content_at, run_all}

-- the name is assigned in the body, or is a variable of a loop or private in one
abbrev pub writes_in : List ℕ → Statements → Bool
writes_in x body = assigns_in x body || scopes_in x body

-- what the cells hold for a name with subscripts, None where there is no place
abbrev pub content_by_name : Site → Cells → List ℕ → List ℤ → Option Value
content_by_name site cells x subscripts = content_at cells (place_of site x subscripts)

-- a name that a body doesn't write holds after a run what it held before
abbrev pub NamesAreKept : Type 0
NamesAreKept =
    (body : Statements) (site : Site) (c d : Cells) → (run_all body site c).out ≡ Ok d → (x : List ℕ) → writes_in x body ≡ false → (subscripts : List ℤ) →
    content_by_name site d x subscripts ≡ content_by_name site c x subscripts

-- a run ends with as many cells as it began with
abbrev pub CellsAreKept : Type 0
CellsAreKept = (body : Statements) (site : Site) (c d : Cells) → (run_all body site c).out ≡ Ok d → length d ≡ length c
