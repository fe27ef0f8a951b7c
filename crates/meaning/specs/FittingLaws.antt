-- Laws of fitting, and of touches.
use Rattle.std.specs.Prelude.{◌≡◌, ℕ, ◌<◌, ◌^◌, Bool, true, not, ◌&&◌, ◌||◌, if◌then◌else◌, nat_eq, bytes_eq, List, [], ◌∷◌, All, length, Option, Some, slice_get, Ok}
use Rattle.std.specs.List.{list_all, list_any}
use Rattle.fl_ast.specs.declared.decl.Decl.{Decl}
use Rattle.fl_ast.specs.declared.stmt.Program.{Program}
use Rattle.fl_ast.specs.Tree.{Expression, Condition, Statements, Subroutine, stmt_trees, program_tree}
use Rattle.fl_types.specs.Sharing.{has_name}
use Rattle.fl_types.specs.declared.access.PathStep.{PathStep}
use Rattle.fl_types.specs.Kinds.{Names, kind_of_expression, is_well_kinded, is_well_kinded_condition, is_index_expression, is_index_step, are_well_kinded_statements, declared_names}
use Rattle.store_core.specs.declared.layout.Shape.{Shape}
use Rattle.store_core.specs.declared.values.Entry.{Entry}
use Rattle.store_core.specs.Places.{is_empty, shapes_of}
use Rattle.meaning.specs.declared.value.Value.{Value}
use Rattle.meaning.specs.declared.value.IterationCount.{IterationCount}
use Rattle.meaning.specs.Sites.{Key, Cells, Site, opening_site}
use Rattle.meaning.specs.Expressions.{content, value_of}
use Rattle.meaning.specs.Statements.{turns_of, run_all}
use Rattle.meaning.specs.Adjoints.{cells_along}
use Rattle.meaning.specs.Programs.{entry_site, entry_cells}
use Rattle.meaning.specs.Fitting.{names_at, HasKind, CellFits, Fits, IsWellKinded}
use Rattle.meaning.specs.Defined.{IsDefined, IsDefinedCondition, IsFittingCount}
use Rattle.meaning.specs.Touches.{GroupTouches}

-- as many cells as keys, each of which fits its key
pub record FitsByPlace (site : Site) (cells : Cells) : Type 0 where
  pub long : length cells ≡ length site.keys
  pub each : (p : ℕ) (k : Key) → slice_get site.keys p ≡ Some k → CellFits site k (content cells p)

abbrev pub FittingIsByPlace : Type 0
FittingIsByPlace = (site : Site) (cells : Cells) → (Fits site cells → FitsByPlace site cells) × (FitsByPlace site cells → Fits site cells)

pub record HasFittingValue (site : Site) (cells : Cells) (e : Expression) : Type 0 where
  -- no operation is asked for what it answers by default, so a cause is one of the language's own
  pub defined : IsDefined site cells e
  pub kind : (v : Value) → (value_of e site cells).out ≡ Ok v → HasKind (kind_of_expression (names_at site) e) v

abbrev pub ValuesFit : Type 0
ValuesFit = (site : Site) (cells : Cells) → Fits site cells → (e : Expression) → is_well_kinded (names_at site) e ≡ true → HasFittingValue site cells e

abbrev pub ConditionsAreDefined : Type 0
ConditionsAreDefined = (site : Site) (cells : Cells) → Fits site cells → (c : Condition) → is_well_kinded_condition (names_at site) c ≡ true → IsDefinedCondition site cells c

abbrev pub CountsFit : Type 0
CountsFit =
    (site : Site) (cells : Cells) → Fits site cells → (first last : Expression) (step : Option Expression) →
    is_index_expression (names_at site) first ≡ true → is_index_expression (names_at site) last ≡ true → is_index_step (names_at site) step ≡ true →
    (t : IterationCount) → (turns_of first last step site cells).out ≡ Ok t → IsFittingCount t

-- a well-kinded body that starts from fitting cells ends with fitting cells
abbrev pub RunsFit : Type 0
RunsFit = (body : Statements) (site : Site) (c d : Cells) → IsWellKinded site body → Fits site c → (run_all body site c).out ≡ Ok d → Fits site d

-- from words, a program starts in fitting cells, in every direction
abbrev pub EntriesFit : Type 0
EntriesFit =
    (p : Subroutine) (shapes : List Shape) (pushed : List ℕ → Bool) (words direction : List ℕ) → All (λ w. w < 2 ^ 64) words →
    Fits (entry_site p shapes pushed) (cells_along direction (entry_cells p shapes words))

-- tangents don't matter
abbrev pub DirectionsFit : Type 0
DirectionsFit = (site : Site) (cells : Cells) (direction : List ℕ) → (Fits site cells → Fits site (cells_along direction cells)) × (Fits site (cells_along direction cells) → Fits site cells)

-- a tree that is well kinded by some names is so by others that have their kinds and their ranks
abbrev pub KindsGoByNames : Type 0
KindsGoByNames =
    (a b : Names) → ((x : List ℕ) → a.ring x ≡ b.ring x) → ((x : List ℕ) (n : ℕ) → a.has_rank x n ≡ true → b.has_rank x n ≡ true) →
    (body : Statements) → are_well_kinded_statements a body ≡ true → are_well_kinded_statements b body ≡ true

-- a shape of a declared name has as many axes as the declaration has dimensions
abbrev pub has_rank_of : Shape → Decl → Bool
has_rank_of s d = if bytes_eq s.name d.name then nat_eq (length s.axes) (length d.dims) else true

-- a declared array has a shape
abbrev pub has_array_shape : List Shape → Decl → Bool
has_array_shape shapes d = is_empty d.dims || list_any (λ (s : Shape). bytes_eq d.name s.name) shapes

abbrev pub are_declared_shapes : List Decl → List Shape → Bool
are_declared_shapes decls shapes = list_all (λ (s : Shape). list_all (has_rank_of s) decls) shapes && list_all (has_array_shape shapes) decls

-- a body that is well kinded by its declarations is well kinded at the entry of the program
abbrev pub EntriesAreKinded : Type 0
EntriesAreKinded =
    (decls : List Decl) (shapes : List Shape) (pushed : List ℕ → Bool) → are_declared_shapes decls shapes ≡ true →
    (body : Statements) → are_well_kinded_statements (declared_names decls) body ≡ true → IsWellKinded (opening_site decls shapes pushed) body

-- each name is declared once
abbrev pub are_declared_once : List Decl → Bool
are_declared_once [] = true
are_declared_once (d ∷ ds) = not (list_any (λ (e : Decl). bytes_eq d.name e.name) ds) && are_declared_once ds

-- an array is an argument
abbrev pub is_argument_if_array : List (List ℕ) → Decl → Bool
is_argument_if_array args d = is_empty d.dims || has_name d.name args

-- so the body of a program with its layout, whatever the values in bounds
abbrev pub ProgramsAreKinded : Type 0
ProgramsAreKinded =
    (p : Program) (values : List Entry) (pushed : List ℕ → Bool) → are_declared_once p.decls ≡ true → list_all (is_argument_if_array p.args) p.decls ≡ true →
    are_well_kinded_statements (declared_names p.decls) (stmt_trees p.body) ≡ true → IsWellKinded (entry_site (program_tree p) (shapes_of p values) pushed) (stmt_trees p.body)

abbrev pub TouchesAreAccesses : Type 0
TouchesAreAccesses = (site : Site) (cells : Cells) (line : ℕ) (path : List PathStep) → GroupTouches site cells line path
