-- The names of a program that have places.
use Rattle.std.specs.Prelude.{ℕ, Bool, true, false, cond, not, ◌&&◌, bytes_eq, List, [], ◌∷◌, ◌++◌, map, find, Option, Some, None}
use Rattle.std.specs.List.{list_any, filter_map}
use Rattle.fl_ast.specs.declared.decl.Decl.{Decl}
use Rattle.fl_ast.specs.declared.stmt.Program.{Program}
use Rattle.fl_ast.specs.Tree.{stmt_trees}
use Rattle.store_core.specs.declared.layout.Shape.{Shape}
use Rattle.store_core.specs.declared.values.Entry.{Entry}
use Rattle.store_core.specs.Values.{value_in}
use Rattle.store_core.specs.Bounds.{shape_of}
use Rattle.store_core.specs.Keys.{laid_all}
use Rattle.store_core.specs.Scopes.{scopes_in}

-- the first declaration of a name
abbrev pub declaration_of : List Decl → List ℕ → Option Decl
declaration_of decls name = find (λ (d : Decl). bytes_eq name d.name) decls

abbrev pub is_empty : {A : Type 0} → List A → Bool
is_empty [] = true
is_empty (x ∷ xs) = false

-- all names are scalars
abbrev pub are_scalars : List Shape → Bool
are_scalars [] = true
are_scalars (s ∷ es) = is_empty s.axes && are_scalars es

-- a scalar that is no argument and lives not in a loop alone
abbrev pub is_local : Program → Decl → Bool
is_local p d = is_empty d.dims && (not (list_any (λ name. bytes_eq d.name name) p.args) && not (scopes_in d.name (stmt_trees p.body)))

abbrev pub local_of : Program → Decl → Option Decl
local_of p d = cond (is_local p d) (Some d) None

-- the declarations of the arguments in their order, and then those of the local scalars
abbrev pub placed : Program → List Decl
placed p = filter_map (declaration_of p.decls) p.args ++ filter_map (local_of p) p.decls

-- the shapes of a program's layout, `values` giving the scalars in bounds
abbrev pub shapes_of : Program → List Entry → List Shape
shapes_of p values = laid_all [] (map (shape_of (value_in values)) (placed p))

abbrev pub laid_some : List Entry → List Shape → Option Decl → List Shape
laid_some values es None = es
laid_some values es (Some d) = laid_all es (shape_of (value_in values) d ∷ [])
