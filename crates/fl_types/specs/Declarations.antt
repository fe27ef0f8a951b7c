-- Names as they are declared: which are, which may be assigned, which are kept, and which are arguments of the ring kind.
use Rattle.std.specs.Prelude.{ℕ, Bool, true, false, not, ◌&&◌, ◌||◌, nat_lt, nat_eq, bytes_eq, List, [], ◌∷◌, length, codes}
use Rattle.std.specs.List.{starts_with, ends_with, list_all, list_any}
use Rattle.fl_ast.specs.declared.kind.Intent.{Intent}
use Rattle.fl_ast.specs.declared.kind.Intent.TheVariants as intent
use Rattle.fl_ast.specs.declared.decl.Decl.{Decl}
use Rattle.fl_ast.specs.declared.decl.Dim.{Dim}
use Rattle.fl_ast.specs.declared.stmt.Program.{Program}
use Rattle.fl_types.specs.Sharing.{has_name, is_ring_name}
use Rattle.fl_ast.specs.Tree.{Expressions, no_expressions, expression}

-- no name stands twice
abbrev pub all_apart : List (List ℕ) → Bool
all_apart [] = true
all_apart (name ∷ names) = not (has_name name names) && all_apart names

-- the name of a declaration
abbrev pub declares : List ℕ → Decl → Bool
declares name d = bytes_eq d.name name

abbrev pub is_declared : List Decl → List ℕ → Bool
is_declared ds name = list_any (declares name) ds

abbrev pub is_read_only : Intent → Bool
is_read_only intent.ReadOnly = true
is_read_only intent.Unsaid = false
is_read_only intent.WriteOnly = false
is_read_only intent.Both = false

-- kept for the names that an adjoint adds
abbrev pub is_reserved : List ℕ → Bool
is_reserved name = (ends_with nat_eq name (codes "_b") || starts_with nat_eq name (codes "formad_")) || nat_lt 61 (length name)

abbrev pub is_scalar : List Dim → Bool
is_scalar [] = true
is_scalar (d ∷ ds) = false

abbrev pub has_none : Expressions → Bool
has_none no_expressions = true
has_none (expression e es) = false

abbrev pub are_declared : List Decl → List (List ℕ) → Bool
are_declared ds names = list_all (is_declared ds) names

-- an argument of the ring kind
abbrev pub is_ring_argument : Program → List ℕ → Bool
is_ring_argument p name = has_name name p.args && is_ring_name p.decls name
