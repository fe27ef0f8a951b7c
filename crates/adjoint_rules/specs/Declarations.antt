-- The arguments, the declarations and the head of an adjoint.
use Rattle.std.specs.Prelude.{ℕ, Bool, not, ◌&&◌, if◌then◌else◌, List, [], ◌∷◌, ◌++◌, flat_map, map}
use Rattle.std.specs.List.{list_any}
use Rattle.fl_ast.specs.Sizes.{bytes_of}
use Rattle.fl_ast.specs.declared.kind.Kind.{Kind}
use Rattle.fl_ast.specs.declared.kind.Kind.TheVariants as kind
use Rattle.fl_ast.specs.declared.kind.Intent.TheVariants as intent
use Rattle.fl_ast.specs.declared.decl.Decl.{Decl}
use Rattle.fl_ast.specs.declared.stmt.Program.{Program}
use Rattle.fl_ast.specs.Tree.{Statements, stmt_trees}
use Rattle.fl_ast.specs.AdjointTree.{AdjointStatement}
use Rattle.fl_types.specs.Sharing.{has_name, is_ring_kind, varies_in, loops_of_all, ParallelLoop, is_private, sharing_in}
use Rattle.fl_types.specs.Declarations.{is_scalar}
use Rattle.adjoint_rules.specs.OwnNames.{adjoint_name, scalar, k_name, w_name, t_name}
use Rattle.adjoint_rules.specs.Clauses.{with_adjoint, bound_names, loop_numbers_in}
use Rattle.adjoint_rules.specs.Expressions.{cleared}
use Rattle.adjoint_rules.specs.Scopes.{Scope}
use Rattle.adjoint_rules.specs.Forward.{zeroed}

-- each active name is followed by its adjoint
abbrev pub arguments : (List ℕ → Bool) → List (List ℕ) → List (List ℕ)
arguments active args = flat_map (with_adjoint active) args

-- ---- declarations

abbrev pub without_intent : Decl → Decl
without_intent d = record d { intent = intent.Unsaid }

-- of the same shape and size
abbrev pub adjoint_decl : Decl → Decl
adjoint_decl d = record d { intent = intent.Unsaid; name = adjoint_name d.name }

abbrev pub declared_with_adjoint : (List ℕ → Bool) → Decl → List Decl
declared_with_adjoint active d = if active d.name then without_intent d ∷ adjoint_decl d ∷ [] else without_intent d ∷ []

-- the size of data: that of the first name of the ring kind
abbrev pub data_bytes : List Decl → ℕ
data_bytes [] = bytes_of kind.Ring
data_bytes (d ∷ ds) = if is_ring_kind d.kind then d.bytes else data_bytes ds

abbrev pub own_decl : ℕ → Kind → ℕ → List ℕ → Decl
own_decl line k bytes x = record { line = line; name = x; kind = k; bytes = bytes; intent = intent.Unsaid; dims = [] }

abbrev pub index_decl : ℕ → List ℕ → Decl
index_decl line x = own_decl line kind.Index (bytes_of kind.Index) x

abbrev pub own_decls : ℕ → List Decl → Statements → List Decl
own_decls line decls body =
    map (index_decl line) (flat_map bound_names (loop_numbers_in body) ++ k_name ∷ w_name ∷ [])
    ++ own_decl line kind.Ring (data_bytes decls) t_name ∷ []

-- in the program's order, each active name followed by its adjoint, and then the adjoint's own
abbrev pub declarations : (List ℕ → Bool) → ℕ → List Decl → Statements → List Decl
declarations active line decls body = flat_map (declared_with_adjoint active) decls ++ own_decls line decls body

-- ---- the head

-- the name is private in one of the loops
abbrev pub is_private_in : List ℕ → ParallelLoop → Bool
is_private_in x l = is_private (sharing_in l.var l.directive l.body x)

-- a scalar that is no argument, and neither private nor a loop's variable
abbrev pub is_local : Program → Decl → Bool
is_local p d =
    is_scalar d.dims && (not (has_name d.name p.args)
    && (not (varies_in d.name (stmt_trees p.body)) && not (list_any (is_private_in d.name) (loops_of_all [] (stmt_trees p.body)))))

-- each such scalar is set, and then its adjoint
abbrev pub beginning : Scope → ℕ → Program → Decl → List AdjointStatement
beginning scope line p d =
    if is_local p d then zeroed scope line d.name ∷ (if scope.active d.name then cleared line (scalar d.name) ∷ [] else []) else []

abbrev pub head : Scope → Program → List AdjointStatement
head scope p = flat_map (beginning scope p.line p) p.decls
