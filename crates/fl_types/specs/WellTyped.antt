-- Typed programs: what may be asked of a program that was checked.
use Rattle.std.specs.Prelude.{◌≡◌, ℕ, Bool, true, false, not, ◌&&◌, ◌||◌, if◌then◌else◌, nat_eq, nat_le, bytes_eq, List, [], ◌∷◌, ◌++◌, length, find, Option, Some, None}
use Rattle.std.specs.List.{list_all, list_any}
use Rattle.fl_ast.specs.declared.decl.Dim.{Dim}
use Rattle.fl_ast.specs.declared.decl.Bound.{Bound}
use Rattle.fl_ast.specs.declared.decl.Term.{Term}
use Rattle.fl_ast.specs.declared.decl.Factor.{Factor}
use Rattle.fl_ast.specs.declared.decl.Factor.TheVariants as factor
use Rattle.fl_ast.specs.declared.decl.Sign.{Sign}
use Rattle.fl_ast.specs.declared.decl.Decl.{Decl}
use Rattle.fl_ast.specs.declared.directive.Directive.{Directive}
use Rattle.fl_ast.specs.declared.stmt.Program.{Program}
use Rattle.fl_ast.specs.Readable.{IsReadable, listed_names}
use Rattle.fl_ast.specs.Tree.{stmt_trees}
use Rattle.fl_types.specs.Kinds.{declared_names, are_well_kinded_statements}
use Rattle.fl_types.specs.Sharing.{has_name, is_ring_kind, is_ring_name, varies_in, assigns_in, ParallelLoop, loops_of_all}
use Rattle.fl_types.specs.Declarations.{all_apart, are_declared, is_declared, is_read_only, is_reserved, is_scalar}

-- ---- declarations

-- each name is declared once
abbrev pub are_declared_once : List Decl → Bool
are_declared_once [] = true
are_declared_once (d ∷ ds) = not (list_any (λ (e : Decl). bytes_eq d.name e.name) ds) && are_declared_once ds

-- the first declaration of a name
abbrev pub declaration_of : List Decl → List ℕ → Option Decl
declaration_of ds x = find (λ (d : Decl). bytes_eq x d.name) ds

-- an array is an argument
abbrev pub is_argument_if_array : List (List ℕ) → Decl → Bool
is_argument_if_array args d = is_scalar d.dims || has_name d.name args

-- the names of a bound, in textual order
abbrev pub factor_names : Factor → List (List ℕ)
factor_names (factor.Lit n) = []
factor_names (factor.Minus n) = []
factor_names (factor.Scalar x) = x ∷ []

abbrev pub second_names : Option Factor → List (List ℕ)
second_names None = []
second_names (Some f) = factor_names f

abbrev pub term_names : Term → List (List ℕ)
term_names t = factor_names t.first ++ second_names t.second

abbrev pub rest_names : Option (Sign × Term) → List (List ℕ)
rest_names None = []
rest_names (Some r) = term_names r.1

abbrev pub bound_names : Bound → List (List ℕ)
bound_names b = term_names b.first ++ rest_names b.rest

abbrev pub lower_names : Option Bound → List (List ℕ)
lower_names None = []
lower_names (Some b) = bound_names b

abbrev pub dim_names : List Dim → List (List ℕ)
dim_names [] = []
dim_names (d ∷ ds) = lower_names d.lower ++ (bound_names d.upper ++ dim_names ds)

-- by its declaration a name is ..

abbrev pub is_scalar_declared : Option Decl → Bool
is_scalar_declared None = false
is_scalar_declared (Some d) = is_scalar d.dims

abbrev pub is_ring_declared : Option Decl → Bool
is_ring_declared None = false
is_ring_declared (Some d) = is_ring_kind d.kind

abbrev pub is_index_declared : Option Decl → Bool
is_index_declared None = false
is_index_declared (Some d) = not (is_ring_kind d.kind)

abbrev pub is_read_only_declared : Option Decl → Bool
is_read_only_declared None = false
is_read_only_declared (Some d) = is_read_only d.intent

abbrev pub is_index_scalar_argument : Program → List ℕ → Bool
is_index_scalar_argument p x =
    has_name x p.args && (is_index_declared (declaration_of p.decls x) && is_scalar_declared (declaration_of p.decls x))

abbrev pub is_local_scalar : Program → List ℕ → Bool
is_local_scalar p x = not (has_name x p.args) && is_scalar_declared (declaration_of p.decls x)

abbrev pub is_local_index_scalar : Program → List ℕ → Bool
is_local_index_scalar p x = is_index_declared (declaration_of p.decls x) && is_local_scalar p x

abbrev pub is_ring_scalar : Program → List ℕ → Bool
is_ring_scalar p x = is_ring_declared (declaration_of p.decls x) && is_scalar_declared (declaration_of p.decls x)

-- an argument of intent in
abbrev pub is_read_only_argument : Program → List ℕ → Bool
is_read_only_argument p x = has_name x p.args && is_read_only_declared (declaration_of p.decls x)

-- the bytes of data: those of the first ring declaration, and eight where there is none
abbrev pub bytes_of_data : List Decl → ℕ
bytes_of_data [] = 8
bytes_of_data (d ∷ ds) = if is_ring_kind d.kind then d.bytes else bytes_of_data ds

abbrev pub has_bytes : ℕ → Decl → Bool
has_bytes bytes d = not (is_ring_kind d.kind) || nat_eq d.bytes bytes

-- an array has at most seven dimensions, whose bounds hold only index scalar arguments
abbrev pub has_fair_shape : Program → Decl → Bool
has_fair_shape p d = nat_le (length d.dims) 7 && list_all (is_index_scalar_argument p) (dim_names d.dims)

-- ---- loops

-- a name that is the variable of a loop is a local index scalar, and is assigned nowhere
abbrev pub is_fair_if_varying : Program → Decl → Bool
is_fair_if_varying p d =
    not (varies_in d.name (stmt_trees p.body)) || (is_local_index_scalar p d.name && not (assigns_in d.name (stmt_trees p.body)))

-- an argument of intent in is assigned nowhere
abbrev pub is_kept_if_read_only : Program → Decl → Bool
is_kept_if_read_only p d = not (is_read_only_argument p d.name) || not (assigns_in d.name (stmt_trees p.body))

-- what the clauses of a parallel loop list is declared, the private names being local scalars and the others no arrays where iterations have
-- copies of them
abbrev pub has_fair_clauses : Program → ParallelLoop → Bool
has_fair_clauses p l =
    are_declared p.decls (listed_names l.directive) && (list_all (is_local_scalar p) l.directive.privates
    && (list_all (λ x. is_scalar_declared (declaration_of p.decls x)) l.directive.firsts && list_all (is_ring_scalar p) l.directive.pluses))

-- The program is typed.
pub record IsTyped (p : Program) : Type 0 where
  -- some text reads as it
  pub readable : IsReadable p
  -- no argument is listed twice, and each is declared
  pub args_once : all_apart p.args ≡ true
  pub args_declared : are_declared p.decls p.args ≡ true
  -- no name is declared twice
  pub once : are_declared_once p.decls ≡ true
  -- an array is an argument
  pub arrays : list_all (is_argument_if_array p.args) p.decls ≡ true
  pub shapes : list_all (has_fair_shape p) p.decls ≡ true
  -- all data has the same number of bytes
  pub bytes : list_all (has_bytes (bytes_of_data p.decls)) p.decls ≡ true
  -- no name is kept for an adjoint
  pub unreserved : (not (is_reserved p.name) && list_all (λ (d : Decl). not (is_reserved d.name)) p.decls) ≡ true
  -- Each operation, subscript, bound, step and assignment has operands of kinds that it is defined for, each name that stands in one of
  -- them is declared and has as many subscripts as dimensions, loop variables are index scalars, and private names scalars.
  pub kinds : are_well_kinded_statements (declared_names p.decls) (stmt_trees p.body) ≡ true
  pub varying : list_all (is_fair_if_varying p) p.decls ≡ true
  pub kept : list_all (is_kept_if_read_only p) p.decls ≡ true
  pub clauses : list_all (has_fair_clauses p) (loops_of_all [] (stmt_trees p.body)) ≡ true
