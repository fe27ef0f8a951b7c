-- Kinds of expressions, and trees in which every operation has operands of kinds that it is defined for.
use Rattle.std.specs.Prelude.{ℕ, ◌+◌, Bool, true, false, ◌&&◌, if◌then◌else◌, nat_lt, nat_eq, bytes_eq, List, [], ◌∷◌, length, Option, Some, None}
use Rattle.std.specs.List.{list_all, list_any}
use Rattle.fl_ast.specs.declared.kind.Kind.{Kind}
use Rattle.fl_ast.specs.declared.kind.Kind.TheVariants.{Index, Ring}
use Rattle.fl_ast.specs.declared.kind.BinOp.{BinOp}
use Rattle.fl_ast.specs.declared.kind.BinOp.TheVariants.{Add, Sub, Mul, Div}
use Rattle.fl_ast.specs.declared.kind.Fun.{Fun}
use Rattle.fl_ast.specs.declared.kind.Fun.TheVariants.{Max, Min, Abs, Mod}
use Rattle.fl_ast.specs.declared.decl.Decl.{Decl}
use Rattle.fl_ast.specs.declared.directive.Directive.{Directive}
use Rattle.fl_ast.specs.Tree.{Expression, literal, get, minus, binary, power, call, Expressions, no_expressions, expression, Designator, Condition, relation, negation, conjunction, disjunction, Statement, assignment, branch, loop, Statements, no_statements, statement, Arms, no_arms, arm}
use Rattle.fl_ast.specs.Same.{same_kind}
use Rattle.fl_types.specs.Increment.{target_of}
use Rattle.fl_types.specs.Sharing.{is_ring_name}

-- what is known of names: which are of the ring kind, and with how many subscripts each may stand
pub record Names : Type 0 where
  pub ring : List ℕ → Bool
  pub has_rank : List ℕ → ℕ → Bool

abbrev pub kind_of_name : Names → List ℕ → Kind
kind_of_name names x = if names.ring x then Ring else Index

-- of two operands: the ring kind where one has it
abbrev pub wider_kind : Kind → Kind → Kind
wider_kind Ring k = Ring
wider_kind Index k = k

abbrev pub widest_kind : List Kind → Kind
widest_kind [] = Index
widest_kind (k ∷ ks) = wider_kind k (widest_kind ks)

abbrev mutual
  pub kind_of_expression : Names → Expression → Kind
  kind_of_expression names (literal n k) = k
  kind_of_expression names (get x ss) = kind_of_name names x
  kind_of_expression names (minus a) = kind_of_expression names a
  kind_of_expression names (binary op a b) = wider_kind (kind_of_expression names a) (kind_of_expression names b)
  kind_of_expression names (power a n) = kind_of_expression names a
  kind_of_expression names (call f args) = widest_kind (kinds_of_expressions names args)

  pub kinds_of_expressions : Names → Expressions → List Kind
  kinds_of_expressions names no_expressions = []
  kinds_of_expressions names (expression e es) = kind_of_expression names e ∷ kinds_of_expressions names es

abbrev pub is_index_kind : Kind → Bool
is_index_kind Index = true
is_index_kind Ring = false

-- an index literal is a number of the index kind, a ring literal a word
abbrev pub literal_fits : ℕ → Kind → Bool
literal_fits n Index = nat_lt n 2147483648
literal_fits n Ring = nat_lt n 18446744073709551616

-- data is never divided
abbrev pub takes_operands : BinOp → Kind → Kind → Bool
takes_operands Add k j = true
takes_operands Sub k j = true
takes_operands Mul k j = true
takes_operands Div k j = is_index_kind k && is_index_kind j

abbrev pub takes_arguments : Fun → List Kind → Bool
takes_arguments Max (k ∷ j ∷ []) = same_kind k j
takes_arguments Min (k ∷ j ∷ []) = same_kind k j
takes_arguments Mod (k ∷ j ∷ []) = is_index_kind k && is_index_kind j
takes_arguments Abs (k ∷ []) = true
takes_arguments f ks = false

abbrev pub expression_count : Expressions → ℕ
expression_count no_expressions = 0
expression_count (expression e es) = 1 + expression_count es

abbrev mutual
  pub is_well_kinded : Names → Expression → Bool
  is_well_kinded names (literal n k) = literal_fits n k
  is_well_kinded names (get x ss) = names.has_rank x (expression_count ss) && (are_well_kinded names ss && list_all is_index_kind (kinds_of_expressions names ss))
  is_well_kinded names (minus a) = is_well_kinded names a
  is_well_kinded names (binary op a b) =
      takes_operands op (kind_of_expression names a) (kind_of_expression names b) && (is_well_kinded names a && is_well_kinded names b)
  is_well_kinded names (power a n) = is_well_kinded names a
  is_well_kinded names (call f args) = takes_arguments f (kinds_of_expressions names args) && are_well_kinded names args

  pub are_well_kinded : Names → Expressions → Bool
  are_well_kinded names no_expressions = true
  are_well_kinded names (expression e es) = is_well_kinded names e && are_well_kinded names es

-- the operands of a relation may be of two kinds
abbrev pub is_well_kinded_condition : Names → Condition → Bool
is_well_kinded_condition names (relation op a b) = is_well_kinded names a && is_well_kinded names b
is_well_kinded_condition names (negation a) = is_well_kinded_condition names a
is_well_kinded_condition names (conjunction a b) = is_well_kinded_condition names a && is_well_kinded_condition names b
is_well_kinded_condition names (disjunction a b) = is_well_kinded_condition names a && is_well_kinded_condition names b

-- a bound or a step
abbrev pub is_index_expression : Names → Expression → Bool
is_index_expression names e = is_index_kind (kind_of_expression names e) && is_well_kinded names e

abbrev pub is_index_step : Names → Option Expression → Bool
is_index_step names None = true
is_index_step names (Some e) = is_index_expression names e

-- a loop's variable
abbrev pub is_index_scalar : Names → List ℕ → Bool
is_index_scalar names x = is_index_kind (kind_of_name names x) && names.has_rank x 0

-- private names are scalars
abbrev pub has_scalar_privates : Names → Option Directive → Bool
has_scalar_privates names None = true
has_scalar_privates names (Some d) = list_all (λ x. names.has_rank x 0) d.privates

-- data is never made an index
abbrev pub takes_value : Kind → Kind → Bool
takes_value Ring k = true
takes_value Index k = is_index_kind k

abbrev pub is_well_kinded_assignment : Names → Designator → Expression → Bool
is_well_kinded_assignment names p e =
    takes_value (kind_of_name names p.name) (kind_of_expression names e) && (is_well_kinded names (target_of p) && is_well_kinded names e)

abbrev pub is_well_kinded_head : Names → List ℕ → Expression → Expression → Option Expression → Bool
is_well_kinded_head names var first last step =
    is_index_scalar names var && (is_index_expression names first && (is_index_expression names last && is_index_step names step))

abbrev mutual
  pub is_well_kinded_statement : Names → Statement → Bool
  is_well_kinded_statement names (assignment line atomic p e) = is_well_kinded_assignment names p e
  is_well_kinded_statement names (branch line arms other) = are_well_kinded_arms names arms && are_well_kinded_statements names other
  is_well_kinded_statement names (loop line number directive var first last step body) =
      is_well_kinded_head names var first last step && (has_scalar_privates names directive && are_well_kinded_statements names body)

  pub are_well_kinded_statements : Names → Statements → Bool
  are_well_kinded_statements names no_statements = true
  are_well_kinded_statements names (statement s ss) = is_well_kinded_statement names s && are_well_kinded_statements names ss

  pub are_well_kinded_arms : Names → Arms → Bool
  are_well_kinded_arms names no_arms = true
  are_well_kinded_arms names (arm test body arms) =
      is_well_kinded_condition names test && (are_well_kinded_statements names body && are_well_kinded_arms names arms)

-- ---- the names of declarations

abbrev pub has_declared_rank : List Decl → List ℕ → ℕ → Bool
has_declared_rank decls x n = list_any (λ (d : Decl). bytes_eq x d.name && nat_eq (length d.dims) n) decls

abbrev pub declared_names : List Decl → Names
declared_names decls = record { ring = is_ring_name decls; has_rank = has_declared_rank decls }
