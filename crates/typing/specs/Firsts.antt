-- The first fault of each part of a program, found from left to right.
use Rattle.std.specs.Prelude.{ℕ, Bool, false, not, ◌&&◌, ◌||◌, if◌then◌else◌, nat_lt, List, [], ◌∷◌, ◌++◌, length, Option, Some, None}
use Rattle.fl_ast.specs.declared.kind.Kind.{Kind}
use Rattle.fl_ast.specs.declared.kind.Kind.TheVariants.{Index, Ring}
use Rattle.fl_ast.specs.declared.kind.BinOp.{BinOp}
use Rattle.fl_ast.specs.declared.kind.BinOp.TheVariants.{Div}
use Rattle.fl_ast.specs.declared.kind.Fun.{Fun}
use Rattle.fl_ast.specs.declared.kind.Fun.TheVariants.{Max, Min, Mod}
use Rattle.fl_ast.specs.declared.decl.Dim.{Dim}
use Rattle.fl_ast.specs.declared.decl.Bound.{Bound}
use Rattle.fl_ast.specs.declared.decl.Term.{Term}
use Rattle.fl_ast.specs.declared.decl.Factor.{Factor}
use Rattle.fl_ast.specs.declared.decl.Factor.TheVariants as factor
use Rattle.fl_ast.specs.declared.decl.Sign.{Sign}
use Rattle.fl_ast.specs.declared.decl.Decl.{Decl}
use Rattle.fl_ast.specs.declared.stmt.Program.{Program}
use Rattle.fl_ast.specs.Tree.{Expression, literal, get, minus, binary, power, call, Expressions, no_expressions, expression, Designator, Condition, relation, negation, conjunction, disjunction, Statement, assignment, branch, loop, Statements, no_statements, statement, Arms, no_arms, arm, stmt_trees}
use Rattle.fl_types.specs.Increment.{increment_terms}
use Rattle.fl_types.specs.Kinds.{kind_of_name, kinds_of_expressions, is_index_kind, has_declared_rank, declared_names, expression_count}
use Rattle.fl_types.specs.Sharing.{has_name, is_ring_name}
use Rattle.fl_types.specs.Declarations.{is_declared, is_reserved}
use Rattle.fl_types.specs.WellTyped.{declaration_of, is_argument_if_array, is_scalar_declared, is_index_scalar_argument, is_local_scalar, is_local_index_scalar, is_ring_scalar, is_read_only_argument, bytes_of_data, has_bytes}
use Rattle.fl_types.specs.Mentions.{Region, made_parallel, is_nested, or_around}
use Rattle.fl_types.specs.Rows.{is_varying, varies_in_loop, is_private_in, is_private_name, is_own_in, is_first_in, is_plus_in, is_name_of, is_no_terms, is_unlisted_in, kind_in, differ, any_ring, is_no_update, is_serial, is_bad_nest}
use Rattle.typing.specs.declared.rule.Rule.{Rule}
use Rattle.typing.specs.declared.rule.Rule.TheVariants.{Undeclared, Doubled, ReservedSuffix, LocalArray, Rank, LiteralRange, KindClash, DataDivision, DataToIndex, IntentIn, SelfSubscript, LoopVarUse, PrivateUse, ReductionUse, AtomicForm, NotShareable, Unlisted, MixedKinds, CollapseForm}
use Rattle.typing.specs.declared.around.Ends.{Ends}
use Rattle.typing.specs.Views.{Around, Told}

-- the first of two
abbrev pub or_later : {A : Type 0} → Option A → Option A → Option A
or_later None later = later
or_later (Some x) later = Some x

-- ---- what ends

abbrev pub nothing_ends : Ends
nothing_ends = record { clash = false; division = false; index = false; atomic = false }

abbrev pub at_last : Expressions → Ends → Ends
at_last no_expressions ends = ends
at_last (expression a rest) ends = nothing_ends

abbrev pub with_clash : Bool → Ends → Ends
with_clash b f = record { clash = b || f.clash; division = f.division; index = f.index; atomic = f.atomic }

abbrev pub with_division : Bool → Ends → Ends
with_division b f = record { clash = f.clash; division = b || f.division; index = f.index; atomic = f.atomic }

abbrev pub with_index : Bool → Ends → Ends
with_index b f = record { clash = f.clash; division = f.division; index = b || f.index; atomic = f.atomic }

abbrev pub is_data : Program → Expression → Bool
is_data p e = not (is_index_kind (kind_in p e))

abbrev pub some_data : Program → Expressions → Bool
some_data p args = any_ring (kinds_of_expressions (declared_names p.decls) args)

abbrev pub two_kinds : Program → Expressions → Bool
two_kinds p args = differ (kinds_of_expressions (declared_names p.decls) args)

abbrev pub with_operation : Program → BinOp → Expression → Expression → Ends → Ends
with_operation p Div a b f = with_division (is_data p a || is_data p b) f
with_operation p _ a b f = f

abbrev pub with_call : Program → Fun → Expressions → Ends → Ends
with_call p Max args f = with_clash (two_kinds p args) f
with_call p Min args f = with_clash (two_kinds p args) f
with_call p Mod args f = with_division (some_data p args) f
with_call p _ args f = f

-- ---- rules at a name or number

abbrev pub unit_rule : List ℕ → Option Rule
unit_rule x = if is_reserved x then Some ReservedSuffix else None

abbrev pub argument_rule : Program → List (List ℕ) → List ℕ → Option Rule
argument_rule p earlier x =
    if not (is_declared p.decls x) then Some Undeclared
    else if has_name x earlier then Some Doubled
    else None

abbrev pub declared_rule : Program → List Decl → Decl → Option Rule
declared_rule p earlier d =
    if is_declared earlier d.name then Some Doubled
    else if is_reserved d.name then Some ReservedSuffix
    else if not (is_argument_if_array p.args d) then Some LocalArray
    else if nat_lt 7 (length d.dims) then Some Rank
    else if not (has_bytes (bytes_of_data p.decls) d) then Some MixedKinds
    else None

abbrev pub bounding_rule : Program → List ℕ → Option Rule
bounding_rule p x =
    if not (is_declared p.decls x) then Some Undeclared
    else if not (is_index_scalar_argument p x) then Some Rank
    else if is_varying p x then Some LoopVarUse
    else if is_private_name p x then Some PrivateUse
    else None

-- an array that iterations would have copies of
abbrev pub is_copied_array : Program → Region → List ℕ → Bool
is_copied_array p l x = (is_private_in l x || has_name x l.directive.firsts) && not (is_scalar_declared (declaration_of p.decls x))

abbrev pub is_wrong_variable : Region → List ℕ → Bool
is_wrong_variable l x = varies_in_loop l x && not (has_name x l.directive.privates)

abbrev pub listed_rule : Program → Region → List ℕ → Option Rule
listed_rule p l x =
    if not (is_declared p.decls x) then Some Undeclared
    else if is_private_in l x && not (is_local_scalar p x) then Some PrivateUse
    else if has_name x l.directive.pluses && not (is_ring_scalar p x) then Some ReductionUse
    else if is_copied_array p l x || is_wrong_variable l x then Some NotShareable
    else None

abbrev pub directive_rule : Region → Option Rule
directive_rule l = if is_bad_nest l then Some CollapseForm else None

abbrev pub variable_rule : Program → Around → List ℕ → Option Rule
variable_rule p a x =
    if not (is_declared p.decls x) then Some Undeclared
    else if not (is_local_index_scalar p x) || has_name x a.vars then Some LoopVarUse
    else None

-- by the declaration of a name with n subscripts
abbrev pub shape_rule : Program → List ℕ → ℕ → Option Rule
shape_rule p x n =
    if not (is_declared p.decls x) then Some Undeclared
    else if not (has_declared_rank p.decls x n) then Some Rank
    else None

abbrev pub is_out : Program → Around → List ℕ → Bool
is_out p a x = is_private_name p x && (not (has_name x a.vars) && not (is_own_in a.parallel x))

abbrev pub is_other_use : Around → List ℕ → Bool
is_other_use a x = is_plus_in a.parallel x && not (is_name_of a.own x)

abbrev pub assigning_rule : Program → Around → List ℕ → Option Rule
assigning_rule p a x =
    if is_read_only_argument p x then Some IntentIn
    else if is_varying p x then Some LoopVarUse
    else if is_out p a x || is_first_in a.parallel x then Some PrivateUse
    else if is_other_use a x then Some ReductionUse
    else if is_unlisted_in a.parallel x then Some Unlisted
    else None

abbrev pub target_rule : Program → Around → List ℕ → ℕ → Option Rule
target_rule p a x n = or_later (shape_rule p x n) (assigning_rule p a x)

abbrev pub ends_rule : Ends → Option Rule
ends_rule f =
    if f.clash then Some KindClash
    else if f.division then Some DataDivision
    else if f.index then Some DataToIndex
    else None

abbrev pub atomic_rule : Ends → Option Rule
atomic_rule f = if f.atomic then Some AtomicForm else None

abbrev pub standing_rule : Program → Around → Ends → List ℕ → Option Rule
standing_rule p a f x =
    if is_name_of a.subscript_of x then Some SelfSubscript
    else if is_varying p x && not (has_name x a.vars) then Some LoopVarUse
    else if is_out p a x then Some PrivateUse
    else if is_other_use a x then Some ReductionUse
    else if f.atomic then Some AtomicForm
    else if is_unlisted_in a.parallel x then Some Unlisted
    else None

abbrev pub use_rule : Program → Around → Ends → List ℕ → ℕ → Option Rule
use_rule p a f x n = or_later (shape_rule p x n) (or_later (ends_rule f) (standing_rule p a f x))

abbrev pub range_rule : ℕ → Kind → Option Rule
range_rule n Index = if nat_lt 2147483647 n then Some LiteralRange else None
range_rule n Ring = None

abbrev pub number_rule : Ends → ℕ → Kind → Option Rule
number_rule f n k = or_later (range_rule n k) (or_later (ends_rule f) (atomic_rule f))

abbrev pub exponent_rule : Ends → Option Rule
exponent_rule f = or_later (ends_rule f) (atomic_rule f)

abbrev pub told : ℕ → List ℕ → Option Rule → Option Told
told line name None = None
told line name (Some rule) = Some (record { rule = rule; line = line; name = name })

-- ---- expressions

abbrev mutual
  pub first_in : Program → Around → Ends → Expression → Option Told
  first_in p a f (literal n k) = told a.line [] (number_rule f n k)
  first_in p a f (get x ss) = or_later (told a.line x (use_rule p a (at_last ss f) x (expression_count ss))) (first_in_subscripts p a f ss)
  first_in p a f (minus e) = first_in p a f e
  first_in p a f (binary op l r) = or_later (first_in p a nothing_ends l) (first_in p a (with_operation p op l r f) r)
  first_in p a f (power e n) = or_later (first_in p a nothing_ends e) (told a.line [] (exponent_rule f))
  first_in p a f (call g args) = first_in_arguments p a (with_call p g args f) args

  pub first_in_subscripts : Program → Around → Ends → Expressions → Option Told
  first_in_subscripts p a f no_expressions = None
  first_in_subscripts p a f (expression e rest) =
      or_later (first_in p a (with_index (is_data p e) (at_last rest f)) e) (first_in_subscripts p a f rest)

  pub first_in_arguments : Program → Around → Ends → Expressions → Option Told
  first_in_arguments p a f no_expressions = None
  first_in_arguments p a f (expression e rest) = or_later (first_in p a (at_last rest f) e) (first_in_arguments p a f rest)

abbrev pub first_in_condition : Program → Around → Condition → Option Told
first_in_condition p a (relation op l r) = or_later (first_in p a nothing_ends l) (first_in p a nothing_ends r)
first_in_condition p a (negation c) = first_in_condition p a c
first_in_condition p a (conjunction l r) = or_later (first_in_condition p a l) (first_in_condition p a r)
first_in_condition p a (disjunction l r) = or_later (first_in_condition p a l) (first_in_condition p a r)

-- ---- statements

abbrev pub at_line : Around → ℕ → Around
at_line a line = record { line = line; vars = a.vars; parallel = a.parallel; in_nest = a.in_nest; own = a.own; subscript_of = a.subscript_of }

-- the target, where the assignment is an increment
abbrev pub own_of : Program → Designator → Expression → Option (List ℕ)
own_of p t e = if is_no_terms (increment_terms (is_ring_name p.decls) t e) then None else Some t.name

abbrev pub at_assignment : Program → Around → ℕ → Designator → Expression → Around
at_assignment p a line t e = record { line = line; vars = a.vars; parallel = a.parallel; in_nest = a.in_nest; own = own_of p t e; subscript_of = None }

abbrev pub at_subscripts : Around → List ℕ → Around
at_subscripts a x = record { line = a.line; vars = a.vars; parallel = a.parallel; in_nest = a.in_nest; own = a.own; subscript_of = Some x }

abbrev pub at_bounds : Around → ℕ → Around
at_bounds a line = record { line = line; vars = a.vars; parallel = if a.in_nest then None else a.parallel; in_nest = a.in_nest; own = a.own; subscript_of = a.subscript_of }

-- with these variables of loops
abbrev pub inside : Around → List (List ℕ) → Option Region → Around
inside a vars parallel = record { line = a.line; vars = vars; parallel = or_around parallel a.parallel; in_nest = is_nested parallel; own = a.own; subscript_of = a.subscript_of }

abbrev pub at_body : Around → List ℕ → Option Region → Around
at_body a var parallel = inside a (var ∷ a.vars) parallel

abbrev pub is_bad_update : Program → Around → Bool → Designator → Expression → Bool
is_bad_update p a atomic t e = atomic && (is_serial a.parallel || is_no_update (increment_terms (is_ring_name p.decls) t e))

abbrev pub takes_data : Program → Designator → Expression → Bool
takes_data p t e = is_index_kind (kind_of_name (declared_names p.decls) t.name) && is_data p e

abbrev pub ends_of_assignment : Program → Around → Bool → Designator → Expression → Ends
ends_of_assignment p a atomic t e = record { clash = false; division = false; index = takes_data p t e; atomic = is_bad_update p a atomic t e }

abbrev pub first_in_target : Program → Around → List ℕ → Expressions → Option Told
first_in_target p a x ss =
    or_later (told a.line x (target_rule p a x (expression_count ss))) (first_in_subscripts p (at_subscripts a x) nothing_ends ss)

abbrev pub first_in_assignment : Program → Around → ℕ → Bool → Designator → Expression → Option Told
first_in_assignment p a line atomic t e =
    or_later (first_in_target p (at_assignment p a line t e) t.name t.subscripts) (first_in p (at_assignment p a line t e) (ends_of_assignment p a atomic t e) e)

abbrev pub first_in_bound : Program → Around → Expression → Option Told
first_in_bound p a e = first_in p a (with_index (is_data p e) nothing_ends) e

abbrev pub first_in_step : Program → Around → Option Expression → Option Told
first_in_step p a None = None
first_in_step p a (Some e) = first_in_bound p a e

abbrev pub first_in_head : Program → Around → List ℕ → Expression → Expression → Option Expression → Option Told
first_in_head p a var first last step =
    or_later (told a.line var (variable_rule p a var))
    (or_later (first_in_bound p a first) (or_later (first_in_bound p a last) (first_in_step p a step)))

abbrev pub first_in_list : Program → Region → List (List ℕ) → Option Told
first_in_list p l [] = None
first_in_list p l (x ∷ xs) = or_later (told l.directive.line x (listed_rule p l x)) (first_in_list p l xs)

abbrev pub first_in_clauses : Program → Region → Option Told
first_in_clauses p l =
    or_later (first_in_list p l l.directive.privates) (or_later (first_in_list p l l.directive.firsts)
    (or_later (first_in_list p l l.directive.shareds) (or_later (first_in_list p l l.directive.pluses)
    (told l.directive.line [] (directive_rule l)))))

abbrev pub first_in_directive : Program → Option Region → Option Told
first_in_directive p None = None
first_in_directive p (Some l) = first_in_clauses p l

abbrev mutual
  pub first_in_statement : Program → Around → Statement → Option Told
  first_in_statement p a (assignment line atomic t e) = first_in_assignment p a line atomic t e
  first_in_statement p a (branch line arms other) = or_later (first_in_arms p a line arms) (first_in_statements p a other)
  first_in_statement p a (loop line number directive var first last step body) =
      or_later (first_in_directive p (made_parallel directive var body))
      (or_later (first_in_head p (at_bounds a line) var first last step)
      (first_in_statements p (at_body a var (made_parallel directive var body)) body))

  pub first_in_statements : Program → Around → Statements → Option Told
  first_in_statements p a no_statements = None
  first_in_statements p a (statement s rest) = or_later (first_in_statement p a s) (first_in_statements p a rest)

  pub first_in_arms : Program → Around → ℕ → Arms → Option Told
  first_in_arms p a line no_arms = None
  first_in_arms p a line (arm test body rest) =
      or_later (first_in_condition p (at_line a line) test) (or_later (first_in_statements p a body) (first_in_arms p a line rest))

-- ---- programs

abbrev pub first_in_args : Program → ℕ → List (List ℕ) → List (List ℕ) → Option Told
first_in_args p line earlier [] = None
first_in_args p line earlier (x ∷ xs) = or_later (told line x (argument_rule p earlier x)) (first_in_args p line (earlier ++ x ∷ []) xs)

-- the bounds of a declaration
abbrev pub first_in_factor : Program → ℕ → Factor → Option Told
first_in_factor p line (factor.Lit n) = None
first_in_factor p line (factor.Minus n) = None
first_in_factor p line (factor.Scalar x) = told line x (bounding_rule p x)

abbrev pub first_in_second : Program → ℕ → Option Factor → Option Told
first_in_second p line None = None
first_in_second p line (Some f) = first_in_factor p line f

abbrev pub first_in_term : Program → ℕ → Term → Option Told
first_in_term p line t = or_later (first_in_factor p line t.first) (first_in_second p line t.second)

abbrev pub first_in_rest : Program → ℕ → Option (Sign × Term) → Option Told
first_in_rest p line None = None
first_in_rest p line (Some r) = first_in_term p line r.1

abbrev pub first_in_extent : Program → ℕ → Bound → Option Told
first_in_extent p line b = or_later (first_in_term p line b.first) (first_in_rest p line b.rest)

abbrev pub first_in_lower : Program → ℕ → Option Bound → Option Told
first_in_lower p line None = None
first_in_lower p line (Some b) = first_in_extent p line b

abbrev pub first_in_dims : Program → ℕ → List Dim → Option Told
first_in_dims p line [] = None
first_in_dims p line (d ∷ ds) = or_later (first_in_lower p line d.lower) (or_later (first_in_extent p line d.upper) (first_in_dims p line ds))

abbrev pub first_in_decl : Program → List Decl → Decl → Option Told
first_in_decl p earlier d = or_later (told d.line d.name (declared_rule p earlier d)) (first_in_dims p d.line d.dims)

abbrev pub first_in_decls : Program → List Decl → List Decl → Option Told
first_in_decls p earlier [] = None
first_in_decls p earlier (d ∷ ds) = or_later (first_in_decl p earlier d) (first_in_decls p (earlier ++ d ∷ []) ds)

abbrev pub at_unit : ℕ → Around
at_unit line = record { line = line; vars = []; parallel = None; in_nest = false; own = None; subscript_of = None }

abbrev pub first_in_program : Program → Option Told
first_in_program p =
    or_later (told p.line p.name (unit_rule p.name))
    (or_later (first_in_args p p.line [] p.args)
    (or_later (first_in_decls p [] p.decls)
    (first_in_statements p (at_unit p.line) (stmt_trees p.body))))
