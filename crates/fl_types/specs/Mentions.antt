-- The names and numbers of a program in textual order, each with what stands around it.
-- Words, marks and the sizes of schedules aren't among them: no rule of typing stands at one.
use Rattle.std.specs.Prelude.{ℕ, ◌+◌, Bool, true, false, if◌then◌else◌, List, [], ◌∷◌, ◌++◌, map, Option, Some, None}
use Rattle.fl_ast.specs.declared.kind.Kind.{Kind}
use Rattle.fl_ast.specs.declared.decl.Decl.{Decl}
use Rattle.fl_ast.specs.declared.directive.Directive.{Directive}
use Rattle.fl_ast.specs.declared.stmt.Program.{Program}
use Rattle.fl_ast.specs.Readable.{listed_names}
use Rattle.fl_ast.specs.Tree.{Expression, literal, get, minus, binary, power, call, Expressions, no_expressions, expression, Designator, Condition, relation, negation, conjunction, disjunction, Statement, assignment, branch, loop, Statements, no_statements, statement, Arms, no_arms, arm, stmt_trees}
use Rattle.fl_types.specs.Kinds.{expression_count}
use Rattle.fl_types.specs.Nests.{is_nest}
use Rattle.fl_types.specs.WellTyped.{dim_names}

-- a parallel loop: its clauses, its variable and its statements
pub record Region : Type 0 where
  pub directive : Directive
  pub var : List ℕ
  pub body : Statements

-- what stands around a name or number of the body
pub record Surroundings : Type 0 where
  -- of the innermost tree that has a line
  pub line : ℕ
  -- the variables of the loops in which it stands, the innermost first; the bounds and the step of a loop stand outside it
  pub vars : List (List ℕ)
  -- the parallel loop in which it stands
  pub parallel : Option Region
  -- directly in a loop that is collapsed with the loop there
  pub in_nest : Bool
  -- the target and the value of the assignment in which it stands
  pub assignment : Option (Designator × Expression)
  -- the target in whose subscripts it stands
  pub subscript_of : Option (List ℕ)

-- what has its last name or number there
pub data Ending : Type 0 where
  -- an expression
  a_value : Expression → Ending
  -- one that is a subscript, a bound or a step
  an_index : Expression → Ending
  -- an assignment, true where it is atomic
  an_assignment : Bool → Designator → Expression → Ending

pub data Mention : Type 0 where
  -- the unit's name
  the_unit : (line : ℕ) → (name : List ℕ) → Mention
  -- an argument, behind those before it
  an_argument : (line : ℕ) → (earlier : List (List ℕ)) → (name : List ℕ) → Mention
  -- the name of a declaration, behind those before it
  a_declared : (earlier : List Decl) → Decl → Mention
  -- a name in a bound of a declaration
  a_bounding : (line : ℕ) → (name : List ℕ) → Mention
  -- a name in a clause of the loop
  a_listed : Region → (name : List ℕ) → Mention
  -- the end of the loop's directive
  a_directive : Region → Mention
  -- the variable of a `do`
  a_variable : Surroundings → (name : List ℕ) → Mention
  -- the name of a target, with its number of subscripts
  a_target : Surroundings → (name : List ℕ) → (count : ℕ) → Mention
  -- a name in an expression, with its number of subscripts
  a_use : Surroundings → List Ending → (name : List ℕ) → (count : ℕ) → Mention
  a_number : Surroundings → List Ending → (value : ℕ) → Kind → Mention
  -- the exponent of a power
  an_exponent : Surroundings → List Ending → Mention

-- ---- expressions

-- what ends with the last of some expressions, where there is none behind one of them
abbrev pub at_last : Expressions → List Ending → List Ending
at_last no_expressions ends = ends
at_last (expression a rest) ends = []

-- the names and numbers of an expression; with its last one end the expression and `ends`
abbrev mutual
  pub in_expression : Surroundings → List Ending → Expression → List Mention
  in_expression s ends (literal n k) = a_number s (a_value (literal n k) ∷ ends) n k ∷ []
  in_expression s ends (get x ss) =
      a_use s (at_last ss (a_value (get x ss) ∷ ends)) x (expression_count ss) ∷ in_subscripts s (a_value (get x ss) ∷ ends) ss
  in_expression s ends (minus a) = in_expression s (a_value (minus a) ∷ ends) a
  in_expression s ends (binary op a b) = in_expression s [] a ++ in_expression s (a_value (binary op a b) ∷ ends) b
  in_expression s ends (power a n) = in_expression s [] a ++ an_exponent s (a_value (power a n) ∷ ends) ∷ []
  in_expression s ends (call f args) = in_arguments s (a_value (call f args) ∷ ends) args

  pub in_subscripts : Surroundings → List Ending → Expressions → List Mention
  in_subscripts s ends no_expressions = []
  in_subscripts s ends (expression a rest) = in_expression s (an_index a ∷ at_last rest ends) a ++ in_subscripts s ends rest

  pub in_arguments : Surroundings → List Ending → Expressions → List Mention
  in_arguments s ends no_expressions = []
  in_arguments s ends (expression a rest) = in_expression s (at_last rest ends) a ++ in_arguments s ends rest

abbrev pub in_condition : Surroundings → Condition → List Mention
in_condition s (relation op a b) = in_expression s [] a ++ in_expression s [] b
in_condition s (negation a) = in_condition s a
in_condition s (conjunction a b) = in_condition s a ++ in_condition s b
in_condition s (disjunction a b) = in_condition s a ++ in_condition s b

-- ---- statements

abbrev pub at_line : Surroundings → ℕ → Surroundings
at_line s line = record { line = line; vars = s.vars; parallel = s.parallel; in_nest = s.in_nest; assignment = s.assignment; subscript_of = s.subscript_of }

abbrev pub at_assignment : Surroundings → ℕ → Designator → Expression → Surroundings
at_assignment s line p e = record { line = line; vars = s.vars; parallel = s.parallel; in_nest = s.in_nest; assignment = Some (p, e); subscript_of = None }

abbrev pub at_subscripts : Surroundings → ℕ → Designator → Expression → Surroundings
at_subscripts s line p e = record { line = line; vars = s.vars; parallel = s.parallel; in_nest = s.in_nest; assignment = Some (p, e); subscript_of = Some p.name }

-- around the bounds and the step of a loop: those of one that is collapsed with the parallel loop around it stand outside that
abbrev pub at_bounds : Surroundings → ℕ → Surroundings
at_bounds s line = record { line = line; vars = s.vars; parallel = if s.in_nest then None else s.parallel; in_nest = s.in_nest; assignment = s.assignment; subscript_of = s.subscript_of }

abbrev pub in_assignment : Surroundings → ℕ → Bool → Designator → Expression → List Mention
in_assignment s line atomic p e =
    a_target (at_assignment s line p e) p.name (expression_count p.subscripts)
    ∷ (in_subscripts (at_subscripts s line p e) [] p.subscripts ++ in_expression (at_assignment s line p e) (an_assignment atomic p e ∷ []) e)

abbrev pub in_bound : Surroundings → Expression → List Mention
in_bound s e = in_expression s (an_index e ∷ []) e

abbrev pub in_step : Surroundings → Option Expression → List Mention
in_step s None = []
in_step s (Some e) = in_bound s e

-- a loop's variable, bounds and step
abbrev pub in_head : Surroundings → List ℕ → Expression → Expression → Option Expression → List Mention
in_head s var first last step = a_variable s var ∷ (in_bound s first ++ (in_bound s last ++ in_step s step))

-- the parallel loop that a directive makes of a loop
abbrev pub made_parallel : Option Directive → List ℕ → Statements → Option Region
made_parallel None var body = None
made_parallel (Some d) var body = Some (record { directive = d; var = var; body = body })

abbrev pub in_directive : Option Region → List Mention
in_directive None = []
in_directive (Some l) = map (a_listed l) (listed_names l.directive) ++ a_directive l ∷ []

abbrev pub is_nested : Option Region → Bool
is_nested None = false
is_nested (Some l) = is_nest l.directive l.body

-- the innermost of two
abbrev pub or_around : Option Region → Option Region → Option Region
or_around None around = around
or_around (Some l) around = Some l

-- around the statements of a loop
abbrev pub at_body : Surroundings → List ℕ → Option Region → Surroundings
at_body s var parallel = record { line = s.line; vars = var ∷ s.vars; parallel = or_around parallel s.parallel; in_nest = is_nested parallel; assignment = s.assignment; subscript_of = s.subscript_of }

abbrev mutual
  pub in_statement : Surroundings → Statement → List Mention
  in_statement s (assignment line atomic p e) = in_assignment s line atomic p e
  in_statement s (branch line arms other) = in_arms s line arms ++ in_statements s other
  in_statement s (loop line number directive var first last step body) =
      in_directive (made_parallel directive var body)
      ++ (in_head (at_bounds s line) var first last step ++ in_statements (at_body s var (made_parallel directive var body)) body)

  pub in_statements : Surroundings → Statements → List Mention
  in_statements s no_statements = []
  in_statements s (statement a rest) = in_statement s a ++ in_statements s rest

  -- each test stands at the line of its `if`
  pub in_arms : Surroundings → ℕ → Arms → List Mention
  in_arms s line no_arms = []
  in_arms s line (arm test body rest) = in_condition (at_line s line) test ++ (in_statements s body ++ in_arms s line rest)

-- outside all loops
abbrev pub at_unit : ℕ → Surroundings
at_unit line = record { line = line; vars = []; parallel = None; in_nest = false; assignment = None; subscript_of = None }

-- ---- programs

abbrev pub in_args : ℕ → List (List ℕ) → List (List ℕ) → List Mention
in_args line earlier [] = []
in_args line earlier (x ∷ xs) = an_argument line earlier x ∷ in_args line (earlier ++ x ∷ []) xs

abbrev pub in_decl : List Decl → Decl → List Mention
in_decl earlier d = a_declared earlier d ∷ map (a_bounding d.line) (dim_names d.dims)

abbrev pub in_decls : List Decl → List Decl → List Mention
in_decls earlier [] = []
in_decls earlier (d ∷ ds) = in_decl earlier d ++ in_decls (earlier ++ d ∷ []) ds

abbrev pub mentions : Program → List Mention
mentions p = the_unit p.line p.name ∷ (in_args p.line [] p.args ++ (in_decls [] p.decls ++ in_statements (at_unit p.line) (stmt_trees p.body)))
