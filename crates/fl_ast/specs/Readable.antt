-- Programs that some text reads as: what the grammar and its limits say of trees.
use Rattle.std.specs.Prelude.{◌≡◌, ℕ, suc, ◌+◌, ◌<◌, ◌≤◌, ◌^◌, Bool, true, false, not, ◌&&◌, ◌||◌, ◌==◌, nat_le, List, [], ◌∷◌, ◌++◌, length, Option, Some, None, bytes_eq}
use Rattle.std.specs.List.{list_all, list_any}
use Rattle.fl_base.specs.Spelling.{is_name}
use Rattle.fl_ast.specs.declared.kind.Kind.{Kind}
use Rattle.fl_ast.specs.declared.kind.Kind.TheVariants as kind
use Rattle.fl_ast.specs.declared.kind.Fun.{Fun}
use Rattle.fl_ast.specs.declared.kind.Fun.TheVariants as fun
use Rattle.fl_ast.specs.declared.decl.Sign.{Sign}
use Rattle.fl_ast.specs.declared.decl.Factor.{Factor}
use Rattle.fl_ast.specs.declared.decl.Factor.TheVariants as factor
use Rattle.fl_ast.specs.declared.decl.Term.{Term}
use Rattle.fl_ast.specs.declared.decl.Bound.{Bound}
use Rattle.fl_ast.specs.declared.decl.Dim.{Dim}
use Rattle.fl_ast.specs.declared.decl.Decl.{Decl}
use Rattle.fl_ast.specs.declared.directive.ScheduleKind.{ScheduleKind}
use Rattle.fl_ast.specs.declared.directive.ScheduleKind.TheVariants as schedule
use Rattle.fl_ast.specs.declared.directive.Directive.{Directive}
use Rattle.fl_ast.specs.declared.stmt.Program.{Program}
use Rattle.fl_ast.specs.Tree.{Expression, literal, get, minus, binary, power, call, Expressions, no_expressions, expression, Condition, relation, negation, conjunction, disjunction, Statement, assignment, branch, loop, Statements, no_statements, statement, Arms, no_arms, arm, stmt_trees}
use Rattle.fl_ast.specs.Words.{reserved_words}
use Rattle.fl_ast.specs.Measures.{deepest_in_all, count_all, block_depth_of_all, loop_numbers_of_all, nodes_of_all}

-- ---- names

-- a name that a variable may have
abbrev pub is_variable : List ℕ → Bool
is_variable x = is_name x && not (list_any (bytes_eq x) reserved_words)

-- no name stands twice
abbrev pub are_apart : List (List ℕ) → Bool
are_apart [] = true
are_apart (x ∷ xs) = not (list_any (bytes_eq x) xs) && are_apart xs

-- ---- expressions and conditions

abbrev pub arity : Fun → ℕ
arity fun.Max = 2
arity fun.Min = 2
arity fun.Abs = 1
arity fun.Mod = 2

abbrev pub number_of : Expressions → ℕ
number_of no_expressions = 0
number_of (expression a s) = 1 + number_of s

abbrev mutual
  pub is_readable : Expression → Bool
  is_readable (literal n k) = nat_le n 9223372036854775807
  is_readable (get x s) = is_variable x && are_readable s
  is_readable (minus a) = is_readable a
  is_readable (binary o a b) = is_readable a && is_readable b
  is_readable (power a n) = nat_le n 2147483647 && is_readable a
  is_readable (call f s) = (number_of s == arity f) && are_readable s

  pub are_readable : Expressions → Bool
  are_readable no_expressions = true
  are_readable (expression a s) = is_readable a && are_readable s

abbrev pub is_readable_condition : Condition → Bool
is_readable_condition (relation o a b) = is_readable a && is_readable b
is_readable_condition (negation a) = is_readable_condition a
is_readable_condition (conjunction a b) = is_readable_condition a && is_readable_condition b
is_readable_condition (disjunction a b) = is_readable_condition a && is_readable_condition b

abbrev pub is_readable_step : Option Expression → Bool
is_readable_step None = true
is_readable_step (Some e) = is_readable e

-- ---- directives

-- the size of chunks, which `auto` and `runtime` don't have
abbrev pub is_readable_chunk : ScheduleKind → Option ℕ → Bool
is_readable_chunk kind None = true
is_readable_chunk schedule.Static (Some n) = nat_le n 2147483647
is_readable_chunk schedule.Dynamic (Some n) = nat_le n 2147483647
is_readable_chunk schedule.Guided (Some n) = nat_le n 2147483647
is_readable_chunk schedule.Auto (Some n) = false
is_readable_chunk schedule.Runtime (Some n) = false

abbrev pub is_readable_schedule : Option (ScheduleKind × Option ℕ) → Bool
is_readable_schedule None = true
is_readable_schedule (Some s) = is_readable_chunk s.0 s.1

-- the names of all clauses
abbrev pub listed_names : Directive → List (List ℕ)
listed_names d = d.privates ++ (d.firsts ++ (d.shareds ++ d.pluses))

abbrev pub has_readable_clauses : Directive → Bool
has_readable_clauses d = list_all is_variable (listed_names d) && (are_apart (listed_names d) && (is_readable_schedule d.schedule && nat_le d.collapse 2))

abbrev pub is_parallel : Option Directive → Bool
is_parallel None = false
is_parallel (Some d) = true

abbrev pub is_readable_directive : Option Directive → Bool
is_readable_directive None = true
is_readable_directive (Some d) = has_readable_clauses d

-- ---- statements

-- a parallel loop among them
abbrev mutual
  pub has_parallel : Statement → Bool
  has_parallel (assignment line atomic target value) = false
  has_parallel (branch line arms other) = has_parallel_in_arms arms || has_parallel_in other
  has_parallel (loop line number directive var first last step body) = is_parallel directive || has_parallel_in body

  pub has_parallel_in : Statements → Bool
  has_parallel_in no_statements = false
  has_parallel_in (statement s rest) = has_parallel s || has_parallel_in rest

  pub has_parallel_in_arms : Arms → Bool
  has_parallel_in_arms no_arms = false
  has_parallel_in_arms (arm test body rest) = has_parallel_in body || has_parallel_in_arms rest

abbrev pub has_arm : Arms → Bool
has_arm no_arms = false
has_arm (arm test body rest) = true

-- an If has an arm, and a parallel loop holds no other
abbrev mutual
  pub is_readable_statement : Statement → Bool
  is_readable_statement (assignment line atomic target value) = is_variable target.name && (are_readable target.subscripts && is_readable value)
  is_readable_statement (branch line arms other) = has_arm arms && (are_readable_arms arms && are_readable_statements other)
  is_readable_statement (loop line number directive var first last step body) =
      is_readable_directive directive && (not (is_parallel directive && has_parallel_in body) && (is_variable var
      && (is_readable first && (is_readable last && (is_readable_step step && are_readable_statements body)))))

  pub are_readable_statements : Statements → Bool
  are_readable_statements no_statements = true
  are_readable_statements (statement s rest) = is_readable_statement s && are_readable_statements rest

  pub are_readable_arms : Arms → Bool
  are_readable_arms no_arms = true
  are_readable_arms (arm test body rest) = is_readable_condition test && (are_readable_statements body && are_readable_arms rest)

-- ---- declarations

-- Minus only where it may lead
abbrev pub is_readable_factor : Bool → Factor → Bool
is_readable_factor leads (factor.Lit n) = true
is_readable_factor leads (factor.Minus n) = leads
is_readable_factor leads (factor.Scalar x) = is_variable x

abbrev pub is_readable_second : Option Factor → Bool
is_readable_second None = true
is_readable_second (Some f) = is_readable_factor false f

abbrev pub is_readable_term : Bool → Term → Bool
is_readable_term leads t = is_readable_factor leads t.first && is_readable_second t.second

abbrev pub is_readable_rest : Option (Sign × Term) → Bool
is_readable_rest None = true
is_readable_rest (Some r) = is_readable_term false r.1

abbrev pub is_readable_bound : Bound → Bool
is_readable_bound b = is_readable_term true b.first && is_readable_rest b.rest

abbrev pub is_readable_lower : Option Bound → Bool
is_readable_lower None = true
is_readable_lower (Some b) = is_readable_bound b

abbrev pub is_readable_dim : Dim → Bool
is_readable_dim d = is_readable_lower d.lower && is_readable_bound d.upper

-- numbers of the index kind have four bytes, data has one, two or eight
abbrev pub is_size_of : Kind → ℕ → Bool
is_size_of kind.Index bytes = bytes == 4
is_size_of kind.Ring bytes = (bytes == 1) || ((bytes == 2) || (bytes == 8))

abbrev pub is_readable_decl : Decl → Bool
is_readable_decl d = is_variable d.name && (is_size_of d.kind d.bytes && list_all is_readable_dim d.dims)

-- ---- programs

-- each is one more than the one before it
abbrev pub counts_up_from : ℕ → List ℕ → Bool
counts_up_from n [] = true
counts_up_from n (m ∷ ms) = (m == n) && counts_up_from (suc n) ms

-- The program is one that some text reads as. The unit's name may be any word.
pub record IsReadable (p : Program) : Type 0 where
  pub name : is_name p.name ≡ true
  pub args : list_all is_variable p.args ≡ true
  pub decls : list_all is_readable_decl p.decls ≡ true
  pub body : are_readable_statements (stmt_trees p.body) ≡ true
  pub few_names : length p.decls ≤ 512
  pub few_statements : count_all (stmt_trees p.body) ≤ 4096
  pub shallow : deepest_in_all (stmt_trees p.body) ≤ 64
  pub shallow_blocks : block_depth_of_all (stmt_trees p.body) ≤ 64
  pub numbered : counts_up_from 1 (loop_numbers_of_all (stmt_trees p.body)) ≡ true
  -- each node has a token of its own, and a text has fewer bytes
  pub few_nodes : nodes_of_all (stmt_trees p.body) < 2 ^ 32
