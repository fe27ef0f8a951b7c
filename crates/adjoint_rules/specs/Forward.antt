-- The forward part: it computes what the program computes, and pushes what the reverse part will ask for.
use Rattle.std.specs.Prelude.{ℕ, ◌+◌, Bool, false, ◌&&◌, if◌then◌else◌, List, [], ◌∷◌, ◌++◌, filter, map, Option, Some, None}
use Rattle.fl_ast.specs.declared.kind.Kind.{Kind}
use Rattle.fl_ast.specs.declared.kind.Kind.TheVariants as kind
use Rattle.fl_ast.specs.declared.directive.Directive.{Directive}
use Rattle.fl_ast.specs.Tree.{Expression, literal, Designator, Statement, assignment, branch, loop, Statements, no_statements, statement, Arms, no_arms, arm}
use Rattle.fl_ast.specs.AdjointTree.{AdjointStatement, adjoint_literal, adjoint_assignment, adjoint_branch, AdjointArms, no_adjoint_arms, adjoint_arm, push, begin_tapes, end_tapes, adjoint_statements_of}
use Rattle.fl_types.specs.Increment.{Signed, increment_terms, target_of}
use Rattle.fl_types.specs.Nests.{is_nest}
use Rattle.fl_types.specs.Sharing.{sharing_in, is_private, assigns_in}
use Rattle.adjoint_rules.specs.OwnNames.{scalar, value, k_name, main_tape}
use Rattle.adjoint_rules.specs.Expressions.{in_adjoint}
use Rattle.adjoint_rules.specs.Scopes.{Scope, in_loop}
use Rattle.adjoint_rules.specs.Bounds.{LoopHead, lo, hi, by, settings, pushes, loop_over, further_loops, total, all_settings, all_pushes, loops_around, numbering}
use Rattle.adjoint_rules.specs.Clauses.{forward_clauses}

-- ---- assignments

-- an assignment as it stands
abbrev pub kept : ℕ → Bool → Designator → Expression → AdjointStatement
kept line atomic p e = adjoint_assignment line atomic p (in_adjoint e)

-- what the target holds is pushed, where it is needed; an increment is undone without
abbrev pub forward_assignment : Scope → ℕ → Bool → Designator → Expression → Option (List Signed) → List AdjointStatement
forward_assignment scope line atomic p e None =
    (if scope.needed p.name then push line scope.key (target_of p) ∷ [] else []) ++ kept line atomic p e ∷ []
forward_assignment scope line atomic p e (Some rs) = kept line atomic p e ∷ []

-- the number of an arm, at its end
abbrev pub arm_number : Scope → ℕ → ℕ → AdjointStatement
arm_number scope line m = push line scope.key (literal m kind.Index)

abbrev pub arm_count : Arms → ℕ
arm_count no_arms = 0
arm_count (arm test body arms) = 1 + arm_count arms

-- ---- parallel loops

abbrev pub kind_in : Scope → List ℕ → Kind
kind_in scope x = if scope.ring x then kind.Ring else kind.Index

-- `x = 0`, or `x = 0_8`
abbrev pub zeroed : Scope → ℕ → List ℕ → AdjointStatement
zeroed scope line x = adjoint_assignment line false (scalar x) (adjoint_literal 0 (kind_in scope x))

abbrev pub private_scalars : Scope → List ℕ → Directive → Statements → List (List ℕ)
private_scalars scope var directive body = filter (λ x. is_private (sharing_in var directive body x)) scope.declared

-- those whose values at an iteration's end the reverse part asks for
abbrev pub pushed_scalars : Scope → List ℕ → Directive → Statements → List (List ℕ)
pushed_scalars scope var directive body = filter (λ x. assigns_in x body && scope.needed x) (private_scalars scope var directive body)

abbrev pub forward_iteration : Scope → Directive → LoopHead → Statements → List AdjointStatement → List AdjointStatement
forward_iteration scope directive h body statements =
    numbering h (further_loops directive body)
    ∷ map (zeroed scope h.line) (private_scalars scope h.var directive body)
    ++ (statements ++ map (λ x. push h.line (value k_name) (value x)) (pushed_scalars scope h.var directive body))

abbrev pub forward_parallel : Scope → Directive → LoopHead → Statements → List AdjointStatement → List AdjointStatement
forward_parallel scope directive h body statements =
    let hs = further_loops directive body in
    all_settings (h ∷ hs)
    ++ (begin_tapes h.line (total h hs)
    ∷ loops_around (Some (forward_clauses scope h.var directive body)) h hs (forward_iteration scope directive h body statements)
    ∷ end_tapes h.line
    ∷ all_pushes main_tape (h ∷ hs))

-- ---- statements

abbrev pub forward_loop : Scope → LoopHead → List AdjointStatement → List AdjointStatement
forward_loop scope h statements = settings h ++ loop_over None h (lo h) (hi h) (by h) statements ∷ pushes scope.key h

abbrev mutual
  pub forward : Statement → Scope → List AdjointStatement
  forward (assignment line atomic p e) scope = forward_assignment scope line atomic p e (increment_terms scope.ring p e)
  forward (branch line arms other) scope =
      adjoint_branch line (forward_arms arms line 0 scope) (adjoint_statements_of (forward_all other scope ++ arm_number scope line (arm_count arms) ∷ [])) ∷ []
  forward (loop line number None var first last step body) scope =
      forward_loop scope (record { line = line; number = number; var = var; first = first; last = last; step = step }) (forward_all body scope)
  forward (loop line number (Some directive) var first last step body) scope =
      forward_parallel scope directive (record { line = line; number = number; var = var; first = first; last = last; step = step }) body
      (if is_nest directive body then forward_inner body (in_loop scope number directive var body) else forward_all body (in_loop scope number directive var body))

  pub forward_all : Statements → Scope → List AdjointStatement
  forward_all no_statements scope = []
  forward_all (statement s ss) scope = forward s scope ++ forward_all ss scope

  -- the statements of the loop in a body
  pub forward_inner : Statements → Scope → List AdjointStatement
  forward_inner no_statements scope = []
  forward_inner (statement s ss) scope = forward_within s scope

  pub forward_within : Statement → Scope → List AdjointStatement
  forward_within (assignment line atomic p e) scope = []
  forward_within (branch line arms other) scope = []
  forward_within (loop line number directive var first last step body) scope = forward_all body scope

  -- the arms from the m-th on
  pub forward_arms : Arms → (line m : ℕ) → Scope → AdjointArms
  forward_arms no_arms line m scope = no_adjoint_arms
  forward_arms (arm test body arms) line m scope =
      adjoint_arm test (adjoint_statements_of (forward_all body scope ++ arm_number scope line m ∷ [])) (forward_arms arms line (m + 1) scope)
