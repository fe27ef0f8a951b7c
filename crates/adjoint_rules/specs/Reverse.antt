-- The reverse part: the statements from the last to the first. It restores the needed values, and spreads the adjoint of each target over
-- the operands that the target was computed from.
use Rattle.std.specs.Prelude.{ℕ, ◌+◌, Bool, true, false, ◌||◌, if◌then◌else◌, List, [], ◌∷◌, ◌++◌, filter, map, reverse, Option, Some, None}
use Rattle.fl_ast.specs.declared.kind.Kind.TheVariants as kind
use Rattle.fl_ast.specs.declared.kind.BinOp.{BinOp}
use Rattle.fl_ast.specs.declared.kind.BinOp.TheVariants as op
use Rattle.fl_ast.specs.declared.kind.RelOp.TheVariants as rel
use Rattle.fl_ast.specs.declared.directive.Directive.{Directive}
use Rattle.fl_ast.specs.Tree.{Expression, literal, minus, binary, Designator, Condition, relation, Statement, assignment, branch, loop, Statements, no_statements, statement, Arms, no_arms, arm}
use Rattle.fl_ast.specs.AdjointTree.{AdjointStatement, adjoint_assignment, adjoint_branch, AdjointArms, no_adjoint_arms, adjoint_arm, pop, begin_tapes, end_tapes, adjoint_statements_of}
use Rattle.fl_types.specs.Increment.{Signed, increment_terms, target_of}
use Rattle.fl_types.specs.Nests.{is_nest}
use Rattle.adjoint_rules.specs.OwnNames.{scalar, value, k_name, w_name, main_tape}
use Rattle.adjoint_rules.specs.Occurrences.{assignment_occurrences}
use Rattle.adjoint_rules.specs.Expressions.{in_adjoint, increments, taken, cleared, moved}
use Rattle.adjoint_rules.specs.Scopes.{Scope, in_loop}
use Rattle.adjoint_rules.specs.Bounds.{LoopHead, lo, by, pops, loop_over, last_value, further_loops, all_pops, loops_around, numbering}
use Rattle.adjoint_rules.specs.Clauses.{backward_clauses}
use Rattle.adjoint_rules.specs.Forward.{private_scalars, pushed_scalars}

-- ---- assignments

-- the occurrences' adjoints grow
abbrev pub spread : Scope → ℕ → Expression → Option (List Signed) → List AdjointStatement
spread scope line e rest = increments scope.atomic line (assignment_occurrences scope.active e rest)

-- the old value, where it was pushed
abbrev pub restored : Scope → ℕ → Designator → List AdjointStatement
restored scope line p = if scope.needed p.name then pop line scope.key p ∷ [] else []

-- the adjoint is moved, the old value restored, and the adjoint spread
abbrev pub backward_plain : Scope → ℕ → Designator → Expression → List AdjointStatement
backward_plain scope line p e =
    if scope.active p.name then moved line p ++ (restored scope line p ++ spread scope line e None) else restored scope line p

abbrev pub operation : Bool → BinOp
operation negative = if negative then op.Sub else op.Add

-- a chain goes on with these terms
abbrev pub chained : Expression → List Signed → Expression
chained e [] = e
chained e (r ∷ rs) = chained (binary (operation r.0) e r.1) rs

abbrev pub first_term : Signed → Expression
first_term r = if r.0 then minus r.1 else r.1

-- the rest terms, with their signs turned, after the target
abbrev pub turned_terms : List Signed → List Signed
turned_terms [] = []
turned_terms (r ∷ rs) = (if r.0 then false else true, r.1) ∷ turned_terms rs

-- an atomic update has one term (OpenMP 5.2, 15.8.4), so several are taken away as one: `x = x-(r)`
abbrev pub without_sum : Designator → List Signed → Expression
without_sum p [] = target_of p
without_sum p (r ∷ []) = chained (target_of p) (turned_terms (r ∷ []))
without_sum p (r ∷ s ∷ rs) = binary op.Sub (target_of p) (chained (first_term r) (s ∷ rs))

abbrev pub without_terms : Bool → Designator → List Signed → Expression
without_terms atomic p rs = if atomic then without_sum p rs else chained (target_of p) (turned_terms rs)

-- an increment undone, where the target's value is needed
abbrev pub ungrown : Scope → ℕ → Bool → Designator → List Signed → List AdjointStatement
ungrown scope line atomic p rs =
    let together = atomic || scope.pluses p.name in
    if scope.needed p.name then adjoint_assignment line together p (in_adjoint (without_terms together p rs)) ∷ [] else []

abbrev pub backward_increment : Scope → ℕ → Bool → Designator → Expression → List Signed → List AdjointStatement
backward_increment scope line atomic p e rs =
    ungrown scope line atomic p rs ++ (if scope.active p.name then taken line p ∷ spread scope line e (Some rs) else [])

abbrev pub backward_assignment : Scope → ℕ → Bool → Designator → Expression → Option (List Signed) → List AdjointStatement
backward_assignment scope line atomic p e None = backward_plain scope line p e
backward_assignment scope line atomic p e (Some rs) = backward_increment scope line atomic p e rs

-- ---- branches

-- the arm that was taken, by its number
abbrev pub is_arm : ℕ → Condition
is_arm m = relation rel.Eq (value w_name) (literal m kind.Index)

-- ---- loops

-- from the last turn to the first
abbrev pub backward_loop : Scope → LoopHead → List AdjointStatement → List AdjointStatement
backward_loop scope h statements = pops scope.key h ++ loop_over None h (last_value h) (lo h) (minus (by h)) statements ∷ []

abbrev pub backward_iteration : Scope → Directive → LoopHead → Statements → List AdjointStatement → List AdjointStatement
backward_iteration scope directive h body statements =
    numbering h (further_loops directive body)
    ∷ map (λ x. pop h.line (value k_name) (scalar x)) (reverse (pushed_scalars scope h.var directive body))
    ++ (map (λ x. cleared h.line (scalar x)) (filter scope.active (private_scalars scope h.var directive body)) ++ statements)

-- the iterations of a parallel loop run from the first to the last, each from its own tape
abbrev pub backward_parallel : Scope → Directive → LoopHead → Statements → List AdjointStatement → List AdjointStatement
backward_parallel scope directive h body statements =
    let hs = further_loops directive body in
    all_pops main_tape (h ∷ hs)
    ++ (begin_tapes h.line main_tape
    ∷ loops_around (Some (backward_clauses scope h.number h.var directive body)) h hs (backward_iteration scope directive h body statements)
    ∷ end_tapes h.line
    ∷ [])

-- ---- statements

abbrev mutual
  pub backward : Statement → Scope → List AdjointStatement
  backward (assignment line atomic p e) scope = backward_assignment scope line atomic p e (increment_terms scope.ring p e)
  backward (branch line arms other) scope =
      pop line scope.key (scalar w_name) ∷ adjoint_branch line (backward_arms arms 0 scope) (adjoint_statements_of (backward_all other scope)) ∷ []
  backward (loop line number None var first last step body) scope =
      backward_loop scope (record { line = line; number = number; var = var; first = first; last = last; step = step }) (backward_all body scope)
  backward (loop line number (Some directive) var first last step body) scope =
      backward_parallel scope directive (record { line = line; number = number; var = var; first = first; last = last; step = step }) body
      (if is_nest directive body then backward_inner body (in_loop scope number directive var body) else backward_all body (in_loop scope number directive var body))

  -- the last statement first
  pub backward_all : Statements → Scope → List AdjointStatement
  backward_all no_statements scope = []
  backward_all (statement s ss) scope = backward_all ss scope ++ backward s scope

  -- the statements of the loop in a body
  pub backward_inner : Statements → Scope → List AdjointStatement
  backward_inner no_statements scope = []
  backward_inner (statement s ss) scope = backward_within s scope

  pub backward_within : Statement → Scope → List AdjointStatement
  backward_within (assignment line atomic p e) scope = []
  backward_within (branch line arms other) scope = []
  backward_within (loop line number directive var first last step body) scope = backward_all body scope

  -- the arms from the m-th on
  pub backward_arms : Arms → ℕ → Scope → AdjointArms
  backward_arms no_arms m scope = no_adjoint_arms
  backward_arms (arm test body arms) m scope =
      adjoint_arm (is_arm m) (adjoint_statements_of (backward_all body scope)) (backward_arms arms (m + 1) scope)
