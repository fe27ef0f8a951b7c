-- The active names: those of the ring kind that data flows to from `wrt`, and from which it flows to `of`. Data flows from each such name on
-- the right side of an assignment, subscripts aside, to the target. A name reaches itself.
use Rattle.std.specs.Prelude.{◌≡◌, ◌↔◌, ℕ, Bool, true, not, if◌then◌else◌, List, [], ◌∷◌, ◌++◌, map, find, Option, Some}
use Rattle.fl_ast.specs.declared.stmt.Program.{Program}
use Rattle.fl_ast.specs.Tree.{Expression, literal, get, minus, binary, power, call, Expressions, no_expressions, expression, Statement, assignment, branch, loop, Statements, no_statements, statement, Arms, no_arms, arm, stmt_trees}
use Rattle.fl_types.specs.Sharing.{has_name, is_ring_name}
use Rattle.fl_types.specs.Declarations.{is_ring_argument}
use Rattle.reachability.specs.declared.closing.Link.{Link}
use Rattle.reachability.specs.Reached.{Edge}
use Rattle.reachability.specs.Named.{IsReachedName}
use Rattle.activity.specs.declared.set.ActivityError.{ActivityError}
use Rattle.activity.specs.declared.set.ActivityError.TheVariants.{NotRing, Memory}

abbrev pub edge_to : List ℕ → List ℕ → Edge (List ℕ)
edge_to y x = record { tail = x; head = y }

-- `ring` tells the names of the ring kind
abbrev mutual
  -- from the names of a right side to y
  pub flows_to : (List ℕ → Bool) → List ℕ → Expression → List (Edge (List ℕ))
  flows_to ring y (literal n k) = []
  flows_to ring y (get x s) = if ring x then edge_to y x ∷ [] else []
  flows_to ring y (minus a) = flows_to ring y a
  flows_to ring y (binary o a b) = flows_to ring y a ++ flows_to ring y b
  flows_to ring y (power a n) = flows_to ring y a
  flows_to ring y (call f s) = all_flow_to ring y s

  pub all_flow_to : (List ℕ → Bool) → List ℕ → Expressions → List (Edge (List ℕ))
  all_flow_to ring y no_expressions = []
  all_flow_to ring y (expression a s) = flows_to ring y a ++ all_flow_to ring y s

abbrev mutual
  pub flows : (List ℕ → Bool) → Statement → List (Edge (List ℕ))
  flows ring (assignment line atomic p e) = if ring p.name then flows_to ring p.name e else []
  flows ring (branch line arms other) = flows_in_arms ring arms ++ flows_in ring other
  flows ring (loop line number directive var first last step body) = flows_in ring body

  pub flows_in : (List ℕ → Bool) → Statements → List (Edge (List ℕ))
  flows_in ring no_statements = []
  flows_in ring (statement s ss) = flows ring s ++ flows_in ring ss

  pub flows_in_arms : (List ℕ → Bool) → Arms → List (Edge (List ℕ))
  flows_in_arms ring no_arms = []
  flows_in_arms ring (arm test body arms) = flows_in ring body ++ flows_in_arms ring arms

abbrev pub program_flows : Program → List (Edge (List ℕ))
program_flows p = flows_in (is_ring_name p.decls) (stmt_trees p.body)

-- the same edge the other way
abbrev pub turned : Edge (List ℕ) → Edge (List ℕ)
turned e = record { tail = e.head; head = e.tail }

-- reached from a name of `wrt`, and, going back, from a name of `of`
abbrev pub IsActive : Program → (of wrt : List (List ℕ)) → List ℕ → Type 0
IsActive p of wrt x = IsReachedName p.decls wrt (program_flows p) x × IsReachedName p.decls of (map turned (program_flows p)) x

abbrev pub AreActive : Program → (of wrt : List (List ℕ)) → List (List ℕ) → Type 0
AreActive p of wrt names = (x : List ℕ) → (has_name x names ≡ true) ↔ IsActive p of wrt x

-- the first name that isn't an argument of the ring kind
abbrev pub misfit_among : Program → List (List ℕ) → Option (List ℕ)
misfit_among p names = find (λ x. not (is_ring_argument p x)) names

-- `of` before `wrt`
abbrev pub first_misfit : Program → (of wrt : List (List ℕ)) → Option (List ℕ)
first_misfit p of wrt = misfit_among p (of ++ wrt)

abbrev pub IsCause : Option (List ℕ) → ActivityError → Type 0
IsCause misfit (NotRing name) = misfit ≡ Some name
IsCause misfit Memory = Unit {0}

-- the same of the links that stand for edges
abbrev pub turned_link : Link → Link
turned_link l = record { tail = l.head; head = l.tail }
