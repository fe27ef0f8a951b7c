-- The needed names: those whose values the reverse part reads. They are the least set of declared names such that
--   each name in a factor of an increment that the reverse part makes is needed,
--   for a statement with an active target, each name in a subscript of the target or of an occurrence of an active name is needed,
--   for an assignment whose target is needed, each name in a subscript of the target is needed,
--   for an increment whose target is needed, each name in its rest terms is needed.
-- The first two rules give names from which the others lead on.
use Rattle.std.specs.Prelude.{◌≡◌, ◌↔◌, ℕ, Bool, true, if◌then◌else◌, List, [], ◌∷◌, ◌++◌, flat_map, map, Option, Some, None}
use Rattle.fl_ast.specs.declared.stmt.Program.{Program}
use Rattle.fl_ast.specs.Tree.{Expression, literal, get, minus, binary, power, call, Expressions, no_expressions, expression, Designator, Condition, relation, negation, conjunction, disjunction, Statement, assignment, branch, loop, Statements, no_statements, statement, Arms, no_arms, arm, stmt_trees}
use Rattle.fl_types.specs.Increment.{Signed, increment_terms}
use Rattle.fl_types.specs.Sharing.{is_ring_name}
use Rattle.reachability.specs.Reached.{Edge}
use Rattle.reachability.specs.Named.{IsReachedName}
use Rattle.adjoint_rules.specs.Occurrences.{Factor, operand, either, Occurrence, assignment_occurrences}

-- the names in trees, subscripts too
abbrev mutual
  pub names_in : Expression → List (List ℕ)
  names_in (literal n k) = []
  names_in (get x s) = x ∷ names_in_all s
  names_in (minus a) = names_in a
  names_in (binary o a b) = names_in a ++ names_in b
  names_in (power a n) = names_in a
  names_in (call f s) = names_in_all s

  pub names_in_all : Expressions → List (List ℕ)
  names_in_all no_expressions = []
  names_in_all (expression a s) = names_in a ++ names_in_all s

abbrev pub names_in_condition : Condition → List (List ℕ)
names_in_condition (relation o a b) = names_in a ++ names_in b
names_in_condition (negation a) = names_in_condition a
names_in_condition (conjunction a b) = names_in_condition a ++ names_in_condition b
names_in_condition (disjunction a b) = names_in_condition a ++ names_in_condition b

abbrev pub names_in_factor : Factor → List (List ℕ)
names_in_factor (operand e) = names_in e
names_in_factor (either n m t) = names_in_condition t

abbrev pub names_in_terms : List Signed → List (List ℕ)
names_in_terms [] = []
names_in_terms (r ∷ rs) = names_in r.1 ++ names_in_terms rs

-- what an increment reads
abbrev pub names_in_occurrence : Occurrence → List (List ℕ)
names_in_occurrence o = flat_map names_in_factor o.factors ++ names_in_all o.place.subscripts

-- which names are active, and which are of the ring kind
pub record Kinds : Type 0 where
  pub active : List ℕ → Bool
  pub ring : List ℕ → Bool

-- ---- from where

abbrev pub read_by_assignment : Kinds → Designator → Expression → List (List ℕ)
read_by_assignment k p e =
    if k.active p.name
    then names_in_all p.subscripts ++ flat_map names_in_occurrence (assignment_occurrences k.active e (increment_terms k.ring p e))
    else []

-- the names of the first two rules
abbrev mutual
  pub read_by : Kinds → Statement → List (List ℕ)
  read_by k (assignment line atomic p e) = read_by_assignment k p e
  read_by k (branch line arms other) = read_by_arms k arms ++ read_by_all k other
  read_by k (loop line number directive var first last step body) = read_by_all k body

  pub read_by_all : Kinds → Statements → List (List ℕ)
  read_by_all k no_statements = []
  read_by_all k (statement s ss) = read_by k s ++ read_by_all k ss

  pub read_by_arms : Kinds → Arms → List (List ℕ)
  read_by_arms k no_arms = []
  read_by_arms k (arm test body arms) = read_by_all k body ++ read_by_arms k arms

-- ---- whereto

abbrev pub rest_names : Option (List Signed) → List (List ℕ)
rest_names None = []
rest_names (Some rs) = names_in_terms rs

-- what restoring a target reads
abbrev pub read_for : Kinds → Designator → Expression → List (List ℕ)
read_for k p e = names_in_all p.subscripts ++ rest_names (increment_terms k.ring p e)

abbrev pub edge_from : List ℕ → List ℕ → Edge (List ℕ)
edge_from x y = record { tail = x; head = y }

-- the edges of the last two rules, from a target to what restoring it reads
abbrev mutual
  pub restorings : Kinds → Statement → List (Edge (List ℕ))
  restorings k (assignment line atomic p e) = map (edge_from p.name) (read_for k p e)
  restorings k (branch line arms other) = restorings_in_arms k arms ++ restorings_in k other
  restorings k (loop line number directive var first last step body) = restorings_in k body

  pub restorings_in : Kinds → Statements → List (Edge (List ℕ))
  restorings_in k no_statements = []
  restorings_in k (statement s ss) = restorings k s ++ restorings_in k ss

  pub restorings_in_arms : Kinds → Arms → List (Edge (List ℕ))
  restorings_in_arms k no_arms = []
  restorings_in_arms k (arm test body arms) = restorings_in k body ++ restorings_in_arms k arms

-- ---- of a program

abbrev pub kinds_of : Program → (List ℕ → Bool) → Kinds
kinds_of p active = record { active = active; ring = is_ring_name p.decls }

-- reached from the names of the first two rules over the edges of the last two
abbrev pub IsNeeded : Program → (List ℕ → Bool) → List ℕ → Type 0
IsNeeded p active =
    IsReachedName p.decls (read_by_all (kinds_of p active) (stmt_trees p.body)) (restorings_in (kinds_of p active) (stmt_trees p.body))

-- a set that has exactly the needed names
abbrev pub AreNeeded : Program → (List ℕ → Bool) → (List ℕ → Bool) → Type 0
AreNeeded p active needed = (x : List ℕ) → (needed x ≡ true) ↔ IsNeeded p active x
