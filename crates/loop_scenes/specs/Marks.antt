-- The same as the code goes over it: a mark for each access. `walked_is` says that it is the same.
use Rattle.std.specs.Prelude.{◌≡◌, ℕ, Bool, false, if◌then◌else◌, List, [], ◌∷◌, ◌++◌, Option, Some, None}
use Rattle.fl_ast.specs.Tree.{Expression, literal, get, minus, binary, power, call, Expressions, no_expressions, expression, Designator, Condition, relation, negation, conjunction, disjunction, Statement, assignment, branch, loop, Statements, no_statements, statement, Arms, no_arms, arm}
use Rattle.fl_types.specs.Increment.{Signed, increment_terms}
use Rattle.fl_types.specs.Accesses.{Scope}

abbrev pub mark : Scope → Bool → List ℕ → List Bool
mark c b x = if c.accessed x then b ∷ [] else []

abbrev mutual
  pub marks : Scope → Bool → Expression → List Bool
  marks c b (literal n k) = []
  marks c b (get x s) = marks_all c b s ++ mark c b x
  marks c b (minus e) = marks c b e
  marks c b (binary o d e) = marks c b d ++ marks c b e
  marks c b (power e n) = marks c b e
  marks c b (call f s) = marks_all c b s

  pub marks_all : Scope → Bool → Expressions → List Bool
  marks_all c b no_expressions = []
  marks_all c b (expression e s) = marks c b e ++ marks_all c b s

abbrev pub condition_marks : Scope → Condition → List Bool
condition_marks c (relation o d e) = marks c false d ++ marks c false e
condition_marks c (negation t) = condition_marks c t
condition_marks c (conjunction t u) = condition_marks c t ++ condition_marks c u
condition_marks c (disjunction t u) = condition_marks c t ++ condition_marks c u

abbrev pub step_marks : Scope → Option Expression → List Bool
step_marks c None = []
step_marks c (Some e) = marks c false e

abbrev pub bounds_marks : Scope → Expression → Expression → Option Expression → List Bool
bounds_marks c first last step = marks c false first ++ (marks c false last ++ step_marks c step)

abbrev pub term_marks : Scope → Bool → List Signed → List Bool
term_marks c b [] = []
term_marks c b (r ∷ rs) = marks c b r.1 ++ term_marks c b rs

abbrev pub value_marks : Scope → Bool → Expression → Option (List Signed) → List Bool
value_marks c b e None = marks c b e
value_marks c b e (Some rs) = term_marks c b rs

-- where there are terms, they were marked
abbrev pub WithTerms : Scope → Bool → Option (List Signed) → (old new : List Bool) → Type 0
WithTerms c b None old new = Unit {0}
WithTerms c b (Some rs) old new = new ≡ old ++ term_marks c b rs

abbrev pub assignment_marks : Scope → (active : List ℕ → Bool) → Designator → Expression → List Bool
assignment_marks c active p e = value_marks c (active p.name) e (increment_terms c.ring p e) ++ (marks_all c false p.subscripts ++ mark c false p.name)

abbrev mutual
  pub walked : Scope → (active : List ℕ → Bool) → Statement → List Bool
  walked c active (assignment line atomic p e) = assignment_marks c active p e
  walked c active (branch line arms other) = walked_in_arms c active arms ++ walked_in c active other
  walked c active (loop line number directive var first last step body) = bounds_marks c first last step ++ walked_in c active body

  pub walked_in : Scope → (active : List ℕ → Bool) → Statements → List Bool
  walked_in c active no_statements = []
  walked_in c active (statement s ss) = walked c active s ++ walked_in c active ss

  pub walked_in_arms : Scope → (active : List ℕ → Bool) → Arms → List Bool
  walked_in_arms c active no_arms = []
  walked_in_arms c active (arm test body arms) = (condition_marks c test ++ walked_in c active body) ++ walked_in_arms c active arms
