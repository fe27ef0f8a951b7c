-- A mark for each access is what the definition says.
use Rattle.std.proofs.Common.{◌≡◌, ℕ, Bool, true, false, if◌then◌else◌, List, [], ◌∷◌, ◌++◌, Option, Some, None, refl, sym, ap, ◌∙◌, append_assoc}
use Rattle.fl_ast.specs.Tree.{Expression, literal, get, minus, binary, power, call, Expressions, no_expressions, expression, Condition, relation, negation, conjunction, disjunction, Statement, assignment, branch, loop, Statements, no_statements, statement, Arms, no_arms, arm}
use Rattle.fl_types.specs.declared.access.AccessKind.{AccessKind}
use Rattle.fl_types.specs.declared.access.AccessKind.TheVariants.{Read, Write}
use Rattle.fl_types.specs.Increment.{Signed, increment_terms}
use Rattle.fl_types.specs.Accesses.{Scope, Occurrence, access, reads, reads_all, condition_reads, step_reads, term_reads}
use Rattle.fl_ast.specs.Tree.{Designator}
use Rattle.index_forms.specs.Increments.{value_reads}
use Rattle.index_forms.specs.Walk.{bounds_reads}
use Rattle.loop_scenes.specs.Rights.{marked, rights_by, rights_in, rights_in_arms}
use Rattle.loop_scenes.specs.Marks.{mark, marks, marks_all, condition_marks, step_marks, bounds_marks, term_marks, value_marks, walked, walked_in, walked_in_arms}

pub marked_lists : (b : Bool) (os ps : List Occurrence) → marked b (os ++ ps) ≡ marked b os ++ marked b ps
marked_lists b [] ps = refl
marked_lists b (o ∷ os) ps = ap (λ (l : List Bool). b ∷ l) (marked_lists b os ps)

two : (b : Bool) (os ps : List Occurrence) (ms ns : List Bool) → ms ≡ marked b os → ns ≡ marked b ps → ms ++ ns ≡ marked b (os ++ ps)
two b os ps ms ns e d = ap (λ (l : List Bool). l ++ ns) e ∙ (ap (λ (l : List Bool). marked b os ++ l) d ∙ sym (marked_lists b os ps))

one : (c : Scope) (b : Bool) (k : AccessKind) (p : Designator) → mark c b p.name ≡ marked b (access c 0 [] k p)
one c b k p = by_test (c.accessed p.name)
  where
    by_test : (q : Bool) → (if q then b ∷ [] else []) ≡ marked b (if q then record { line = 0; place = p; path = []; kind = k } ∷ [] else [])
    by_test true = refl
    by_test false = refl

mutual
  marks_are : (c : Scope) (b : Bool) (e : Expression) → marks c b e ≡ marked b (reads c 0 [] e)
  marks_are c b (literal n k) = refl
  marks_are c b (get x s) = two b (reads_all c 0 [] s) (access c 0 [] Read (record { name = x; subscripts = s })) (marks_all c b s) (mark c b x) (all_marks_are c b s) (one c b Read (record { name = x; subscripts = s }))
  marks_are c b (minus e) = marks_are c b e
  marks_are c b (binary o d e) = two b (reads c 0 [] d) (reads c 0 [] e) (marks c b d) (marks c b e) (marks_are c b d) (marks_are c b e)
  marks_are c b (power e n) = marks_are c b e
  marks_are c b (call f s) = all_marks_are c b s

  all_marks_are : (c : Scope) (b : Bool) (s : Expressions) → marks_all c b s ≡ marked b (reads_all c 0 [] s)
  all_marks_are c b no_expressions = refl
  all_marks_are c b (expression e s) = two b (reads c 0 [] e) (reads_all c 0 [] s) (marks c b e) (marks_all c b s) (marks_are c b e) (all_marks_are c b s)

conditions_are : (c : Scope) (t : Condition) → condition_marks c t ≡ marked false (condition_reads c 0 [] t)
conditions_are c (relation o d e) = two false (reads c 0 [] d) (reads c 0 [] e) (marks c false d) (marks c false e) (marks_are c false d) (marks_are c false e)
conditions_are c (negation t) = conditions_are c t
conditions_are c (conjunction t u) = two false (condition_reads c 0 [] t) (condition_reads c 0 [] u) (condition_marks c t) (condition_marks c u) (conditions_are c t) (conditions_are c u)
conditions_are c (disjunction t u) = two false (condition_reads c 0 [] t) (condition_reads c 0 [] u) (condition_marks c t) (condition_marks c u) (conditions_are c t) (conditions_are c u)

step_is : (c : Scope) (s : Option Expression) → step_marks c s ≡ marked false (step_reads c 0 [] s)
step_is c None = refl
step_is c (Some e) = marks_are c false e

bounds_are : (c : Scope) (d e : Expression) (s : Option Expression) → bounds_marks c d e s ≡ marked false (bounds_reads c d e s)
bounds_are c d e s =
    two false (reads c 0 [] d) (reads c 0 [] e ++ step_reads c 0 [] s) (marks c false d) (marks c false e ++ step_marks c s) (marks_are c false d)
    (two false (reads c 0 [] e) (step_reads c 0 [] s) (marks c false e) (step_marks c s) (marks_are c false e) (step_is c s))

terms_are : (c : Scope) (b : Bool) (rs : List Signed) → term_marks c b rs ≡ marked b (term_reads c 0 [] rs)
terms_are c b [] = refl
terms_are c b (r ∷ rs) = two b (reads c 0 [] r.1) (term_reads c 0 [] rs) (marks c b r.1) (term_marks c b rs) (marks_are c b r.1) (terms_are c b rs)

value_is : (c : Scope) (b : Bool) (e : Expression) (o : Option (List Signed)) → value_marks c b e o ≡ marked b (value_reads c e o)
value_is c b e None = marks_are c b e
value_is c b e (Some rs) = terms_are c b rs

both : (ms ns os ps : List Bool) → ms ≡ os → ns ≡ ps → ms ++ ns ≡ os ++ ps
both ms ns os ps e d = ap (λ (l : List Bool). l ++ ns) e ∙ ap (λ (l : List Bool). os ++ l) d

mutual
  walked_is : (c : Scope) (on : List ℕ → Bool) (s : Statement) → walked c on s ≡ rights_by c on s
  walked_is c on (assignment line atomic p e) =
      both (value_marks c (on p.name) e (increment_terms c.ring p e)) (marks_all c false p.subscripts ++ mark c false p.name)
      (marked (on p.name) (value_reads c e (increment_terms c.ring p e))) (marked false (reads_all c 0 [] p.subscripts ++ access c 0 [] Write p))
      (value_is c (on p.name) e (increment_terms c.ring p e))
      (two false (reads_all c 0 [] p.subscripts) (access c 0 [] Write p) (marks_all c false p.subscripts) (mark c false p.name) (all_marks_are c false p.subscripts) (one c false Write p))
  walked_is c on (branch line arms other) = both (walked_in_arms c on arms) (walked_in c on other) (rights_in_arms c on arms) (rights_in c on other) (arms_are c on arms) (walked_all_are c on other)
  walked_is c on (loop line number directive var first last step body) =
      both (bounds_marks c first last step) (walked_in c on body) (marked false (bounds_reads c first last step)) (rights_in c on body) (bounds_are c first last step) (walked_all_are c on body)

  pub walked_all_are : (c : Scope) (on : List ℕ → Bool) (ss : Statements) → walked_in c on ss ≡ rights_in c on ss
  walked_all_are c on no_statements = refl
  walked_all_are c on (statement s ss) = both (walked c on s) (walked_in c on ss) (rights_by c on s) (rights_in c on ss) (walked_is c on s) (walked_all_are c on ss)

  arms_are : (c : Scope) (on : List ℕ → Bool) (arms : Arms) → walked_in_arms c on arms ≡ rights_in_arms c on arms
  arms_are c on no_arms = refl
  arms_are c on (arm test body arms) =
      append_assoc (condition_marks c test) (walked_in c on body) (walked_in_arms c on arms)
      ∙ both (condition_marks c test) (walked_in c on body ++ walked_in_arms c on arms) (marked false (condition_reads c 0 [] test)) (rights_in c on body ++ rights_in_arms c on arms) (conditions_are c test)
      (both (walked_in c on body) (walked_in_arms c on arms) (rights_in c on body) (rights_in_arms c on arms) (walked_all_are c on body) (arms_are c on arms))

-- from an empty list
pub rights_are : (c : Scope) (on : List ℕ → Bool) (ss : Statements) (old new : List Bool) → old ≡ [] → new ≡ old ++ walked_in c on ss → new ≡ rights_in c on ss
rights_are c on ss old new e d = d ∙ (ap (λ (l : List Bool). l ++ walked_in c on ss) e ∙ walked_all_are c on ss)
