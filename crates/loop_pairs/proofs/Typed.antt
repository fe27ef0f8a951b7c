-- Each access of a typed program has as many subscripts as its name has dimensions.
use Rattle.std.proofs.Common.{◌≡◌, ℕ, ◌+◌, Bool, true, false, ◌&&◌, if◌then◌else◌, List, [], ◌∷◌, ◌++◌, Option, Some, None, refl}
use Rattle.std.specs.List.{list_all, AllByRecursion}
use Rattle.fl_ast.specs.declared.kind.BinOp.TheVariants as op
use Rattle.fl_ast.specs.declared.directive.Directive.{Directive}
use Rattle.fl_ast.specs.Tree.{Expression, literal, get, minus, binary, power, call, Expressions, no_expressions, expression, Designator, Condition, relation, negation, conjunction, disjunction, Statement, assignment, branch, loop, Statements, no_statements, statement, Arms, no_arms, arm}
use Rattle.fl_ast.specs.Same.{same_expression}
use Rattle.fl_types.specs.declared.access.AccessKind.{AccessKind}
use Rattle.fl_types.specs.declared.access.AccessKind.TheVariants.{Read, Write}
use Rattle.fl_types.specs.declared.access.PathStep.{PathStep}
use Rattle.fl_types.specs.declared.access.PathStep.TheVariants as step
use Rattle.fl_types.specs.Increment.{Signed, target_of, chain, longer, first_of_sum, are_free_of, if_free, either, rest_terms, increment_terms}
use Rattle.fl_types.specs.Kinds.{Names, expression_count, kind_of_name, kind_of_expression, kinds_of_expressions, is_index_kind, takes_operands, takes_arguments, takes_value, is_well_kinded, are_well_kinded, is_well_kinded_condition, is_index_expression, is_index_step, is_index_scalar, has_scalar_privates, is_well_kinded_head, is_well_kinded_statement, are_well_kinded_statements, are_well_kinded_arms}
use Rattle.fl_types.specs.Nests.{is_nest, inner_body, iteration_body}
use Rattle.fl_types.specs.Accesses.{Scope, Occurrence, access, reads, reads_all, condition_reads, step_reads, term_reads, increment_kind, assignment_accesses, statement_count, statements_count, test_path, accesses, accesses_all, arms_accesses}
use Rattle.index_forms.specs.Loops.{HeadedLoop, inside}
use Rattle.loop_scenes.specs.Loops.{loops_by, loops_by_all, loops_by_arms}
use Rattle.loop_pairs.proofs.Ranks.{rank_of}

pub left_of : (a b : Bool) → (a && b) ≡ true → a ≡ true
left_of true b h = refl
left_of false b h = cc

pub right_of : (a b : Bool) → (a && b) ≡ true → b ≡ true
right_of true b h = h
right_of false b h = cc

pub all_both : {A : Type 0} (P : A → Type 0) (xs ys : List A) → AllByRecursion P xs → AllByRecursion P ys → AllByRecursion P (xs ++ ys)
all_both P [] ys p q = q
all_both P (x ∷ xs) ys p q = (p.0, all_both P xs ys p.1 q)

module _ (names : Names) where
  abbrev pub IsRanked : Occurrence → Type 0
  IsRanked o = names.has_rank o.place.name (rank_of o) ≡ true

  abbrev All : List Occurrence → Type 0
  All os = AllByRecursion IsRanked os

  two : (os ps : List Occurrence) → All os → All ps → All (os ++ ps)
  two os ps p q = all_both IsRanked os ps p q

  at_place : (c : Scope) (line : ℕ) (path : List PathStep) (k : AccessKind) (p : Designator) → names.has_rank p.name (expression_count p.subscripts) ≡ true → All (access c line path k p)
  at_place c line path k p h = by_test (c.accessed p.name)
    where
      by_test : (b : Bool) → All (if b then record { line = line; place = p; path = path; kind = k } ∷ [] else [])
      by_test true = (h, tt)
      by_test false = tt

  mutual
    of_expression : (c : Scope) (line : ℕ) (path : List PathStep) (e : Expression) → is_well_kinded names e ≡ true → All (reads c line path e)
    of_expression c line path (literal n k) h = tt
    of_expression c line path (get x s) h =
        let r = right_of (names.has_rank x (expression_count s)) (are_well_kinded names s && list_all is_index_kind (kinds_of_expressions names s)) h in
        two (reads_all c line path s) (access c line path Read (record { name = x; subscripts = s }))
        (of_expressions c line path s (left_of (are_well_kinded names s) (list_all is_index_kind (kinds_of_expressions names s)) r))
        (at_place c line path Read (record { name = x; subscripts = s }) (left_of (names.has_rank x (expression_count s)) (are_well_kinded names s && list_all is_index_kind (kinds_of_expressions names s)) h))
    of_expression c line path (minus e) h = of_expression c line path e h
    of_expression c line path (binary o d e) h =
        let r = right_of (takes_operands o (kind_of_expression names d) (kind_of_expression names e)) (is_well_kinded names d && is_well_kinded names e) h in
        two (reads c line path d) (reads c line path e) (of_expression c line path d (left_of (is_well_kinded names d) (is_well_kinded names e) r)) (of_expression c line path e (right_of (is_well_kinded names d) (is_well_kinded names e) r))
    of_expression c line path (power e n) h = of_expression c line path e h
    of_expression c line path (call f s) h = of_expressions c line path s (right_of (takes_arguments f (kinds_of_expressions names s)) (are_well_kinded names s) h)

    of_expressions : (c : Scope) (line : ℕ) (path : List PathStep) (s : Expressions) → are_well_kinded names s ≡ true → All (reads_all c line path s)
    of_expressions c line path no_expressions h = tt
    of_expressions c line path (expression e s) h =
        two (reads c line path e) (reads_all c line path s) (of_expression c line path e (left_of (is_well_kinded names e) (are_well_kinded names s) h)) (of_expressions c line path s (right_of (is_well_kinded names e) (are_well_kinded names s) h))

  of_condition : (c : Scope) (line : ℕ) (path : List PathStep) (t : Condition) → is_well_kinded_condition names t ≡ true → All (condition_reads c line path t)
  of_condition c line path (relation o d e) h =
      two (reads c line path d) (reads c line path e) (of_expression c line path d (left_of (is_well_kinded names d) (is_well_kinded names e) h)) (of_expression c line path e (right_of (is_well_kinded names d) (is_well_kinded names e) h))
  of_condition c line path (negation t) h = of_condition c line path t h
  of_condition c line path (conjunction t u) h =
      two (condition_reads c line path t) (condition_reads c line path u) (of_condition c line path t (left_of (is_well_kinded_condition names t) (is_well_kinded_condition names u) h)) (of_condition c line path u (right_of (is_well_kinded_condition names t) (is_well_kinded_condition names u) h))
  of_condition c line path (disjunction t u) h =
      two (condition_reads c line path t) (condition_reads c line path u) (of_condition c line path t (left_of (is_well_kinded_condition names t) (is_well_kinded_condition names u) h)) (of_condition c line path u (right_of (is_well_kinded_condition names t) (is_well_kinded_condition names u) h))

  -- ---- the terms of increments

  abbrev IsTerm : Signed → Type 0
  IsTerm r = is_well_kinded names r.1 ≡ true

  abbrev AreTerms : Option (List Signed) → Type 0
  AreTerms None = Unit {0}
  AreTerms (Some rs) = AllByRecursion IsTerm rs

  longer_terms : (o : Option (List Signed)) (s : Bool) (e : Expression) → AreTerms o → is_well_kinded names e ≡ true → AreTerms (longer o (s, e))
  longer_terms None s e w h = tt
  longer_terms (Some rs) s e w h = all_both IsTerm rs ((s, e) ∷ []) w (h, tt)

  chain_by : (b : Bool) (o : Option (List Signed)) (s : Bool) (e : Expression) → AreTerms o → is_well_kinded names e ≡ true → AreTerms (if b then Some ((s, e) ∷ []) else longer o (s, e))
  chain_by true o s e w h = (h, tt)
  chain_by false o s e w h = longer_terms o s e w h

  chain_terms : (t e : Expression) → is_well_kinded names e ≡ true → AreTerms (chain t e)
  chain_terms t (literal n k) h = tt
  chain_terms t (get x s) h = tt
  chain_terms t (minus e) h = tt
  chain_terms t (binary op.Add d e) h = chain_by (same_expression t d) (chain t d) false e (chain_terms t d (left_of (is_well_kinded names d) (is_well_kinded names e) h)) (right_of (is_well_kinded names d) (is_well_kinded names e) h)
  chain_terms t (binary op.Sub d e) h = chain_by (same_expression t d) (chain t d) true e (chain_terms t d (left_of (is_well_kinded names d) (is_well_kinded names e) h)) (right_of (is_well_kinded names d) (is_well_kinded names e) h)
  chain_terms t (binary op.Mul d e) h = tt
  chain_terms t (binary op.Div d e) h = tt
  chain_terms t (power e n) h = tt
  chain_terms t (call f s) h = tt

  sum_by : (b : Bool) (r : Expression) → is_well_kinded names r ≡ true → AreTerms (if b then Some ((false, r) ∷ []) else None)
  sum_by true r h = (h, tt)
  sum_by false r h = tt

  sum_terms : (t e : Expression) → is_well_kinded names e ≡ true → AreTerms (first_of_sum t e)
  sum_terms t (literal n k) h = tt
  sum_terms t (get x s) h = tt
  sum_terms t (minus e) h = tt
  sum_terms t (binary op.Add d e) h = sum_by (same_expression t e) d (left_of (is_well_kinded names d) (is_well_kinded names e) h)
  sum_terms t (binary op.Sub d e) h = tt
  sum_terms t (binary op.Mul d e) h = tt
  sum_terms t (binary op.Div d e) h = tt
  sum_terms t (power e n) h = tt
  sum_terms t (call f s) h = tt

  free_terms : (x : List ℕ) (o : Option (List Signed)) → AreTerms o → AreTerms (if_free x o)
  free_terms x None w = tt
  free_terms x (Some rs) w = by_test (are_free_of x rs)
    where
      by_test : (b : Bool) → AreTerms (if b then Some rs else None)
      by_test true = w
      by_test false = tt

  either_terms : (o p : Option (List Signed)) → AreTerms o → AreTerms p → AreTerms (either o p)
  either_terms None p w v = v
  either_terms (Some rs) p w v = w

  terms_of : (ring : List ℕ → Bool) (p : Designator) (e : Expression) → is_well_kinded names e ≡ true → AreTerms (increment_terms ring p e)
  terms_of ring p e h = by_test (ring p.name)
    where
      by_test : (b : Bool) → AreTerms (if b then rest_terms p e else None)
      by_test true = either_terms (if_free p.name (chain (target_of p) e)) (if_free p.name (first_of_sum (target_of p) e)) (free_terms p.name (chain (target_of p) e) (chain_terms (target_of p) e h)) (free_terms p.name (first_of_sum (target_of p) e) (sum_terms (target_of p) e h))
      by_test false = tt

  of_terms : (c : Scope) (line : ℕ) (path : List PathStep) (rs : List Signed) → AllByRecursion IsTerm rs → All (term_reads c line path rs)
  of_terms c line path [] w = tt
  of_terms c line path (r ∷ rs) w = two (reads c line path r.1) (term_reads c line path rs) (of_expression c line path r.1 w.0) (of_terms c line path rs w.1)

  -- ---- statements

  of_target : (c : Scope) (line : ℕ) (path : List PathStep) (k : AccessKind) (p : Designator) → is_well_kinded names (target_of p) ≡ true → All (reads_all c line path p.subscripts ++ access c line path k p)
  of_target c line path k p h =
      let r = right_of (names.has_rank p.name (expression_count p.subscripts)) (are_well_kinded names p.subscripts && list_all is_index_kind (kinds_of_expressions names p.subscripts)) h in
      two (reads_all c line path p.subscripts) (access c line path k p)
      (of_expressions c line path p.subscripts (left_of (are_well_kinded names p.subscripts) (list_all is_index_kind (kinds_of_expressions names p.subscripts)) r))
      (at_place c line path k p (left_of (names.has_rank p.name (expression_count p.subscripts)) (are_well_kinded names p.subscripts && list_all is_index_kind (kinds_of_expressions names p.subscripts)) h))

  by_terms : (c : Scope) (line : ℕ) (path : List PathStep) (atomic : Bool) (p : Designator) (e : Expression) (o : Option (List Signed)) → is_well_kinded names (target_of p) ≡ true → is_well_kinded names e ≡ true → AreTerms o →
      All (assignment_accesses c line path atomic p e o)
  by_terms c line path atomic p e None g h w = two (reads c line path e) (reads_all c line path p.subscripts ++ access c line path Write p) (of_expression c line path e h) (of_target c line path Write p g)
  by_terms c line path atomic p e (Some rs) g h w =
      two (term_reads c line path rs) (reads_all c line path p.subscripts ++ access c line path (increment_kind atomic (c.pluses p.name)) p) (of_terms c line path rs w) (of_target c line path (increment_kind atomic (c.pluses p.name)) p g)

  of_index : (c : Scope) (line : ℕ) (path : List PathStep) (e : Expression) → is_index_expression names e ≡ true → All (reads c line path e)
  of_index c line path e h = of_expression c line path e (right_of (is_index_kind (kind_of_expression names e)) (is_well_kinded names e) h)

  of_step : (c : Scope) (line : ℕ) (path : List PathStep) (s : Option Expression) → is_index_step names s ≡ true → All (step_reads c line path s)
  of_step c line path None h = tt
  of_step c line path (Some e) h = of_index c line path e h

  mutual
    of_statement : (c : Scope) (n : ℕ) (path : List PathStep) (s : Statement) → is_well_kinded_statement names s ≡ true → All (accesses c n path s)
    of_statement c n path (assignment line atomic p e) h =
        let r = right_of (takes_value (kind_of_name names p.name) (kind_of_expression names e)) (is_well_kinded names (target_of p) && is_well_kinded names e) h in
        let w = right_of (is_well_kinded names (target_of p)) (is_well_kinded names e) r in
        by_terms c line path atomic p e (increment_terms c.ring p e) (left_of (is_well_kinded names (target_of p)) (is_well_kinded names e) r) w (terms_of c.ring p e w)
    of_statement c n path (branch line arms other) h =
        of_arms c line n (n + 1) 0 path arms (λ k q. accesses_all c k q other) (λ k q. of_statements c k q other (right_of (are_well_kinded_arms names arms) (are_well_kinded_statements names other) h))
        (left_of (are_well_kinded_arms names arms) (are_well_kinded_statements names other) h)
    of_statement c n path (loop line number directive var first last s body) h =
        let head = left_of (is_well_kinded_head names var first last s) (has_scalar_privates names directive && are_well_kinded_statements names body) h in
        let behind = right_of (is_well_kinded_head names var first last s) (has_scalar_privates names directive && are_well_kinded_statements names body) h in
        let all = right_of (is_index_scalar names var) (is_index_expression names first && (is_index_expression names last && is_index_step names s)) head in
        let more = right_of (is_index_expression names first) (is_index_expression names last && is_index_step names s) all in
        two (reads c line path first) (reads c line path last ++ (step_reads c line path s ++ accesses_all c (n + 1) (path ++ step.Body n ∷ []) body))
        (of_index c line path first (left_of (is_index_expression names first) (is_index_expression names last && is_index_step names s) all))
        (two (reads c line path last) (step_reads c line path s ++ accesses_all c (n + 1) (path ++ step.Body n ∷ []) body) (of_index c line path last (left_of (is_index_expression names last) (is_index_step names s) more))
        (two (step_reads c line path s) (accesses_all c (n + 1) (path ++ step.Body n ∷ []) body) (of_step c line path s (right_of (is_index_expression names last) (is_index_step names s) more))
        (of_statements c (n + 1) (path ++ step.Body n ∷ []) body (right_of (has_scalar_privates names directive) (are_well_kinded_statements names body) behind))))

    pub of_statements : (c : Scope) (n : ℕ) (path : List PathStep) (ss : Statements) → are_well_kinded_statements names ss ≡ true → All (accesses_all c n path ss)
    of_statements c n path no_statements h = tt
    of_statements c n path (statement s ss) h =
        two (accesses c n path s) (accesses_all c (n + statement_count s) path ss) (of_statement c n path s (left_of (is_well_kinded_statement names s) (are_well_kinded_statements names ss) h))
        (of_statements c (n + statement_count s) path ss (right_of (is_well_kinded_statement names s) (are_well_kinded_statements names ss) h))

    of_arms : (c : Scope) (line n k m : ℕ) (path : List PathStep) (arms : Arms) (other : ℕ → List PathStep → List Occurrence) → ((j : ℕ) (q : List PathStep) → All (other j q)) → are_well_kinded_arms names arms ≡ true →
        All (arms_accesses c line n k m path arms other)
    of_arms c line n k m path no_arms other w h = w k (path ++ step.Arm n m ∷ [])
    of_arms c line n k m path (arm test body arms) other w h =
        let r = right_of (is_well_kinded_condition names test) (are_well_kinded_statements names body && are_well_kinded_arms names arms) h in
        two (condition_reads c line (test_path path n m) test) (accesses_all c k (path ++ step.Arm n m ∷ []) body ++ arms_accesses c line n (k + statements_count body) (m + 1) path arms other)
        (of_condition c line (test_path path n m) test (left_of (is_well_kinded_condition names test) (are_well_kinded_statements names body && are_well_kinded_arms names arms) h))
        (two (accesses_all c k (path ++ step.Arm n m ∷ []) body) (arms_accesses c line n (k + statements_count body) (m + 1) path arms other)
        (of_statements c k (path ++ step.Arm n m ∷ []) body (left_of (are_well_kinded_statements names body) (are_well_kinded_arms names arms) r))
        (of_arms c line n (k + statements_count body) (m + 1) path arms other w (right_of (are_well_kinded_statements names body) (are_well_kinded_arms names arms) r)))

  -- ---- loops

  abbrev pub IsWell : Option HeadedLoop → Type 0
  IsWell None = Unit {0}
  IsWell (Some l) = are_well_kinded_statements names (inside l) ≡ true

  inner_well : (body : Statements) → are_well_kinded_statements names body ≡ true → are_well_kinded_statements names (inner_body body) ≡ true
  inner_well no_statements h = refl
  inner_well (statement s ss) h = of_first s (left_of (is_well_kinded_statement names s) (are_well_kinded_statements names ss) h)
    where
      of_first : (t : Statement) → is_well_kinded_statement names t ≡ true → are_well_kinded_statements names (inner_body (statement t ss)) ≡ true
      of_first (assignment line atomic p e) g = refl
      of_first (branch line arms other) g = refl
      of_first (loop line number directive var first last s body) g =
          right_of (has_scalar_privates names directive) (are_well_kinded_statements names body) (right_of (is_well_kinded_head names var first last s) (has_scalar_privates names directive && are_well_kinded_statements names body) g)

  iteration_well : (directive : Directive) (body : Statements) → are_well_kinded_statements names body ≡ true → are_well_kinded_statements names (iteration_body directive body) ≡ true
  iteration_well directive body h = by_test (is_nest directive body) (inner_well body h)
    where
      by_test : (b : Bool) → are_well_kinded_statements names (inner_body body) ≡ true → are_well_kinded_statements names (if b then inner_body body else body) ≡ true
      by_test true g = g
      by_test false g = h

  loop_body : (var : List ℕ) (first last : Expression) (s : Option Expression) (directive : Option Directive) (body : Statements) →
      (is_well_kinded_head names var first last s && (has_scalar_privates names directive && are_well_kinded_statements names body)) ≡ true → are_well_kinded_statements names body ≡ true
  loop_body var first last s directive body h =
      right_of (has_scalar_privates names directive) (are_well_kinded_statements names body) (right_of (is_well_kinded_head names var first last s) (has_scalar_privates names directive && are_well_kinded_statements names body) h)

  mutual
    well_by : (outer : List (List ℕ)) (s : Statement) → is_well_kinded_statement names s ≡ true → AllByRecursion IsWell (loops_by outer s)
    well_by outer (assignment line atomic p e) h = tt
    well_by outer (branch line arms other) h =
        all_both IsWell (loops_by_arms outer arms) (loops_by_all outer other) (well_by_arms outer arms (left_of (are_well_kinded_arms names arms) (are_well_kinded_statements names other) h)) (well_by_all outer other (right_of (are_well_kinded_arms names arms) (are_well_kinded_statements names other) h))
    well_by outer (loop line number None var first last s body) h = (tt, well_by_all (var ∷ outer) body (loop_body var first last s None body h))
    well_by outer (loop line number (Some d) var first last s body) h = (iteration_well d body (loop_body var first last s (Some d) body h), well_by_all (var ∷ outer) body (loop_body var first last s (Some d) body h))

    pub well_by_all : (outer : List (List ℕ)) (ss : Statements) → are_well_kinded_statements names ss ≡ true → AllByRecursion IsWell (loops_by_all outer ss)
    well_by_all outer no_statements h = tt
    well_by_all outer (statement s ss) h =
        all_both IsWell (loops_by outer s) (loops_by_all outer ss) (well_by outer s (left_of (is_well_kinded_statement names s) (are_well_kinded_statements names ss) h)) (well_by_all outer ss (right_of (is_well_kinded_statement names s) (are_well_kinded_statements names ss) h))

    well_by_arms : (outer : List (List ℕ)) (arms : Arms) → are_well_kinded_arms names arms ≡ true → AllByRecursion IsWell (loops_by_arms outer arms)
    well_by_arms outer no_arms h = tt
    well_by_arms outer (arm test body arms) h =
        let r = right_of (is_well_kinded_condition names test) (are_well_kinded_statements names body && are_well_kinded_arms names arms) h in
        all_both IsWell (loops_by_all outer body) (loops_by_arms outer arms) (well_by_all outer body (left_of (are_well_kinded_statements names body) (are_well_kinded_arms names arms) r)) (well_by_arms outer arms (right_of (are_well_kinded_statements names body) (are_well_kinded_arms names arms) r))
