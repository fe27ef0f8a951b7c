-- The paths of accesses and of evaluated groups, by the numbers of their steps.
use Rattle.std.proofs.Common.{◌≡◌, ℕ, zero, suc, ◌+◌, ◌≤◌, Bool, true, false, ◌⊎◌, List, [], ◌∷◌, ◌++◌, refl, ap, sym, ◌∙◌, subst, arith, append_assoc, Option, Some, None}
use mathlib.Core.Logic.{inl, inr}
use Rattle.std.specs.Prelude.{if◌then◌else◌}
use Rattle.fl_ast.specs.Tree.{Expression, literal, get, minus, binary, power, call, Expressions, no_expressions, expression, Designator, Condition, relation, negation, conjunction, disjunction, Statement, assignment, branch, loop, Statements, no_statements, statement, Arms, no_arms, arm}
use Rattle.fl_types.specs.declared.access.AccessKind.{AccessKind}
use Rattle.fl_types.specs.declared.access.AccessKind.TheVariants.{Read, Write}
use Rattle.fl_types.specs.declared.access.PathStep.{PathStep}
use Rattle.fl_types.specs.declared.access.PathStep.TheVariants.{Arm, Test, Body}
use Rattle.fl_types.specs.Increment.{Signed, increment_terms}
use Rattle.fl_types.specs.Accesses.{Scope, Occurrence, access, increment_kind, reads, reads_all, step_reads, term_reads, condition_reads, assignment_accesses, accesses, accesses_all, arms_accesses, statement_count, statements_count, test_path}
use Rattle.meaning.specs.Sites.{Cells, Site, in_turn}
use Rattle.meaning.specs.Expressions.{holds}
use Rattle.meaning.specs.Statements.{turns_of, value_at, one_turn, run, run_all}
use Rattle.meaning.specs.Touches.{scope_at}
use Rattle.meaning.specs.Reached.{cells_with}
use Rattle.meaning.specs.Groups.{Group, groups_from, groups_of, groups_of_all, groups_of_arms}
use Rattle.meaning.proofs.GroupReadings.{append_nil}
use Rattle.index_law.specs.Meetings.{In}
use Rattle.index_law.proofs.GroupKeys.{split, by_side, from_result, from_turns, from_choice}

-- ---- steps

abbrev pub number_of : PathStep → ℕ
number_of (Arm n m) = n
number_of (Test n m) = n
number_of (Body n) = n

abbrev pub arm_of : PathStep → ℕ
arm_of (Arm n m) = m
arm_of (Test n m) = m
arm_of (Body n) = 0

-- behind the path of a statement with number n, of statements from n on, and of the arms of an `if` from the m-th on
abbrev pub AtNumber : ℕ → List PathStep → Type 0
AtNumber n [] = Unit {0}
AtNumber n (t ∷ ts) = number_of t ≡ n

abbrev pub FromNumber : ℕ → List PathStep → Type 0
FromNumber n [] = Unit {0}
FromNumber n (t ∷ ts) = n ≤ number_of t

abbrev pub FromArm : (n m : ℕ) → List PathStep → Type 0
FromArm n m [] = m ≡ 0
FromArm n m (t ∷ ts) = (number_of t ≡ n) × (m ≤ arm_of t)

abbrev pub Under : (List PathStep → Type 0) → List PathStep → Occurrence → Type 0
Under P path o = (r : List PathStep) × (o.path ≡ path ++ r) × P r

joined : (path : List PathStep) (t : PathStep) (r : List PathStep) → (path ++ t ∷ []) ++ r ≡ path ++ t ∷ r
joined path t r = simp append_assoc

here : (P : List PathStep → Type 0) (path : List PathStep) (o : Occurrence) → P [] → o.path ≡ path → Under P path o
here P path o h e = ([], e ∙ sym (append_nil path), h)

deeper : (P Q : List PathStep → Type 0) (path : List PathStep) (t : PathStep) (o : Occurrence) → ((r : List PathStep) → P r → Q (t ∷ r)) → Under P (path ++ t ∷ []) o → Under Q path o
deeper P Q path t o f u = (t ∷ u.0, u.1 ∙ joined path t u.0, f u.0 u.2)

weaker : (P Q : List PathStep → Type 0) (path : List PathStep) (o : Occurrence) → ((r : List PathStep) → P r → Q r) → Under P path o → Under Q path o
weaker P Q path o f u = (u.0, u.1, f u.0 u.2)

-- ---- accesses that are evaluated together have one path

access_path : (scope : Scope) (line : ℕ) (path : List PathStep) (kind : AccessKind) (p : Designator) (o : Occurrence) → In o (access scope line path kind p) → o.path ≡ path
access_path scope line path kind p o h = by_test (scope.accessed p.name) h
  where
    by_test : (b : Bool) → In o (if b then record { line = line; place = p; path = path; kind = kind } ∷ [] else []) → o.path ≡ path
    by_test true (inl e) = sym (ap (λ (w : Occurrence). w.path) e)
    by_test true (inr e) = absurd e
    by_test false e = absurd e

mutual
  reads_path : (scope : Scope) (line : ℕ) (path : List PathStep) (e : Expression) (o : Occurrence) → In o (reads scope line path e) → o.path ≡ path
  reads_path scope line path (literal n k) o h = absurd h
  reads_path scope line path (get x ss) o h =
      by_side (o.path ≡ path) (split o (reads_all scope line path ss) (access scope line path Read (record { name = x; subscripts = ss })) h)
      (λ m. reads_all_path scope line path ss o m) (λ m. access_path scope line path Read (record { name = x; subscripts = ss }) o m)
  reads_path scope line path (minus a) o h = reads_path scope line path a o h
  reads_path scope line path (binary op a b) o h =
      by_side (o.path ≡ path) (split o (reads scope line path a) (reads scope line path b) h) (λ m. reads_path scope line path a o m) (λ m. reads_path scope line path b o m)
  reads_path scope line path (power a n) o h = reads_path scope line path a o h
  reads_path scope line path (call f ss) o h = reads_all_path scope line path ss o h

  reads_all_path : (scope : Scope) (line : ℕ) (path : List PathStep) (es : Expressions) (o : Occurrence) → In o (reads_all scope line path es) → o.path ≡ path
  reads_all_path scope line path no_expressions o h = absurd h
  reads_all_path scope line path (expression a es) o h =
      by_side (o.path ≡ path) (split o (reads scope line path a) (reads_all scope line path es) h) (λ m. reads_path scope line path a o m) (λ m. reads_all_path scope line path es o m)

pub condition_path : (scope : Scope) (line : ℕ) (path : List PathStep) (c : Condition) (o : Occurrence) → In o (condition_reads scope line path c) → o.path ≡ path
condition_path scope line path (relation op a b) o h =
    by_side (o.path ≡ path) (split o (reads scope line path a) (reads scope line path b) h) (λ m. reads_path scope line path a o m) (λ m. reads_path scope line path b o m)
condition_path scope line path (negation a) o h = condition_path scope line path a o h
condition_path scope line path (conjunction a b) o h =
    by_side (o.path ≡ path) (split o (condition_reads scope line path a) (condition_reads scope line path b) h) (λ m. condition_path scope line path a o m) (λ m. condition_path scope line path b o m)
condition_path scope line path (disjunction a b) o h =
    by_side (o.path ≡ path) (split o (condition_reads scope line path a) (condition_reads scope line path b) h) (λ m. condition_path scope line path a o m) (λ m. condition_path scope line path b o m)

step_path : (scope : Scope) (line : ℕ) (path : List PathStep) (e : Option Expression) (o : Occurrence) → In o (step_reads scope line path e) → o.path ≡ path
step_path scope line path None o h = absurd h
step_path scope line path (Some e) o h = reads_path scope line path e o h

abbrev pub bounds : Scope → ℕ → List PathStep → Expression → Expression → Option Expression → List Occurrence
bounds scope line path low high step = reads scope line path low ++ (reads scope line path high ++ step_reads scope line path step)

pub bounds_path : (scope : Scope) (line : ℕ) (path : List PathStep) (low high : Expression) (step : Option Expression) (o : Occurrence) → In o (bounds scope line path low high step) → o.path ≡ path
bounds_path scope line path low high step o h =
    by_side (o.path ≡ path) (split o (reads scope line path low) (reads scope line path high ++ step_reads scope line path step) h) (λ m. reads_path scope line path low o m)
    (λ m. by_side (o.path ≡ path) (split o (reads scope line path high) (step_reads scope line path step) m) (λ w. reads_path scope line path high o w) (λ w. step_path scope line path step o w))

terms_path : (scope : Scope) (line : ℕ) (path : List PathStep) (rs : List Signed) (o : Occurrence) → In o (term_reads scope line path rs) → o.path ≡ path
terms_path scope line path [] o h = absurd h
terms_path scope line path (r ∷ rs) o h =
    by_side (o.path ≡ path) (split o (reads scope line path r.1) (term_reads scope line path rs) h) (λ m. reads_path scope line path r.1 o m) (λ m. terms_path scope line path rs o m)

target_path : (scope : Scope) (line : ℕ) (path : List PathStep) (kind : AccessKind) (p : Designator) (o : Occurrence) → In o (reads_all scope line path p.subscripts ++ access scope line path kind p) → o.path ≡ path
target_path scope line path kind p o h =
    by_side (o.path ≡ path) (split o (reads_all scope line path p.subscripts) (access scope line path kind p) h) (λ m. reads_all_path scope line path p.subscripts o m) (λ m. access_path scope line path kind p o m)

pub assignment_path : (scope : Scope) (line : ℕ) (path : List PathStep) (atomic : Bool) (p : Designator) (e : Expression) (t : Option (List Signed)) (o : Occurrence) → In o (assignment_accesses scope line path atomic p e t) → o.path ≡ path
assignment_path scope line path atomic p e None o h =
    by_side (o.path ≡ path) (split o (reads scope line path e) (reads_all scope line path p.subscripts ++ access scope line path Write p) h) (λ m. reads_path scope line path e o m) (λ m. target_path scope line path Write p o m)
assignment_path scope line path atomic p e (Some rs) o h =
    by_side (o.path ≡ path) (split o (term_reads scope line path rs) (reads_all scope line path p.subscripts ++ access scope line path (increment_kind atomic (scope.pluses p.name)) p) h)
    (λ m. terms_path scope line path rs o m) (λ m. target_path scope line path (increment_kind atomic (scope.pluses p.name)) p o m)

-- ---- accesses of statements

pub parts_of_loop : (o : Occurrence) (f l u inner : List Occurrence) → In o (f ++ (l ++ (u ++ inner))) → In o (f ++ (l ++ u)) ⊎ In o inner
parts_of_loop o f l u inner h = let e : f ++ (l ++ (u ++ inner)) ≡ (f ++ (l ++ u)) ++ inner = simp append_assoc in split o (f ++ (l ++ u)) inner (subst (λ (os : List Occurrence). In o os) e h)

arm_number : (n : ℕ) (r : List PathStep) → FromArm n 0 r → AtNumber n r
arm_number n [] h = tt
arm_number n (t ∷ r) h = h.0

later_arm : (n m : ℕ) (r : List PathStep) → FromArm n (m + 1) r → FromArm n m r
later_arm n m [] h = absurd (omega (arith, h))
later_arm n m (t ∷ r) h = let i = h.1 in (h.0, omega (arith, i))

at_from : (n : ℕ) (r : List PathStep) → AtNumber n r → FromNumber n r
at_from n [] h = tt
at_from n (t ∷ r) h = omega (arith, h)

later_from : (n k : ℕ) (r : List PathStep) → FromNumber (n + k) r → FromNumber n r
later_from n k [] h = tt
later_from n k (t ∷ r) h = omega (arith, h)

in_this_arm : (n m : ℕ) (r : List PathStep) → FromArm n m (Arm n m ∷ r)
in_this_arm n m r = (refl, omega arith)

pub test_under : (scope : Scope) (line n m : ℕ) (path : List PathStep) (c : Condition) (o : Occurrence) → In o (condition_reads scope line (test_path path n m) c) → Under (FromArm n m) path o
test_under scope line n zero path c o h = here (FromArm n zero) path o refl (condition_path scope line path c o h)
test_under scope line n (suc m) path c o h = (Test n (suc m) ∷ [], condition_path scope line (path ++ Test n (suc m) ∷ []) c o h, (refl, omega arith))

mutual
  pub under_one : (scope : Scope) (n : ℕ) (path : List PathStep) (s : Statement) (o : Occurrence) → In o (accesses scope n path s) → Under (AtNumber n) path o
  under_one scope n path (assignment line atomic p e) o h = here (AtNumber n) path o tt (assignment_path scope line path atomic p e (increment_terms scope.ring p e) o h)
  under_one scope n path (branch line arms other) o h =
      weaker (FromArm n 0) (AtNumber n) path o (arm_number n)
      (under_arms scope line n (n + 1) 0 path arms (λ k steps. accesses_all scope k steps other) o (λ k steps m. under_all scope k steps other o m) h)
  under_one scope n path (loop line number directive var low high step body) o h =
      by_side (Under (AtNumber n) path o)
      (parts_of_loop o (reads scope line path low) (reads scope line path high) (step_reads scope line path step) (accesses_all scope (n + 1) (path ++ Body n ∷ []) body) h)
      (λ m. here (AtNumber n) path o tt (bounds_path scope line path low high step o m))
      (λ m. deeper (FromNumber (n + 1)) (AtNumber n) path (Body n) o (λ r w. refl) (under_all scope (n + 1) (path ++ Body n ∷ []) body o m))

  pub under_all : (scope : Scope) (n : ℕ) (path : List PathStep) (ss : Statements) (o : Occurrence) → In o (accesses_all scope n path ss) → Under (FromNumber n) path o
  under_all scope n path no_statements o h = absurd h
  under_all scope n path (statement s ss) o h =
      by_side (Under (FromNumber n) path o) (split o (accesses scope n path s) (accesses_all scope (n + statement_count s) path ss) h)
      (λ m. weaker (AtNumber n) (FromNumber n) path o (at_from n) (under_one scope n path s o m))
      (λ m. weaker (FromNumber (n + statement_count s)) (FromNumber n) path o (later_from n (statement_count s)) (under_all scope (n + statement_count s) path ss o m))

  pub under_arms : (scope : Scope) (line n k m : ℕ) (path : List PathStep) (arms : Arms) (other : ℕ → List PathStep → List Occurrence) (o : Occurrence) →
      ((j : ℕ) (steps : List PathStep) → In o (other j steps) → Under (FromNumber j) steps o) → In o (arms_accesses scope line n k m path arms other) → Under (FromArm n m) path o
  under_arms scope line n k m path no_arms other o f h = deeper (FromNumber k) (FromArm n m) path (Arm n m) o (λ r w. in_this_arm n m r) (f k (path ++ Arm n m ∷ []) h)
  under_arms scope line n k m path (arm test body arms) other o f h =
      by_side (Under (FromArm n m) path o)
      (split o (condition_reads scope line (test_path path n m) test) (accesses_all scope k (path ++ Arm n m ∷ []) body ++ arms_accesses scope line n (k + statements_count body) (m + 1) path arms other) h)
      (λ w. test_under scope line n m path test o w)
      (λ w. by_side (Under (FromArm n m) path o) (split o (accesses_all scope k (path ++ Arm n m ∷ []) body) (arms_accesses scope line n (k + statements_count body) (m + 1) path arms other) w)
      (λ z. deeper (FromNumber k) (FromArm n m) path (Arm n m) o (λ r y. in_this_arm n m r) (under_all scope k (path ++ Arm n m ∷ []) body o z))
      (λ z. weaker (FromArm n (m + 1)) (FromArm n m) path o (later_arm n m) (under_arms scope line n (k + statements_count body) (m + 1) path arms other o f z)))

-- ---- accesses of evaluated groups

abbrev Shows : (List PathStep → Type 0) → List PathStep → Group → Type 0
Shows P path g = (q : Occurrence) → In q g.accesses → Under P path q

own_group : (P : List PathStep → Type 0) (path : List PathStep) (u g : Group) → u ≡ g → Shows P path u → Shows P path g
own_group P path u g e h = subst (Shows P path) e h

mutual
  pub shown_one : (n : ℕ) (path : List PathStep) (s : Statement) (site : Site) (cells : Cells) (g : Group) → In g (groups_of n path s site cells) → Shows (AtNumber n) path g
  shown_one n path (assignment line atomic p e) site cells g (inl d) = own_group (AtNumber n) path _ g d (λ q m. under_one (scope_at site) n path (assignment line atomic p e) q m)
  shown_one n path (assignment line atomic p e) site cells g (inr h) = absurd h
  shown_one n path (branch line arms other) site cells g h = λ q m.
      weaker (FromArm n 0) (AtNumber n) path q (arm_number n)
      (shown_arms line n (n + 1) 0 path arms (λ k steps. groups_of_all k steps other) site cells g (λ k steps w. shown_all k steps other site cells g w) h q m)
  shown_one n path (loop line number directive var low high step body) site cells g (inl d) =
      own_group (AtNumber n) path _ g d (λ q m. here (AtNumber n) path q tt (bounds_path (scope_at site) line path low high step q m))
  shown_one n path (loop line number directive var low high step body) site cells g (inr h) =
      from_result (Shows (AtNumber n) path g) g (turns_of low high step site cells).out _
      (λ t m. from_turns (Shows (AtNumber n) path g) g t.count (one_turn site var t (run_all body)) _ cells
      (λ k c w. λ q y. deeper (FromNumber (n + 1)) (AtNumber n) path (Body n) q (λ r v. refl) (shown_all (n + 1) (path ++ Body n ∷ []) body (in_turn site var) (cells_with site var (value_at t k) c) g w q y)) m) h

  pub shown_all : (n : ℕ) (path : List PathStep) (ss : Statements) (site : Site) (cells : Cells) (g : Group) → In g (groups_of_all n path ss site cells) → Shows (FromNumber n) path g
  shown_all n path no_statements site cells g h = absurd h
  shown_all n path (statement s ss) site cells g h = by_side (Shows (FromNumber n) path g) (split g (groups_of n path s site cells) (groups_from (run s site cells).out (groups_of_all (n + statement_count s) path ss site)) h)
      (λ m. λ q y. weaker (AtNumber n) (FromNumber n) path q (at_from n) (shown_one n path s site cells g m q y))
      (λ m. from_result (Shows (FromNumber n) path g) g (run s site cells).out (groups_of_all (n + statement_count s) path ss site)
      (λ c w. λ q y. weaker (FromNumber (n + statement_count s)) (FromNumber n) path q (later_from n (statement_count s)) (shown_all (n + statement_count s) path ss site c g w q y)) m)

  pub shown_arms : (line n k m : ℕ) (path : List PathStep) (arms : Arms) (other : ℕ → List PathStep → Site → Cells → List Group) (site : Site) (cells : Cells) (g : Group) →
      ((j : ℕ) (steps : List PathStep) → In g (other j steps site cells) → Shows (FromNumber j) steps g) → In g (groups_of_arms line n k m path arms other site cells) → Shows (FromArm n m) path g
  shown_arms line n k m path no_arms other site cells g o h = λ q y. deeper (FromNumber k) (FromArm n m) path (Arm n m) q (λ r w. in_this_arm n m r) (o k (path ++ Arm n m ∷ []) h q y)
  shown_arms line n k m path (arm test body arms) other site cells g o (inl d) = own_group (FromArm n m) path _ g d (λ q y. test_under (scope_at site) line n m path test q y)
  shown_arms line n k m path (arm test body arms) other site cells g o (inr h) =
      from_result (Shows (FromArm n m) path g) g (holds test site cells).out _
      (λ b w. from_choice (Shows (FromArm n m) path g) g b (groups_of_all k (path ++ Arm n m ∷ []) body site cells) (groups_of_arms line n (k + statements_count body) (m + 1) path arms other site cells)
      (λ z. λ q y. deeper (FromNumber k) (FromArm n m) path (Arm n m) q (λ r v. in_this_arm n m r) (shown_all k (path ++ Arm n m ∷ []) body site cells g z q y))
      (λ z. λ q y. weaker (FromArm n (m + 1)) (FromArm n m) path q (later_arm n m) (shown_arms line n (k + statements_count body) (m + 1) path arms other site cells g o z q y)) w) h
