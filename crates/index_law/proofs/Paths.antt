-- An iteration that comes to an access comes to those that stand on the path to it.
use Rattle.std.proofs.Common.{◌≡◌, ℕ, zero, suc, ◌+◌, ◌<◌, ◌≤◌, Bool, true, false, ◌⊎◌, List, [], ◌∷◌, ◌++◌, refl, ap, sym, ◌∙◌, subst, arith, append_assoc, Some, None, Result, Ok}
use mathlib.Core.Logic.{inl, inr}
use Rattle.std.specs.Prelude.{if◌then◌else◌, cond, nat_eq}
use Rattle.std.proofs.lemmas.Bool.{and_parts}
use Rattle.std.proofs.lemmas.Bool.Decides.{nat_tests}
use Rattle.fl_ast.specs.Tree.{Condition, Statement, assignment, branch, loop, Statements, no_statements, statement, Arms, no_arms, arm}
use Rattle.fl_types.specs.declared.access.PathStep.{PathStep}
use Rattle.fl_types.specs.declared.access.PathStep.TheVariants.{Arm, Test, Body}
use Rattle.fl_types.specs.Accesses.{Scope, Occurrence, reads, step_reads, condition_reads, accesses, accesses_all, arms_accesses, statement_count, statements_count, test_path}
use Rattle.fl_types.specs.Nests.{iteration_body}
use Rattle.fl_types.specs.Sharing.{ParallelLoop}
use Rattle.meaning.specs.declared.value.IterationCount.{IterationCount}
use Rattle.meaning.specs.Sites.{Cells, Site, in_turn, in_iteration}
use Rattle.meaning.specs.Expressions.{holds}
use Rattle.meaning.specs.Statements.{Run, turns_of, value_at, turns, one_turn, Heads, run, run_all, run_arms}
use Rattle.meaning.specs.Sequential.{is_sequential, are_sequential, are_arms_sequential}
use Rattle.meaning.specs.Touches.{scope_at}
use Rattle.meaning.specs.Reached.{cells_with, iteration_cells}
use Rattle.meaning.specs.Groups.{Group, group_at, groups_from, groups_of_turns, groups_of, groups_of_all, groups_of_arms, iteration_of, groups_of_iteration}
use Rattle.meaning.proofs.GroupReadings.{append_nil}
use Rattle.meaning.proofs.Parts.{bound, result_once, loop_run, turn_run, arm_run, other_run}
use Rattle.index_law.specs.Meetings.{In}
use Rattle.index_law.specs.Paths.{LeadsTo, IsAmong}
use Rattle.index_law.proofs.GroupKeys.{split, by_side}
use Rattle.index_law.proofs.Meets.{in_left, in_right}
use Rattle.index_law.proofs.Iterations.{iteration_out}
use Rattle.index_law.proofs.Shapes.{number_of, arm_of, AtNumber, FromNumber, FromArm, Under, bounds, bounds_path, condition_path, parts_of_loop, under_one, under_all, under_arms, shown_one, shown_all, shown_arms}

-- ---- paths

same_head : (t u : PathStep) (p q : List PathStep) → t ∷ p ≡ u ∷ q → t ≡ u
same_head t u p q e = cc

same_tail : (t u : PathStep) (p q : List PathStep) → t ∷ p ≡ u ∷ q → p ≡ q
same_tail t u p q e = cc

cancel : (path r s : List PathStep) → path ++ r ≡ path ++ s → r ≡ s
cancel [] r s e = e
cancel (t ∷ path) r s e = cancel path r s (same_tail t t (path ++ r) (path ++ s) e)

longer : (path : List PathStep) (t : PathStep) (r : List PathStep) → path ≡ path ++ t ∷ r → ⊥
longer [] t r e = cc
longer (u ∷ path) t r e = longer path t r (same_tail u u path (path ++ t ∷ r) e)

joined : (path : List PathStep) (t : PathStep) (r : List PathStep) → (path ++ t ∷ []) ++ r ≡ path ++ t ∷ r
joined path t r = simp append_assoc

-- the steps behind a common path
rests : (path a b r p q : List PathStep) → p ≡ path ++ a → q ≡ path ++ b → q ≡ p ++ r → b ≡ a ++ r
rests path a b r p q e f g = cancel path b (a ++ r) (sym f ∙ (g ∙ (ap (λ (w : List PathStep). w ++ r) e ∙ simp append_assoc)))

-- an access below a step has a longer path
below : (P : List PathStep → Type 0) (path : List PathStep) (t : PathStep) (o : Occurrence) → Under P (path ++ t ∷ []) o → o.path ≡ path → ⊥
below P path t o u e = longer path t u.0 (sym e ∙ (u.1 ∙ joined path t u.0))

not_below : (P : List PathStep → Type 0) (path : List PathStep) (t : PathStep) (o q : Occurrence) → Under P (path ++ t ∷ []) o → q.path ≡ path → LeadsTo o.path q.path → ⊥
not_below P path t o q u e lead = longer path t (u.0 ++ lead.0) (sym e ∙ (lead.1 ∙ (ap (λ (w : List PathStep). w ++ lead.0) (u.1 ∙ joined path t u.0) ∙ simp append_assoc)))

at_path : (path r : List PathStep) (o : Occurrence) → o.path ≡ path ++ r → r ≡ [] → o.path ≡ path
at_path path r o e h = e ∙ (ap (λ (w : List PathStep). path ++ w) h ∙ append_nil path)

-- ---- numbers that differ

counted : (s : Statement) → 1 ≤ statement_count s
counted (assignment line atomic p e) = omega arith
counted (branch line arms other) = omega arith
counted (loop line number d var low high step body) = omega arith

none_later : (n k : ℕ) → 1 ≤ k → (a b r : List PathStep) → AtNumber n a → FromNumber (n + k) b → b ≡ a ++ r → a ≡ []
none_later n k h [] b r f g e = refl
none_later n k h (t ∷ a) [] r f g e = cc
none_later n k h (t ∷ a) (u ∷ b) r f g e = let i : number_of u ≡ number_of t = ap number_of (same_head u t b (a ++ r) e) in absurd (omega (arith, i, f, g, h))

none_before : (n k : ℕ) → 1 ≤ k → (a b r : List PathStep) → FromNumber (n + k) a → AtNumber n b → b ≡ a ++ r → a ≡ []
none_before n k h [] b r f g e = refl
none_before n k h (t ∷ a) [] r f g e = cc
none_before n k h (t ∷ a) (u ∷ b) r f g e = let i : number_of u ≡ number_of t = ap number_of (same_head u t b (a ++ r) e) in absurd (omega (arith, i, f, g, h))

-- what stands in a later arm isn't on the path to what stands at a step of arm m
no_later_arm : (n m : ℕ) (t : PathStep) → arm_of t ≡ m → (a b r : List PathStep) → FromArm n (m + 1) a → t ∷ b ≡ a ++ r → ⊥
no_later_arm n m t h [] b r f e = absurd (omega (arith, f))
no_later_arm n m t h (u ∷ a) b r f e = let i : arm_of t ≡ arm_of u = ap arm_of (same_head t u b (a ++ r) e) in let j = f.1 in omega (arith, i, j, h)

no_earlier_arm : (n m : ℕ) (t : PathStep) → arm_of t ≡ m → (a b r : List PathStep) → FromArm n (m + 1) b → b ≡ t ∷ a ++ r → ⊥
no_earlier_arm n m t h a [] r f e = cc
no_earlier_arm n m t h a (u ∷ b) r f e = let i : arm_of u ≡ arm_of t = ap arm_of (same_head u t b (a ++ r) e) in let j = f.1 in omega (arith, i, j, h)

-- ---- members of lists of groups

in_result : {X A : Type 0} (g : Group) (r : Result A X) (a : A) (f : A → List Group) → r ≡ Ok a → In g (f a) → In g (groups_from r f)
in_result {X} {A} g r a f e h = subst (λ (w : Result A X). In g (groups_from w f)) (sym e) h

of_result : {X A : Type 0} (g : Group) (r : Result A X) (a : A) (f : A → List Group) → r ≡ Ok a → In g (groups_from r f) → In g (f a)
of_result {X} {A} g r a f e h = subst (λ (w : Result A X). In g (groups_from w f)) e h

among_left : (o : Occurrence) (gs hs : List Group) → IsAmong o gs → IsAmong o (gs ++ hs)
among_left o gs hs h = (h.0, in_left h.0 gs hs h.1, h.2)

among_right : (o : Occurrence) (gs hs : List Group) → IsAmong o hs → IsAmong o (gs ++ hs)
among_right o gs hs h = (h.0, in_right h.0 gs hs h.1, h.2)

among_result : {X A : Type 0} (o : Occurrence) (r : Result A X) (a : A) (f : A → List Group) → r ≡ Ok a → IsAmong o (f a) → IsAmong o (groups_from r f)
among_result o r a f e h = (h.0, in_result h.0 r a f e h.1, h.2)

-- a turn with a group
record TurnOf (g : Group) (n : ℕ) (f : ℕ → Run) (gs : ℕ → Cells → List Group) (cells : Cells) : Type 0 where
  number : ℕ
  within : number < n
  before : Cells
  reached : (turns number f cells).out ≡ Ok before
  has : In g (gs number before)

turn_of : (g : Group) (n : ℕ) (f : ℕ → Run) (gs : ℕ → Cells → List Group) (cells d : Cells) → (turns n f cells).out ≡ Ok d → In g (groups_of_turns n f gs cells) → TurnOf g n f gs cells
turn_of g zero f gs cells d r h = absurd h
turn_of g (suc n) f gs cells d r h =
    let b = bound (turns n f cells) (f n) d r in
    by_side (TurnOf g (suc n) f gs cells) (split g (groups_of_turns n f gs cells) (groups_from (turns n f cells).out (gs n)) h)
    (λ m. let t = turn_of g n f gs cells b.value b.first m in let i = t.within in record { number = t.number; within = omega (arith, i); before = t.before; reached = t.reached; has = t.has })
    (λ m. record { number = n; within = omega arith; before = b.value; reached = b.first; has = of_result g (turns n f cells).out b.value (gs n) b.first m })

in_turns : (o : Occurrence) (n k : ℕ) (f : ℕ → Run) (gs : ℕ → Cells → List Group) (cells before : Cells) → k < n → (turns k f cells).out ≡ Ok before → IsAmong o (gs k before) → IsAmong o (groups_of_turns n f gs cells)
in_turns o zero k f gs cells before w r h = absurd (omega (arith, w))
in_turns o (suc n) k f gs cells before w r h = by_last (nat_eq k n) refl (λ i. in_turns o n k f gs cells before i r h)
  where
    here : k ≡ n → IsAmong o (groups_from (turns n f cells).out (gs n))
    here e = subst (λ (z : ℕ). IsAmong o (groups_from (turns z f cells).out (gs z))) e (among_result o (turns k f cells).out before (gs k) r h)

    by_last : (b : Bool) → nat_eq k n ≡ b → (k < n → IsAmong o (groups_of_turns n f gs cells)) → IsAmong o (groups_of_turns (suc n) f gs cells)
    by_last true e again = among_right o (groups_of_turns n f gs cells) (groups_from (turns n f cells).out (gs n)) (here (grind (arith, nat_tests)))
    by_last false e again = among_left o (groups_of_turns n f gs cells) (groups_from (turns n f cells).out (gs n)) (again (grind (arith, nat_tests)))

-- ---- what stands at the path itself is evaluated

no_steps : (path r : List PathStep) (n : ℕ) → path ≡ path ++ r → FromArm n 1 r → ⊥
no_steps path [] n e f = absurd (omega (arith, f))
no_steps path (t ∷ r) n e f = longer path t r e

no_own : (path : List PathStep) (n : ℕ) (o : Occurrence) → o.path ≡ path → Under (FromArm n 1) path o → ⊥
no_own path n o i u = no_steps path u.0 n (sym i ∙ u.1) u.2

mutual
  own_one : (n : ℕ) (path : List PathStep) (s : Statement) (site : Site) (cells : Cells) → (o : Occurrence) → In o (accesses (scope_at site) n path s) → o.path ≡ path → IsAmong o (groups_of n path s site cells)
  own_one n path (assignment line atomic p e) site cells o h i = (_, inl refl, h)
  own_one n path (branch line no_arms other) site cells o h i = absurd (below (FromNumber (n + 1)) path (Arm n 0) o (under_all (scope_at site) (n + 1) (path ++ Arm n 0 ∷ []) other o h) i)
  own_one n path (branch line (arm test body arms) other) site cells o h i =
      by_side (IsAmong o (groups_of n path (branch line (arm test body arms) other) site cells))
      (split o (condition_reads (scope_at site) line path test) (accesses_all (scope_at site) (n + 1) (path ++ Arm n 0 ∷ []) body ++ arms_accesses (scope_at site) line n ((n + 1) + statements_count body) 1 path arms (λ k steps. accesses_all (scope_at site) k steps other)) h)
      (λ m. (_, inl refl, m))
      (λ m. by_side (IsAmong o (groups_of n path (branch line (arm test body arms) other) site cells))
      (split o (accesses_all (scope_at site) (n + 1) (path ++ Arm n 0 ∷ []) body) (arms_accesses (scope_at site) line n ((n + 1) + statements_count body) 1 path arms (λ k steps. accesses_all (scope_at site) k steps other)) m)
      (λ w. absurd (below (FromNumber (n + 1)) path (Arm n 0) o (under_all (scope_at site) (n + 1) (path ++ Arm n 0 ∷ []) body o w) i))
      (λ w. absurd (no_own path n o i (under_arms (scope_at site) line n ((n + 1) + statements_count body) 1 path arms (λ k steps. accesses_all (scope_at site) k steps other) o (λ k steps y. under_all (scope_at site) k steps other o y) w))))
  own_one n path (loop line number directive var low high step body) site cells o h i =
      by_side (IsAmong o (groups_of n path (loop line number directive var low high step body) site cells))
      (parts_of_loop o (reads (scope_at site) line path low) (reads (scope_at site) line path high) (step_reads (scope_at site) line path step) (accesses_all (scope_at site) (n + 1) (path ++ Body n ∷ []) body) h)
      (λ m. (_, inl refl, m))
      (λ m. absurd (below (FromNumber (n + 1)) path (Body n) o (under_all (scope_at site) (n + 1) (path ++ Body n ∷ []) body o m) i))

  own_all : (n : ℕ) (path : List PathStep) (ss : Statements) (site : Site) (cells d : Cells) → (run_all ss site cells).out ≡ Ok d → (o : Occurrence) → In o (accesses_all (scope_at site) n path ss) → o.path ≡ path → IsAmong o (groups_of_all n path ss site cells)
  own_all n path no_statements site cells d r o h i = absurd h
  own_all n path (statement s ss) site cells d r o h i =
      let b = bound (run s site cells) (run_all ss site) d r in
      let later : Cells → List Group = groups_of_all (n + statement_count s) path ss site in
      by_side (IsAmong o (groups_of_all n path (statement s ss) site cells)) (split o (accesses (scope_at site) n path s) (accesses_all (scope_at site) (n + statement_count s) path ss) h)
      (λ m. among_left o (groups_of n path s site cells) (groups_from (run s site cells).out later) (own_one n path s site cells o m i))
      (λ m. among_right o (groups_of n path s site cells) (groups_from (run s site cells).out later) (among_result o (run s site cells).out b.value later b.first (own_all (n + statement_count s) path ss site b.value d b.second o m i)))

-- ---- what stands on the path to an evaluated access is evaluated

-- of an access in the arm with these steps, or behind it
abbrev Follows : Occurrence → Occurrence → List Group → Type 0
Follows o q gs = IsAmong q gs → LeadsTo o.path q.path → IsAmong o gs

both_under : (P Q : List PathStep → Type 0) (path : List PathStep) (o q : Occurrence) (u : Under P path o) (w : Under Q path q) (lead : LeadsTo o.path q.path) → w.0 ≡ u.0 ++ lead.0
both_under P Q path o q u w lead = rests path u.0 w.0 lead.0 o.path q.path u.1 w.1 lead.1

-- in arm m, on the path to its condition
not_to_test : (scope : Scope) (line n m k : ℕ) (path : List PathStep) (test : Condition) (o q : Occurrence) → Under (FromNumber k) (path ++ Arm n m ∷ []) o → In q (condition_reads scope line (test_path path n m) test) → LeadsTo o.path q.path → ⊥
not_to_test scope line n zero k path test o q u h lead = not_below (FromNumber k) path (Arm n zero) o q u (condition_path scope line path test q h) lead
not_to_test scope line n (suc m) k path test o q u h lead =
    let e = rests path (Arm n (suc m) ∷ u.0) (Test n (suc m) ∷ []) lead.0 o.path q.path (u.1 ∙ joined path (Arm n (suc m)) u.0) (condition_path scope line (path ++ Test n (suc m) ∷ []) test q h) lead.1 in
    let i : Test n (suc m) ≡ Arm n (suc m) = same_head (Test n (suc m)) (Arm n (suc m)) [] (u.0 ++ lead.0) e in
    cc

-- behind arm m, on the path to its condition
not_back_to_test : (scope : Scope) (line n m : ℕ) (path : List PathStep) (test : Condition) (o q : Occurrence) → Under (FromArm n (m + 1)) path o → In q (condition_reads scope line (test_path path n m) test) → LeadsTo o.path q.path → ⊥
not_back_to_test scope line n zero path test o q u h lead = by_rest u.0 u.1 u.2
  where
    by_rest : (r : List PathStep) → o.path ≡ path ++ r → FromArm n 1 r → ⊥
    by_rest [] e f = absurd (omega (arith, f))
    by_rest (t ∷ r) e f = longer path t (r ++ lead.0) (sym (condition_path scope line path test q h) ∙ (lead.1 ∙ (ap (λ (w : List PathStep). w ++ lead.0) e ∙ simp append_assoc)))
not_back_to_test scope line n (suc m) path test o q u h lead =
    no_later_arm n (suc m) (Test n (suc m)) refl u.0 [] lead.0 u.2
    (rests path u.0 (Test n (suc m) ∷ []) lead.0 o.path q.path u.1 (condition_path scope line (path ++ Test n (suc m) ∷ []) test q h) lead.1)

-- the arm that was taken and where the access stands
by_choice : {A B R S : Type 0} (o : Occurrence) (g : Group) (here there : List Group) (b : Bool) → cond b R S → In g (if b then here else there) → A ⊎ B →
    (R → In g here → A → IsAmong o here) → (S → In g there → B → IsAmong o there) → (In g here → B → ⊥) → (In g there → A → ⊥) → IsAmong o (if b then here else there)
by_choice o g here there true r m (inl a) f h i j = f r m a
by_choice o g here there true r m (inr b) f h i j = absurd (i m b)
by_choice o g here there false r m (inl a) f h i j = absurd (j m a)
by_choice o g here there false r m (inr b) f h i j = h r m b

mutual
  follow_one : (n : ℕ) (path : List PathStep) (s : Statement) (site : Site) (cells d : Cells) → is_sequential s ≡ true → (run s site cells).out ≡ Ok d → (o q : Occurrence) → In o (accesses (scope_at site) n path s) → Follows o q (groups_of n path s site cells)
  follow_one n path (assignment line atomic p e) site cells d z r o q h g lead = (_, inl refl, h)
  follow_one n path (branch line arms other) site cells d z r o q h g lead =
      let c = and_parts (are_arms_sequential arms) (are_sequential other) z in
      follow_arms line n (n + 1) 0 path arms other site cells d c.0 r o q (λ j steps e t m. follow_all j steps other site cells e c.1 t o q m) h g lead
  follow_one n path (loop line number (Some directive) var low high step body) site cells d z r o q h g lead = cc
  follow_one n path (loop line number None var low high step body) site cells d z r o q h g lead =
      let l = loop_run site cells line number var low high step body d r in
      let at : List PathStep = path ++ Body n ∷ [] in
      let inner : List Occurrence = accesses_all (scope_at site) (n + 1) at body in
      let turned : IterationCount → ℕ → Cells → List Group = λ t k c. groups_of_all (n + 1) at body (in_turn site var) (cells_with site var (value_at t k) c) in
      let f : ℕ → Run = one_turn site var l.count (run_all body) in
      let all : List Group = groups_of n path (loop line number None var low high step body) site cells in
      by_side (IsAmong o all) (parts_of_loop o (reads (scope_at site) line path low) (reads (scope_at site) line path high) (step_reads (scope_at site) line path step) inner h)
      (λ m. (_, inl refl, m))
      (λ m. by_side (IsAmong o all) g.1
      (λ e. absurd (not_below (FromNumber (n + 1)) path (Body n) o q (under_all (scope_at site) (n + 1) at body o m)
      (bounds_path (scope_at site) line path low high step q (subst (λ (w : Group). In q w.accesses) (sym e) g.2)) lead))
      (λ w.
      let t = turn_of g.0 l.count.count f (turned l.count) cells d l.ran (of_result g.0 (turns_of low high step site cells).out l.count (λ t. groups_of_turns t.count (one_turn site var t (run_all body)) (turned t) cells) l.evaluated w) in
      let u = turn_run l.count.count t.number f cells d l.ran t.within in
      let same : u.before ≡ t.before = result_once (turns t.number f cells).out u.before t.before u.reached t.reached in
      let ran : (run_all body (in_turn site var) (cells_with site var (value_at l.count t.number) t.before)).out ≡ Ok u.past = subst (λ (c : Cells). (f t.number c).out ≡ Ok u.past) same u.ran in
      let found : IsAmong o (turned l.count t.number t.before) = follow_all (n + 1) at body (in_turn site var) (cells_with site var (value_at l.count t.number) t.before) u.past z ran o q m (g.0, t.has, g.2) lead in
      among_right o (group_at site cells (bounds (scope_at site) line path low high step) ∷ []) _
      (among_result o (turns_of low high step site cells).out l.count (λ t. groups_of_turns t.count (one_turn site var t (run_all body)) (turned t) cells) l.evaluated
      (in_turns o l.count.count t.number f (turned l.count) cells t.before t.within t.reached found))))

  pub follow_all : (n : ℕ) (path : List PathStep) (ss : Statements) (site : Site) (cells d : Cells) → are_sequential ss ≡ true → (run_all ss site cells).out ≡ Ok d → (o q : Occurrence) → In o (accesses_all (scope_at site) n path ss) → Follows o q (groups_of_all n path ss site cells)
  follow_all n path no_statements site cells d z r o q h g lead = absurd h
  follow_all n path (statement s ss) site cells d z r o q h g lead =
      let c = and_parts (is_sequential s) (are_sequential ss) z in
      let b = bound (run s site cells) (run_all ss site) d r in
      let j : ℕ = n + statement_count s in
      let rest : Cells → List Group = groups_of_all j path ss site in
      let first : List Group = groups_of n path s site cells in
      let later : List Group = groups_from (run s site cells).out rest in
      by_side (IsAmong o (first ++ later)) (split o (accesses (scope_at site) n path s) (accesses_all (scope_at site) j path ss) h)
      (λ m. among_left o first later (by_side (IsAmong o first) (split g.0 first later g.1)
      (λ w. follow_one n path s site cells b.value c.0 b.first o q m (g.0, w, g.2) lead)
      (λ w.
      let u = under_one (scope_at site) n path s o m in
      let y = shown_all j path ss site b.value g.0 (of_result g.0 (run s site cells).out b.value rest b.first w) q g.2 in
      own_one n path s site cells o m (at_path path u.0 o u.1 (none_later n (statement_count s) (counted s) u.0 y.0 lead.0 u.2 y.2 (both_under (AtNumber n) (FromNumber j) path o q u y lead))))))
      (λ m. among_right o first later (among_result o (run s site cells).out b.value rest b.first (by_side (IsAmong o (rest b.value)) (split g.0 first later g.1)
      (λ w.
      let u = under_all (scope_at site) j path ss o m in
      let y = shown_one n path s site cells g.0 w q g.2 in
      own_all j path ss site b.value d b.second o m (at_path path u.0 o u.1 (none_before n (statement_count s) (counted s) u.0 y.0 lead.0 u.2 y.2 (both_under (FromNumber j) (AtNumber n) path o q u y lead))))
      (λ w. follow_all j path ss site b.value d c.1 b.second o q m (g.0, of_result g.0 (run s site cells).out b.value rest b.first w, g.2) lead))))

  follow_arms : (line n k m : ℕ) (path : List PathStep) (arms : Arms) (other : Statements) (site : Site) (cells d : Cells) → are_arms_sequential arms ≡ true → (run_arms arms line m (run_all other) site cells).out ≡ Ok d → (o q : Occurrence) →
      ((j : ℕ) (steps : List PathStep) (e : Cells) → (run_all other site cells).out ≡ Ok e → In o (accesses_all (scope_at site) j steps other) → Follows o q (groups_of_all j steps other site cells)) →
      In o (arms_accesses (scope_at site) line n k m path arms (λ j steps. accesses_all (scope_at site) j steps other)) →
      Follows o q (groups_of_arms line n k m path arms (λ j steps. groups_of_all j steps other) site cells)
  follow_arms line n k m path no_arms other site cells d y r o q z h g lead = z k (path ++ Arm n m ∷ []) d (other_run site cells line m (run_all other) d r) h g lead
  follow_arms line n k m path (arm test body arms) other site cells d y r o q z h g lead =
      let c = and_parts (are_sequential body) (are_arms_sequential arms) y in
      let a = arm_run site cells test body arms line m (run_all other) d r in
      let at : List PathStep = path ++ Arm n m ∷ [] in
      let j : ℕ = k + statements_count body in
      let here : List Group = groups_of_all k at body site cells in
      let there : List Group = groups_of_arms line n j (m + 1) path arms (λ i steps. groups_of_all i steps other) site cells in
      let chosen : Bool → List Group = λ b. if b then here else there in
      let own : Group = group_at site cells (condition_reads (scope_at site) line (test_path path n m) test) in
      let behind : List Occurrence = arms_accesses (scope_at site) line n j (m + 1) path arms (λ i steps. accesses_all (scope_at site) i steps other) in
      by_side (IsAmong o (own ∷ groups_from (holds test site cells).out chosen)) (split o own.accesses (accesses_all (scope_at site) k at body ++ behind) h)
      (λ w. (own, inl refl, w))
      (λ w. among_right o (own ∷ []) (groups_from (holds test site cells).out chosen)
      (among_result o (holds test site cells).out a.taken chosen a.evaluated
      (by_side (IsAmong o (chosen a.taken)) g.1
      (λ e.
      let t : In q own.accesses = subst (λ (x : Group). In q x.accesses) (sym e) g.2 in
      by_side (IsAmong o (chosen a.taken)) (split o (accesses_all (scope_at site) k at body) behind w)
      (λ v. absurd (not_to_test (scope_at site) line n m k path test o q (under_all (scope_at site) k at body o v) t lead))
      (λ v. absurd (not_back_to_test (scope_at site) line n m path test o q (under_arms (scope_at site) line n j (m + 1) path arms (λ i steps. accesses_all (scope_at site) i steps other) o (λ i steps x. under_all (scope_at site) i steps other o x) v) t lead)))
      (λ e. by_choice o g.0 here there a.taken a.ran (of_result g.0 (holds test site cells).out a.taken chosen a.evaluated e) (split o (accesses_all (scope_at site) k at body) behind w)
      (λ r1 x v. follow_all k at body site cells d c.0 r1 o q v (g.0, x, g.2) lead)
      (λ r1 x v. follow_arms line n j (m + 1) path arms other site cells d c.1 r1 o q z v (g.0, x, g.2) lead)
      (λ x v.
      let u = under_arms (scope_at site) line n j (m + 1) path arms (λ i steps. accesses_all (scope_at site) i steps other) o (λ i steps x. under_all (scope_at site) i steps other o x) v in
      let f = shown_all k at body site cells g.0 x q g.2 in
      no_later_arm n m (Arm n m) refl u.0 f.0 lead.0 u.2 (rests path u.0 (Arm n m ∷ f.0) lead.0 o.path q.path u.1 (f.1 ∙ joined path (Arm n m) f.0) lead.1))
      (λ x v.
      let u = under_all (scope_at site) k at body o v in
      let f = shown_arms line n j (m + 1) path arms (λ i steps. groups_of_all i steps other) site cells g.0 (λ i steps b. shown_all i steps other site cells g.0 b) x q g.2 in
      no_earlier_arm n m (Arm n m) refl u.0 f.0 lead.0 f.2 (rests path (Arm n m ∷ u.0) f.0 lead.0 o.path q.path (u.1 ∙ joined path (Arm n m) u.0) f.1 lead.1))))))

pub iterations_follow : (site : Site) (l : ParallelLoop) (heads : Heads) (k : ℕ) (cells d : Cells) → are_sequential (iteration_body l.directive l.body) ≡ true → (iteration_of site l heads k cells).out ≡ Ok d →
    (o q : Occurrence) → In o (accesses_all (scope_at (in_iteration site l.directive l.var l.body)) 1 [] (iteration_body l.directive l.body)) →
    IsAmong q (groups_of_iteration site l heads k cells) → LeadsTo o.path q.path → IsAmong o (groups_of_iteration site l heads k cells)
iterations_follow site l heads k cells d z r o q h g lead =
    follow_all 1 [] (iteration_body l.directive l.body) (in_iteration site l.directive l.var l.body) (iteration_cells site l.directive l.var l.body heads k cells) d z (iteration_out site l heads k cells d r) o q h g lead
