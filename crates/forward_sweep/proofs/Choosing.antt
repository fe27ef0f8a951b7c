-- The arm of a choice, and what a statement of each kind is.
use Rattle.std.specs.Prelude.{◌≡◌, ℕ, zero, suc, ◌+◌, ◌<◌, ◌≤◌, Bool, true, false, if◌then◌else◌, List, [], ◌∷◌, length, refl}
use Rattle.std.proofs.Common.{ap, sym, subst, ◌∙◌, arith, rules, get_or, drop}
use Rattle.meaning.specs.Logs.{Touch}
use Rattle.meaning.specs.Stops.{Judge}
use Rattle.resolved.specs.SlotTables.{Names}
use Rattle.sweep_trees.specs.Split.{TestTree, test_tree}
use Rattle.sweep_steps.specs.declared.step.Store.{Store}
use Rattle.sweep_steps.specs.declared.step.Around.{Around}
use Rattle.sweep_steps.specs.declared.step.Flow.{the_lemmas as flow_lemmas}
use Rattle.sweep_steps.specs.declared.step.Flow.TheVariants as flow
use Rattle.sweep_steps.specs.Steps.{Step, StepArm, StepTrees, store_step, if_step, loop_step, ArmTrees, no_step_arms, step_arm, store_tree, around_tree, step_tree, step_trees, arm_tree, step_arm_trees}
use Rattle.sweep_evaluation.specs.Machine.{Ran, ran, ◌to◌, Does, test_value}
use Rattle.sweep_law.specs.Telling.{Standing, told}
use Rattle.forward_state.specs.declared.run.Run.{Run}
use Rattle.forward_state.specs.Holding.{Holds, Leaves}
use Rattle.forward_state.proofs.Noting.{does_leaves}
use Rattle.forward_sweep.proofs.Turning.{leaves_as}
use Rattle.forward_sweep.specs.Machine.{arm_run, steps_run, arms_run, arm_chosen}

-- ---- trees

pub store_is : (s : Store) → step_tree (flow.Store s) ≡ store_step (store_tree s)
store_is s = search (rules, flow_lemmas)

pub if_is : (line : ℕ) (arms : List StepArm) (other : List Step) → step_tree (flow.If line arms other) ≡ if_step line (step_arm_trees arms) (step_trees other)
if_is line arms other = search (rules, flow_lemmas)

pub loop_is : (line : ℕ) (around : Around) (body : List Step) → step_tree (flow.Loop line around body) ≡ loop_step line (around_tree around) (step_trees body)
loop_is line around body = search (rules, flow_lemmas)

arm_is : (a : StepArm) → arm_tree a ≡ (test_tree a.test, step_trees a.body)
arm_is a = search (rules, flow_lemmas)

-- ---- the statements of an arm by its number

abbrev pub arm_body : Names → ArmTrees → ℕ → (Standing → Standing) → Standing → Standing
arm_body names no_step_arms m other = other
arm_body names (step_arm test body arms) zero other = steps_run names body
arm_body names (step_arm test body arms) (suc m) other = arm_body names arms m other

arms_by : (names : Names) (b : Bool) (body : StepTrees) (test : TestTree) (rest : ArmTrees) (m : ℕ) (other : Standing → Standing) (t : Standing)
    → (let r = arm_chosen names rest t in arms_run names rest (m + 1) other t ≡ arm_run ((m + 1) + r.out) (arm_body names rest r.out other) r.state)
    → (let r : Ran Standing ℕ = if b then ran 0 t else (arm_chosen names rest t to (λ n. ran (suc n))) in
    (if b then arm_run m (steps_run names body) t else arms_run names rest (m + 1) other t) ≡ arm_run (m + r.out) (arm_body names (step_arm test body rest) r.out other) r.state)
arms_by names true body test rest m other t h =
    let e : m ≡ m + 0 = omega arith in
    ap (λ (i : ℕ). arm_run i (steps_run names body) t) e
arms_by names false body test rest m other t h =
    let r = arm_chosen names rest t in
    let e : (m + 1) + r.out ≡ m + suc r.out = omega arith in
    h ∙ ap (λ (i : ℕ). arm_run i (arm_body names rest r.out other) r.state) e

arms_from : (names : Names) (arms : ArmTrees) (m : ℕ) (other : Standing → Standing) (s : Standing)
    → (let r = arm_chosen names arms s in arms_run names arms m other s ≡ arm_run (m + r.out) (arm_body names arms r.out other) r.state)
arms_from names no_step_arms m other s =
    let e : m ≡ m + 0 = omega arith in
    ap (λ (i : ℕ). arm_run i other s) e
arms_from names (step_arm test body rest) m other s =
    let b = test_value told names test s in
    arms_by names b.out body test rest m other b.state (arms_from names rest (m + 1) other b.state)

-- a choice runs the arm that is chosen
pub arms_are : (names : Names) (arms : ArmTrees) (other : Standing → Standing) (s : Standing)
    → (let r = arm_chosen names arms s in arms_run names arms 0 other s ≡ arm_run r.out (arm_body names arms r.out other) r.state)
arms_are names arms other s =
    let r = arm_chosen names arms s in
    let e : 0 + r.out ≡ r.out = omega arith in
    arms_from names arms 0 other s ∙ ap (λ (i : ℕ). arm_run i (arm_body names arms r.out other) r.state) e

pub body_at : (names : Names) (xs : List StepArm) (i : ℕ) (x : StepArm) (other : Standing → Standing) → i < length xs → x ≡ get_or xs i x
    → arm_body names (step_arm_trees xs) i other ≡ steps_run names (step_trees x.body)
body_at names [] i x other l h = absurd (omega (arith, l))
body_at names (y ∷ xs) zero x other l h = ap (λ (a : TestTree × StepTrees). steps_run names a.1) (arm_is y) ∙ ap (λ (a : StepArm). steps_run names (step_trees a.body)) (sym h)
body_at names (y ∷ xs) (suc i) x other l h = body_at names xs i x other (omega (arith, l)) h

pub body_past : (names : Names) (xs : List StepArm) (i : ℕ) (other : Standing → Standing) → length xs ≤ i → arm_body names (step_arm_trees xs) i other ≡ other
body_past names [] zero other l = refl
body_past names [] (suc i) other l = refl
body_past names (y ∷ xs) zero other l = absurd (omega (arith, l))
body_past names (y ∷ xs) (suc i) other l = body_past names xs i other (omega (arith, l))

-- the arm that is chosen, and then its statements
pub chosen_leaves : {V : Type 0} (run : V → Run) (watched : V → ℕ → List Touch → Type 0) (places : V → ℕ) (judge : Judge) (u v w : V) (names : Names) (arms : ArmTrees) (n : ℕ) (body other : Standing → Standing)
    → Does (λ x s. Holds (run x) (watched x) (places x) judge s) (λ x. (run x).lost) u v n (arm_chosen names arms) → arm_body names arms n other ≡ body
    → Leaves (run v) (run w) (watched v) (watched w) (places v) (places w) judge (arm_run n body)
    → Leaves (run u) (run w) (watched u) (watched w) (places u) (places w) judge (arms_run names arms 0 other)
chosen_leaves run watched places judge u v w names arms n body other d e l =
    leaves_as (λ s. let r = arm_chosen names arms s in arm_run r.out (arm_body names arms r.out other) r.state) (arms_run names arms 0 other)
    (does_leaves run watched places judge u v w n (arm_chosen names arms) (λ m s. arm_run m (arm_body names arms m other) s) d
    (subst (λ (f : Standing → Standing). Leaves (run v) (run w) (watched v) (watched w) (places v) (places w) judge (arm_run n f)) (sym e) l))
    (λ s. arms_are names arms other s)

-- ---- arms whose tests didn't hold so far

pub record Passed {V : Type 0} (stands : V → Standing → Type 0) (lost : V → Bool) (old new : V) (names : Names) (all rest : ArmTrees) (i : ℕ) : Type 0 where
  pub before : lost new ≡ false → lost old ≡ false
  pub passes : lost new ≡ false → (s : Standing) → stands old s → (t : Standing) × (stands new t × (arm_chosen names all s ≡ (arm_chosen names rest t to (λ n. ran (i + n)))))

pub none_passed : {V : Type 0} (stands : V → Standing → Type 0) (lost : V → Bool) (v : V) (names : Names) (all rest : ArmTrees) → rest ≡ all → Passed stands lost v v names all rest 0
none_passed stands lost v names all rest e = record {
  before = λ l. l;
  passes = λ l s h.
      let r = arm_chosen names all s in
      let n : r.out ≡ 0 + r.out = omega arith in
      (s, (h, ap (λ (m : ℕ). ran m r.state) n ∙ ap (λ (as' : ArmTrees). arm_chosen names as' s to (λ n. ran (0 + n))) (sym e)));
}

here_or : (b : Bool) (x y : Ran Standing ℕ) → b ≡ true → (if b then x else y) ≡ x
here_or true x y e = refl
here_or false x y e = cc

later_or : (b : Bool) (x y : Ran Standing ℕ) → b ≡ false → (if b then x else y) ≡ y
later_or true x y e = cc
later_or false x y e = refl

dropped : {A : Type 0} (xs : List A) (i : ℕ) (x : A) → i < length xs → x ≡ get_or xs i x → drop i xs ≡ x ∷ drop (i + 1) xs
dropped {A = A} xs i x l h =
    let n : suc i ≡ i + 1 = omega arith in
    at xs i l h ∙ ap (λ (j : ℕ). x ∷ drop j xs) n
  where
    at : (ys : List A) (j : ℕ) → j < length ys → x ≡ get_or ys j x → drop j ys ≡ x ∷ drop (suc j) ys
    at [] j m e = absurd (omega (arith, m))
    at (y ∷ ys) zero m e = ap (λ z. z ∷ ys) (sym e)
    at (y ∷ ys) (suc j) m e = at ys j (omega (arith, m)) e

none_left : {A : Type 0} (xs : List A) (i : ℕ) → length xs ≤ i → drop i xs ≡ []
none_left [] zero l = refl
none_left [] (suc i) l = refl
none_left (x ∷ xs) zero l = absurd (omega (arith, l))
none_left (x ∷ xs) (suc i) l = none_left xs i (omega (arith, l))

rest_at : (xs : List StepArm) (i : ℕ) (x : StepArm) → i < length xs → x ≡ get_or xs i x
    → step_arm_trees (drop i xs) ≡ step_arm (test_tree x.test) (step_trees x.body) (step_arm_trees (drop (i + 1) xs))
rest_at xs i x l h = ap step_arm_trees (dropped xs i x l h) ∙ ap (λ (a : TestTree × StepTrees). step_arm a.0 a.1 (step_arm_trees (drop (i + 1) xs))) (arm_is x)

pub one_passed : {V : Type 0} (stands : V → Standing → Type 0) (lost : V → Bool) (u v w : V) (names : Names) (xs : List StepArm) (i : ℕ) (x : StepArm) (b : Bool) → i < length xs → x ≡ get_or xs i x
    → Passed stands lost u v names (step_arm_trees xs) (step_arm_trees (drop i xs)) i → Does stands lost v w b (test_value told names (test_tree x.test)) → b ≡ false
    → Passed stands lost u w names (step_arm_trees xs) (step_arm_trees (drop (i + 1) xs)) (i + 1)
one_passed stands lost u v w names xs i x b l h d e f = record {
  before = λ k. d.before (e.before k);
  passes = λ k s a.
      let p = d.passes (e.before k) s a in
      let t = p.0 in
      let q = e.runs k t p.1.0 in
      let more = step_arm_trees (drop (i + 1) xs) in
      let r = test_value told names (test_tree x.test) t in
      let c = arm_chosen names more r.state in
      let n : i + suc c.out ≡ (i + 1) + c.out = omega arith in (
        r.state,
        (
          q.1,
          p.1.1 ∙ ap (λ (as' : ArmTrees). arm_chosen names as' t to (λ n. ran (i + n))) (rest_at xs i x l h)
              ∙ ap (λ (y : Ran Standing ℕ). y to (λ n. ran (i + n))) (later_or r.out (ran 0 r.state) (c to (λ n. ran (suc n))) (sym q.0 ∙ f)) ∙ ap (λ (m : ℕ). ran m c.state) n,
        ),
      );
}

pub chosen_here : {V : Type 0} (stands : V → Standing → Type 0) (lost : V → Bool) (u v w : V) (names : Names) (xs : List StepArm) (i : ℕ) (x : StepArm) (b : Bool) → i < length xs → x ≡ get_or xs i x
    → Passed stands lost u v names (step_arm_trees xs) (step_arm_trees (drop i xs)) i → Does stands lost v w b (test_value told names (test_tree x.test)) → b ≡ true
    → Does stands lost u w i (arm_chosen names (step_arm_trees xs))
chosen_here stands lost u v w names xs i x b l h d e f = record {
  before = λ k. d.before (e.before k);
  runs = λ k s a.
      let p = d.passes (e.before k) s a in
      let t = p.0 in
      let q = e.runs k t p.1.0 in
      let r = test_value told names (test_tree x.test) t in
      let c = arm_chosen names (step_arm_trees (drop (i + 1) xs)) r.state in
      let n : i + 0 ≡ i = omega arith in
      let is : arm_chosen names (step_arm_trees xs) s ≡ ran i r.state = p.1.1 ∙ ap (λ (as' : ArmTrees). arm_chosen names as' t to (λ n. ran (i + n))) (rest_at xs i x l h)
      ∙ ap (λ (y : Ran Standing ℕ). y to (λ n. ran (i + n))) (here_or r.out (ran 0 r.state) (c to (λ n. ran (suc n))) (sym q.0 ∙ f)) ∙ ap (λ (m : ℕ). ran m r.state) n in
      rw is (refl, q.1);
}

pub chosen_none : {V : Type 0} (stands : V → Standing → Type 0) (lost : V → Bool) (u v : V) (names : Names) (xs : List StepArm) (i n : ℕ) → length xs ≤ i → i ≡ n
    → Passed stands lost u v names (step_arm_trees xs) (step_arm_trees (drop i xs)) i → Does stands lost u v n (arm_chosen names (step_arm_trees xs))
chosen_none stands lost u v names xs i n l j d = record {
  before = d.before;
  runs = λ k s a.
      let p = d.passes k s a in
      let m : i + 0 ≡ n = omega (arith, j) in
      let is : arm_chosen names (step_arm_trees xs) s ≡ ran n p.0 = p.1.1 ∙ ap (λ (as' : List StepArm). arm_chosen names (step_arm_trees as') p.0 to (λ n. ran (i + n))) (none_left xs i l) ∙ ap (λ (j : ℕ). ran j p.0) m in
      rw is (refl, p.1.0);
}
