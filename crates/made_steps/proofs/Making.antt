-- Statements that are made one after another, and the trees that they are.
use Rattle.std.specs.Prelude.{◌≡◌, ℕ, suc, ◌+◌, ◌<◌, ◌≤◌, Bool, true, false, ◌&&◌, List, [], ◌∷◌, ◌++◌, map, length, Option}
use Rattle.std.proofs.Common.{ap, sym, ◌∙◌, subst, rules, get_or, drop, drop-cons, drop_of_length-le, add-one, append_assoc, append-nil}
use Rattle.std.proofs.lemmas.Bool.{and_parts}
use Rattle.fl_ast.specs.declared.directive.Directive.{Directive}
use Rattle.fl_ast.specs.Tree.{Condition, Statements, loop, arm}
use Rattle.fl_types.specs.Kinds.{Names as Known, has_scalar_privates, is_well_kinded_head, is_well_kinded_condition, is_well_kinded_statement, are_well_kinded_statements, are_well_kinded_arms}
use Rattle.store_core.specs.declared.layout.Shape.{Shape}
use Rattle.meaning.specs.Sites.{Site}
use Rattle.resolved.specs.SlotTables.{Names}
use Rattle.resolved.specs.declared.resolved.ResolvedHead.{ResolvedHead}
use Rattle.resolved.specs.declared.resolved.ResolvedStmt.{ResolvedStmt}
use Rattle.resolved.specs.declared.resolved.ResolvedStmt.TheVariants as stmts
use Rattle.resolved.specs.declared.resolved.ResolvedArm.{ResolvedArm}
use Rattle.resolved.specs.ResolvedExprs.{slot_name, expression_back, condition_back}
use Rattle.resolved.specs.ResolvedStmts.{option_back, statement_back, statements_back, arms_back, is_arm_fit, are_arms_fit}
use Rattle.resolved.proofs.Slots.{do_back, one_arm_back}
use Rattle.sweep_trees.specs.Split.{TestTree, test_tree}
use Rattle.split_trees.specs.Codes.{TestStandsFor}
use Rattle.sweep_steps.specs.declared.step.Store.{Store}
use Rattle.sweep_steps.specs.declared.step.Around.{Around}
use Rattle.sweep_steps.specs.declared.step.Flow.{the_lemmas as flow_lemmas}
use Rattle.sweep_steps.specs.declared.step.Flow.TheVariants as flow
use Rattle.sweep_steps.specs.Steps.{Step, StepArm, StepTrees, no_steps, store_step, loop_step, step_arm, no_step_arms, store_tree, around_tree, step_tree, step_trees, arm_tree, step_arm_trees}
use Rattle.sweep_steps.specs.StepsStand.{flags_at, AllStand, ArmsStand}
use Rattle.loop_scopes.specs.Scopes.{IsScope, IsOutside}

-- ---- trees

pub store_is : (s : Store) → step_tree (flow.Store s) ≡ store_step (store_tree s)
store_is s = search (rules, flow_lemmas)

pub loop_is : (line : ℕ) (around : Around) (body : List Step) → step_tree (flow.Loop line around body) ≡ loop_step line (around_tree around) (step_trees body)
loop_is line around body = search (rules, flow_lemmas)

arm_is : (a : StepArm) → arm_tree a ≡ (test_tree a.test, step_trees a.body)
arm_is a = search (rules, flow_lemmas)

-- ---- lists that are made one by one

pub pushed_front : {A : Type 0} (old new rest : List A) (x : A) → new ≡ old ++ x ∷ [] → new ++ rest ≡ old ++ x ∷ rest
pushed_front old new rest x e = ap (λ r. r ++ rest) e ∙ append_assoc old (x ∷ []) rest

dropped : {A : Type 0} (xs : List A) (i : ℕ) (x : A) → i < length xs → x ≡ get_or xs i x → drop i xs ≡ x ∷ drop (i + 1) xs
dropped xs i x l h = rw add-one (drop-cons xs i x l ∙ ap (λ y. y ∷ drop (suc i) xs) (sym h))

pub all_stand : (names : Names) (site : Site) (xs : List ResolvedStmt) (i : ℕ) (made : List Step) → length xs ≤ i
    → ((rest : List Step) → AllStand names site (step_trees rest) (statements_back names.0 (drop i xs)) → AllStand names site (step_trees (made ++ rest)) (statements_back names.0 xs))
    → AllStand names site (step_trees made) (statements_back names.0 xs)
all_stand names site xs i made l f =
    subst (λ ss. AllStand names site (step_trees ss) (statements_back names.0 xs)) (append-nil made)
    (f [] (subst (λ ys. AllStand names site no_steps (statements_back names.0 ys)) (sym (drop_of_length-le xs l)) tt))

pub all_arms_stand : (names : Names) (site : Site) (xs : List ResolvedArm) (i : ℕ) (made : List StepArm) → length xs ≤ i
    → ((rest : List StepArm) → ArmsStand names site (step_arm_trees rest) (arms_back names.0 (drop i xs)) → ArmsStand names site (step_arm_trees (made ++ rest)) (arms_back names.0 xs))
    → ArmsStand names site (step_arm_trees made) (arms_back names.0 xs)
all_arms_stand names site xs i made l f =
    subst (λ as'. ArmsStand names site (step_arm_trees as') (arms_back names.0 xs)) (append-nil made)
    (f [] (subst (λ ys. ArmsStand names site no_step_arms (arms_back names.0 ys)) (sym (drop_of_length-le xs l)) tt))

-- ---- arms

pub arms_fit : (names : Names) (xs : List ResolvedArm) (i : ℕ) (x : ResolvedArm) → i < length xs → x ≡ get_or xs i x → are_arms_fit names (drop i xs) ≡ true
    → (is_arm_fit names x ≡ true) × (are_arms_fit names (drop (i + 1) xs) ≡ true)
arms_fit names xs i x l g h = and_parts (is_arm_fit names x) (are_arms_fit names (drop (i + 1) xs)) (ap (are_arms_fit names) (sym (dropped xs i x l g)) ∙ h)

pub arms_are : (shapes : List Shape) (xs : List ResolvedArm) (i : ℕ) (x : ResolvedArm) → i < length xs → x ≡ get_or xs i x
    → arms_back shapes (drop i xs) ≡ arm (condition_back shapes x.test) (statements_back shapes x.body) (arms_back shapes (drop (i + 1) xs))
arms_are shapes xs i x l g =
    ap (arms_back shapes) (dropped xs i x l g) ∙ ap (λ (p : Condition × Statements). arm p.0 p.1 (arms_back shapes (drop (i + 1) xs))) (one_arm_back shapes x)

-- an arm that is well kinded, and those after it
pub arms_kinded : (known : Known) (shapes : List Shape) (xs : List ResolvedArm) (i : ℕ) (x : ResolvedArm) → i < length xs → x ≡ get_or xs i x → are_well_kinded_arms known (arms_back shapes (drop i xs)) ≡ true
    → (is_well_kinded_condition known (condition_back shapes x.test) ≡ true) × (are_well_kinded_statements known (statements_back shapes x.body) ≡ true)
    × (are_well_kinded_arms known (arms_back shapes (drop (i + 1) xs)) ≡ true)
arms_kinded known shapes xs i x l g h =
    let test = is_well_kinded_condition known (condition_back shapes x.test) in
    let body = are_well_kinded_statements known (statements_back shapes x.body) in
    let rest = are_well_kinded_arms known (arms_back shapes (drop (i + 1) xs)) in
    let p = and_parts test (body && rest) (ap (are_well_kinded_arms known) (sym (arms_are shapes xs i x l g)) ∙ h) in
    let q = and_parts body rest p.1 in
    (p.0, q.0, q.1)

-- an arm more
pub arm_stands : (names : Names) (site : Site) (xs : List ResolvedArm) (i : ℕ) (x : ResolvedArm) (made : StepArm) (rest : List StepArm) → i < length xs → x ≡ get_or xs i x
    → TestStandsFor names (flags_at names site) (condition_back names.0 x.test) (test_tree made.test) → AllStand names site (step_trees made.body) (statements_back names.0 x.body)
    → ArmsStand names site (step_arm_trees rest) (arms_back names.0 (drop (i + 1) xs)) → ArmsStand names site (step_arm_trees (made ∷ rest)) (arms_back names.0 (drop i xs))
arm_stands names site xs i x made rest l g t b r =
    subst (λ as'. ArmsStand names site (step_arm_trees (made ∷ rest)) as') (sym (arms_are names.0 xs i x l g))
    (subst (λ (p : TestTree × StepTrees). ArmsStand names site (step_arm p.0 p.1 (step_arm_trees rest)) (arm (condition_back names.0 x.test) (statements_back names.0 x.body) (arms_back names.0 (drop (i + 1) xs)))) (sym (arm_is made))
    (t, b, r))

-- ---- loops

-- the loop that a resolved one stands for, its directive and its body being these
pub do_is : (shapes : List Shape) (stmt : ResolvedStmt) (line number : ℕ) (directive given : Option Directive) (head : ResolvedHead) (body inside : List ResolvedStmt) → stmt ≡ stmts.Do line number directive head body
    → directive ≡ given → inside ≡ body
    → statement_back shapes stmt
    ≡ loop line number given (slot_name shapes head.variable) (expression_back shapes head.first) (expression_back shapes head.last) (option_back shapes head.step) (statements_back shapes inside)
do_is shapes stmt line number directive given head body inside e d b =
    do_back shapes stmt line number directive head body e
    ∙ ap (λ o. loop line number o (slot_name shapes head.variable) (expression_back shapes head.first) (expression_back shapes head.last) (option_back shapes head.step) (statements_back shapes body)) d
    ∙ ap (λ ss. loop line number given (slot_name shapes head.variable) (expression_back shapes head.first) (expression_back shapes head.last) (option_back shapes head.step) (statements_back shapes ss)) (sym b)

-- its head and its body are well kinded
pub do_kinded : (known : Known) (shapes : List Shape) (stmt : ResolvedStmt) (line number : ℕ) (directive : Option Directive) (head : ResolvedHead) (body : List ResolvedStmt) → stmt ≡ stmts.Do line number directive head body
    → is_well_kinded_statement known (statement_back shapes stmt) ≡ true
    → (is_well_kinded_head known (slot_name shapes head.variable) (expression_back shapes head.first) (expression_back shapes head.last) (option_back shapes head.step) ≡ true)
    × (are_well_kinded_statements known (statements_back shapes body) ≡ true)
do_kinded known shapes stmt line number directive head body e h =
    let of_head = is_well_kinded_head known (slot_name shapes head.variable) (expression_back shapes head.first) (expression_back shapes head.last) (option_back shapes head.step) in
    let inside = are_well_kinded_statements known (statements_back shapes body) in
    let p = and_parts of_head (has_scalar_privates known directive && inside) (ap (is_well_kinded_statement known) (sym (do_back shapes stmt line number directive head body e)) ∙ h) in
    (p.0, (and_parts (has_scalar_privates known directive) inside p.1).1)

-- ---- outside of loops

pub outside_scope : (names : Names) (pushed accessed reduced : List Bool) (shapes : List Shape) (outer : List (List ℕ)) (site : Site) → shapes ≡ names.0 → accessed ≡ map (λ (s : Shape). false) shapes
    → reduced ≡ map (λ (s : Shape). false) shapes → outer ≡ [] → IsOutside names pushed site → IsScope names pushed accessed reduced outer site
outside_scope names pushed accessed reduced shapes outer site e a r o s =
    let m : map (λ (s : Shape). false) shapes ≡ map (λ (s : Shape). false) names.0 = ap (map (λ (s : Shape). false)) e in
    record { declares = s.declares; kinds = s.kinds; pushes = s.pushes; accesses = s.accesses ∙ sym (a ∙ m); reduces = s.reduces ∙ sym (r ∙ m); loops = s.loops ∙ sym o }
