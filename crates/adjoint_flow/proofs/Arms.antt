-- Loops over arms and over statements.
use Rattle.std.proofs.Common.{rules, ◌≡◌, ◌<◌, ◌≤◌, ℕ, ◌+◌, List, [], ◌∷◌, ◌++◌, length, drop, map, slice_index_or, Result, Ok, Err, IfOk, OnOk, IsOkAnd, ap, sym, ◌∙◌, arith, append_assoc, drop_of_length-le}
use Rattle.std.proofs.lemmas.List.{append-nil, at_drop_more, map-append}
use Rattle.fl_ast.specs.declared.stmt.Stmt.{Stmt, the_lemmas as stmt_lemmas}
use Rattle.fl_ast.specs.declared.stmt.Arm.{Arm}
use Rattle.fl_ast.specs.declared.adjoint.AStmt.{AStmt}
use Rattle.fl_ast.specs.declared.adjoint.AArm.{AArm}
use Rattle.fl_ast.specs.Tree.{Condition, Statements, cond_tree, stmt_tree, stmt_trees, arm_tree, arm_trees}
use Rattle.fl_ast.specs.AdjointTree.{AdjointStatement, AdjointStatements, adjoint_arms_of, adjoint_statements_of, astmt_tree, aarm_tree, aarm_trees}
use Rattle.adjoint_rules.specs.Scopes.{Scope}
use Rattle.adjoint_rules.specs.Forward.{forward_all, forward_arms, arm_number}
use Rattle.adjoint_rules.specs.Reverse.{backward, backward_all, backward_arms, is_arm}
use Rattle.adjoint_flow.proofs.Parts.{forward_arm_parts, forward_arms_are, backward_arm_parts, backward_arms_are, backward_parts}

pub on_ok : {A E : Type 0} {P Q : Type 0} (r : Result A E) → (P → Q) → OnOk r P → OnOk r Q
on_ok (Ok x) f h = f h
on_ok (Err e) f h = tt

arm_is : (a : Arm) → arm_tree a ≡ (cond_tree a.test, stmt_trees a.body)
arm_is a = search (rules, stmt_lemmas)

mapped : (old new : List AArm) (x : AArm) → new ≡ old ++ x ∷ [] → map aarm_tree new ≡ map aarm_tree old ++ aarm_tree x ∷ []
mapped old new x e = ap (map aarm_tree) e ∙ map-append aarm_tree old (x ∷ [])

-- an element more of a list that is made element by element
more : {X : Type 0} (done new rest : List X) (x : X) (left all : List X) → new ≡ done ++ x ∷ [] → left ≡ x ∷ rest → done ++ left ≡ all → new ++ rest ≡ all
more done new rest x left all m n e = ap (λ r. r ++ rest) m ∙ (append_assoc done (x ∷ []) rest ∙ (ap (λ r. done ++ r) (sym n) ∙ e))

pub forward_arm_more : {E F : Type 0} (scope : Scope) (line i : ℕ) (arms : List Arm) (a : Arm) (body : List Stmt) (made : Result (List AStmt) E) (ends : Result (List AStmt) F) (x : AArm) (old new : List AArm) (all : List (Condition × AdjointStatements))
    → i < length arms → a ≡ slice_index_or arms i a → body ≡ a.body
    → IfOk made (λ ss. map astmt_tree ss ≡ forward_all (stmt_trees body) scope)
    → IfOk ends (λ ss. IsOkAnd made (λ b. map astmt_tree ss ≡ map astmt_tree b ++ arm_number scope line i ∷ []))
    → IsOkAnd ends (λ s. aarm_tree x ≡ (cond_tree a.test, adjoint_statements_of (map astmt_tree s)))
    → new ≡ old ++ x ∷ []
    → map aarm_tree old ++ forward_arm_parts scope line i (drop i arms) ≡ all
    → map aarm_tree new ++ forward_arm_parts scope line (i + 1) (drop (i + 1) arms) ≡ all
forward_arm_more scope line i arms a body (Ok b) (Ok s) x old new all h at f p q r n e =
    let tree : aarm_tree x ≡ ((arm_tree a).0, adjoint_statements_of (forward_all (arm_tree a).1 scope ++ arm_number scope line i ∷ [])) =
    r ∙ (ap (λ t. (cond_tree a.test, adjoint_statements_of t)) (q ∙ ap (λ t. t ++ arm_number scope line i ∷ []) p)
    ∙ (ap (λ ss. (cond_tree a.test, adjoint_statements_of (forward_all (stmt_trees ss) scope ++ arm_number scope line i ∷ []))) f
    ∙ ap (λ (t : Condition × Statements). (t.0, adjoint_statements_of (forward_all t.1 scope ++ arm_number scope line i ∷ []))) (sym (arm_is a)))) in
    more (map aarm_tree old) (map aarm_tree new) (forward_arm_parts scope line (i + 1) (drop (i + 1) arms)) (aarm_tree x) (forward_arm_parts scope line i (drop i arms)) all
    (mapped old new x n)
    (at_drop_more (forward_arm_parts scope line i) arms i a h ∙ (ap (λ y. forward_arm_parts scope line i (y ∷ drop (i + 1) arms)) (sym at)
    ∙ ap (λ y. y ∷ forward_arm_parts scope line (i + 1) (drop (i + 1) arms)) (sym tree)))
    e
forward_arm_more scope line i arms a body (Err b) (Ok s) x old new all h at f p q r n e = absurd q
forward_arm_more scope line i arms a body made (Err s) x old new all h at f p q r n e = absurd r

pub backward_arm_more : {E : Type 0} (scope : Scope) (i : ℕ) (arms : List Arm) (a : Arm) (body : List Stmt) (made : Result (List AStmt) E) (x : AArm) (old new : List AArm) (all : List (Condition × AdjointStatements))
    → i < length arms → a ≡ slice_index_or arms i a → body ≡ a.body
    → IfOk made (λ ss. map astmt_tree ss ≡ backward_all (stmt_trees body) scope)
    → IsOkAnd made (λ s. aarm_tree x ≡ (is_arm i, adjoint_statements_of (map astmt_tree s)))
    → new ≡ old ++ x ∷ []
    → map aarm_tree old ++ backward_arm_parts scope i (drop i arms) ≡ all
    → map aarm_tree new ++ backward_arm_parts scope (i + 1) (drop (i + 1) arms) ≡ all
backward_arm_more scope i arms a body (Ok b) x old new all h at f p r n e =
    let tree : aarm_tree x ≡ (is_arm i, adjoint_statements_of (backward_all (arm_tree a).1 scope)) =
    r ∙ (ap (λ t. (is_arm i, adjoint_statements_of t)) p
    ∙ (ap (λ ss. (is_arm i, adjoint_statements_of (backward_all (stmt_trees ss) scope))) f
    ∙ ap (λ (t : Condition × Statements). (is_arm i, adjoint_statements_of (backward_all t.1 scope))) (sym (arm_is a)))) in
    more (map aarm_tree old) (map aarm_tree new) (backward_arm_parts scope (i + 1) (drop (i + 1) arms)) (aarm_tree x) (backward_arm_parts scope i (drop i arms)) all
    (mapped old new x n)
    (at_drop_more (backward_arm_parts scope i) arms i a h ∙ (ap (λ y. backward_arm_parts scope i (y ∷ drop (i + 1) arms)) (sym at)
    ∙ ap (λ y. y ∷ backward_arm_parts scope (i + 1) (drop (i + 1) arms)) (sym tree)))
    e
backward_arm_more scope i arms a body (Err b) x old new all h at f p r n e = absurd r

-- a loop over all arms
pub forward_arms_done : (scope : Scope) (line i : ℕ) (arms : List Arm) (all : List AArm) → length arms ≤ i
    → map aarm_tree all ++ forward_arm_parts scope line i (drop i arms) ≡ forward_arm_parts scope line 0 arms → aarm_trees all ≡ forward_arms (arm_trees arms) line 0 scope
forward_arms_done scope line i arms all h e =
    ap adjoint_arms_of (sym (append-nil (map aarm_tree all)) ∙ (ap (λ x. map aarm_tree all ++ forward_arm_parts scope line i x) (sym (drop_of_length-le arms h)) ∙ e)) ∙ forward_arms_are scope line 0 arms

pub backward_arms_done : (scope : Scope) (i : ℕ) (arms : List Arm) (all : List AArm) → length arms ≤ i
    → map aarm_tree all ++ backward_arm_parts scope i (drop i arms) ≡ backward_arm_parts scope 0 arms → aarm_trees all ≡ backward_arms (arm_trees arms) 0 scope
backward_arms_done scope i arms all h e =
    ap adjoint_arms_of (sym (append-nil (map aarm_tree all)) ∙ (ap (λ x. map aarm_tree all ++ backward_arm_parts scope i x) (sym (drop_of_length-le arms h)) ∙ e)) ∙ backward_arms_are scope 0 arms

-- the statement before those that were taken back
pub taken_back : (scope : Scope) (at before : ℕ) (ss : List Stmt) (s : Stmt) (old new : List AdjointStatement) → at ≡ before + 1 → at ≤ length ss → s ≡ slice_index_or ss before s
    → old ≡ backward_parts scope (drop at ss) → new ≡ old ++ backward (stmt_tree s) scope → new ≡ backward_parts scope (drop before ss)
taken_back scope at before ss s old new a h is o n =
    n ∙ (ap (λ x. x ++ backward (stmt_tree s) scope) (o ∙ ap (λ x. backward_parts scope (drop x ss)) a)
    ∙ (ap (λ x. backward_parts scope (x ∷ drop (before + 1) ss)) is
    ∙ sym (at_drop_more (backward_parts scope) ss before s (omega (arith, a, h)))))
