-- Statements of reverse sweeps that are made one after another, and the trees that they are.
use Rattle.std.specs.Prelude.{◌≡◌, ℕ, ◌+◌, ◌<◌, ◌≤◌, Bool, false, List, [], ◌∷◌, ◌++◌, map, length, None}
use Rattle.std.proofs.Common.{sym, subst, rules, get_or, drop, drop_of_length-le, append-nil}
use Rattle.fl_ast.specs.Tree.{arm}
use Rattle.store_core.specs.declared.layout.Shape.{Shape}
use Rattle.resolved.specs.SlotTables.{Names}
use Rattle.resolved.specs.declared.resolved.ResolvedStmt.{ResolvedStmt}
use Rattle.resolved.specs.declared.resolved.ResolvedArm.{ResolvedArm}
use Rattle.resolved.specs.ResolvedExprs.{condition_back}
use Rattle.resolved.specs.ResolvedStmts.{statements_back, arms_back}
use Rattle.sweep_steps.specs.declared.step.Flow.{the_lemmas as flow_lemmas}
use Rattle.sweep_steps.specs.declared.step.Flow.TheVariants as flow
use Rattle.transposition.specs.Worlds.{World}
use Rattle.undo_steps.specs.declared.undo.Undo.{Undo}
use Rattle.undo_steps.specs.declared.undo.UndoAround.{UndoAround}
use Rattle.undo_steps.specs.UndoSteps.{UndoStep, UndoArm, UndoTrees, no_undos, undo_store, undo_loop, undo_arm, no_undo_arms, undo_store_tree, around_undo, undo_tree, undo_trees, undo_arm_tree, undo_arm_trees}
use Rattle.undo_steps.specs.UndosStand.{AllUndoStand, UndoArmsStand}
use Rattle.made_steps.proofs.Making.{arms_are, outside_scope}
use Rattle.made_growths.specs.Told.{Told}
use Rattle.made_undos.specs.UndoScopes.{IsUndoScope, IsUndoOutside}

-- ---- trees

abbrev store_of : Undo → UndoStep
store_of u = flow.Store u

abbrev loop_of : ℕ → UndoAround → List UndoStep → UndoStep
loop_of line around body = flow.Loop line around body

pub store_is : (u : Undo) → undo_tree (store_of u) ≡ undo_store (undo_store_tree u)
store_is u = search (rules, flow_lemmas)

pub loop_is : (line : ℕ) (around : UndoAround) (body : List UndoStep) → undo_tree (loop_of line around body) ≡ undo_loop (around_undo around) (undo_trees body)
loop_is line around body = search (rules, flow_lemmas)

arm_is : (a : UndoArm) → undo_arm_tree a ≡ undo_trees a.body
arm_is a = search (rules, flow_lemmas)

-- ---- lists that are made one by one

pub all_undone : (names : Names) (w : World) (xs : List ResolvedStmt) (i : ℕ) (made : List UndoStep) → length xs ≤ i
    → ((rest : List UndoStep) → AllUndoStand names w (undo_trees rest) (statements_back names.0 (drop i xs)) → AllUndoStand names w (undo_trees (made ++ rest)) (statements_back names.0 xs))
    → AllUndoStand names w (undo_trees made) (statements_back names.0 xs)
all_undone names w xs i made l f =
    subst (λ us. AllUndoStand names w (undo_trees us) (statements_back names.0 xs)) (append-nil made)
    (f [] (subst (λ ys. AllUndoStand names w no_undos (statements_back names.0 ys)) (sym (drop_of_length-le xs l)) tt))

pub all_arms_undone : (names : Names) (w : World) (xs : List ResolvedArm) (i : ℕ) (made : List UndoArm) → length xs ≤ i
    → ((rest : List UndoArm) → UndoArmsStand names w (undo_arm_trees rest) (arms_back names.0 (drop i xs)) → UndoArmsStand names w (undo_arm_trees (made ++ rest)) (arms_back names.0 xs))
    → UndoArmsStand names w (undo_arm_trees made) (arms_back names.0 xs)
all_arms_undone names w xs i made l f =
    subst (λ as'. UndoArmsStand names w (undo_arm_trees as') (arms_back names.0 xs)) (append-nil made)
    (f [] (subst (λ ys. UndoArmsStand names w no_undo_arms (arms_back names.0 ys)) (sym (drop_of_length-le xs l)) tt))

-- an arm more
pub arm_undone : (names : Names) (w : World) (xs : List ResolvedArm) (i : ℕ) (x : ResolvedArm) (made : UndoArm) (rest : List UndoArm) → i < length xs → x ≡ get_or xs i x
    → AllUndoStand names w (undo_trees made.body) (statements_back names.0 x.body)
    → UndoArmsStand names w (undo_arm_trees rest) (arms_back names.0 (drop (i + 1) xs)) → UndoArmsStand names w (undo_arm_trees (made ∷ rest)) (arms_back names.0 (drop i xs))
arm_undone names w xs i x made rest l g b r =
    subst (λ as'. UndoArmsStand names w (undo_arm_trees (made ∷ rest)) as') (sym (arms_are names.0 xs i x l g))
    (subst (λ (us : UndoTrees). UndoArmsStand names w (undo_arm us (undo_arm_trees rest)) (arm (condition_back names.0 x.test) (statements_back names.0 x.body) (arms_back names.0 (drop (i + 1) xs)))) (sym (arm_is made))
    (b, r))

-- ---- outside of loops

pub outside_undo : (names : Names) (t : Told) (accessed reduced : List Bool) (shapes : List Shape) (outer : List (List ℕ)) (w : World) → shapes ≡ names.0 → accessed ≡ map (λ (s : Shape). false) shapes
    → reduced ≡ map (λ (s : Shape). false) shapes → outer ≡ [] → IsUndoOutside names t w → IsUndoScope names t accessed reduced None outer w
outside_undo names t accessed reduced shapes outer w e a r o s =
    record { scope = outside_scope names t.pushed accessed reduced shapes outer w.site e a r o s.scope; growing = s.growing; choosing = s.choosing; sharing = s.sharing }
