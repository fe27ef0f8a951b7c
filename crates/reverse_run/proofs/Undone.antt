-- Statements that are undone: choices, iterations, and parallel loops.
use Rattle.std.specs.Prelude.{◌≡◌, ◌<◌, ◌≤◌, ◌%◌, ◌^◌, ℕ, zero, suc, Bool, true, false, List, [], ◌∷◌, length, slice_index_or, Option, Some, None, is_some, refl}
use Rattle.std.proofs.Common.{rules, ap, sym, subst, ◌∙◌, arith}
use Rattle.std.proofs.lemmas.Bool.{and_parts}
use Rattle.resolved.specs.SlotTables.{Names}
use Rattle.transposition.specs.Tapes.{tape_at, top_tapes}
use Rattle.transposition.specs.Worlds.{Local}
use Rattle.sweep_steps.specs.declared.step.PrivateScalar.{PrivateScalar}
use Rattle.sweep_steps.specs.declared.step.Flow.{the_lemmas as flow_lemmas}
use Rattle.sweep_steps.specs.declared.step.Flow.TheVariants as flow
use Rattle.undo_steps.specs.UndoSteps.{UndoStep, UndoArm, undo_choice, UndoTrees, undo_tree, undo_trees, undo_arm_tree, undo_arm_trees}
use Rattle.reverse_sweep.specs.Reversing.{Stage, Reversing, reversing, on_tape, popped}
use Rattle.reverse_sweep.specs.Machine.{Counts, undo_run, undos_run, arm_run, variables_set, privates_refilled, privates_cleared, opened_sums, closed_sums, count_of, iteration_undone, iterations_undone, parallel_undone}
use Rattle.reverse_state.specs.Holding.{Held, Home, home_of, local_of, HasStage, Stands, Keeps, KeepsStage, Gives, Leaves, word_taken, on_stage, Enters, Begins, Quits}
use Rattle.reverse_state.proofs.Joining.{gives_leaves, leaves_both, leaves_by}
use Rattle.reverse_run.specs.Undoing.{is_flat, are_flat, are_arms_flat, is_within, counts_taken, Works}

choice_is : (line : ℕ) (arms : List UndoArm) (other : List UndoStep) → undo_tree (flow.If line arms other) ≡ undo_choice (undo_arm_trees arms) (undo_trees other)
choice_is line arms other = search (rules, flow_lemmas)

arm_is : (a : UndoArm) → undo_arm_tree a ≡ undo_trees a.body
arm_is a = search (rules, flow_lemmas)

-- ---- flat statements

flat_at : (n : ℕ) (inside : Bool) (xs : List UndoStep) (i : ℕ) (x : UndoStep) → are_flat n inside (undo_trees xs) ≡ true → i < length xs → x ≡ slice_index_or xs i x → is_flat n inside (undo_tree x) ≡ true
flat_at n inside [] i x f h e = absurd (omega (arith, h))
flat_at n inside (y ∷ xs) zero x f h e = rw e (and_parts (is_flat n inside (undo_tree y)) (are_flat n inside (undo_trees xs)) f).0
flat_at n inside (y ∷ xs) (suc i) x f h e = flat_at n inside xs i x (and_parts (is_flat n inside (undo_tree y)) (are_flat n inside (undo_trees xs)) f).1 (omega (arith, h)) e

pub step_flat : (u v : Held) (xs : List UndoStep) (i : ℕ) (x : UndoStep) → (u.lost ≡ false → are_flat u.shared (is_within u) (undo_trees xs) ≡ true) → (v.lost ≡ false → u.lost ≡ false) → (v.lost ≡ false → Keeps u v)
    → i < length xs → x ≡ slice_index_or xs i x → v.lost ≡ false → is_flat v.shared (is_within v) (undo_tree x) ≡ true
step_flat u v xs i x f b k h e l =
    let m = k l in
    rw (m.shared, m.home) (flat_at u.shared (is_within u) xs i x (f (b l)) h e)

arms_flat_at : (n : ℕ) (inside : Bool) (arms : List UndoArm) (i : ℕ) (a : UndoArm) → are_arms_flat n inside (undo_arm_trees arms) ≡ true → i < length arms → a ≡ slice_index_or arms i a → are_flat n inside (undo_trees a.body) ≡ true
arms_flat_at n inside [] i a f h e = absurd (omega (arith, h))
arms_flat_at n inside (b ∷ arms) zero a f h e = rw (e, sym (arm_is b)) (and_parts (are_flat n inside (undo_arm_tree b)) (are_arms_flat n inside (undo_arm_trees arms)) f).0
arms_flat_at n inside (b ∷ arms) (suc i) a f h e = arms_flat_at n inside arms i a (and_parts (are_flat n inside (undo_arm_tree b)) (are_arms_flat n inside (undo_arm_trees arms)) f).1 (omega (arith, h)) e

pub arm_flat : (u v : Held) (x : UndoStep) (line : ℕ) (arms : List UndoArm) (other : List UndoStep) (i : ℕ) (a : UndoArm) → x ≡ flow.If line arms other → (u.lost ≡ false → is_flat u.shared (is_within u) (undo_tree x) ≡ true)
    → (v.lost ≡ false → u.lost ≡ false) → (v.lost ≡ false → Keeps u v) → i < length arms → a ≡ slice_index_or arms i a → v.lost ≡ false → are_flat v.shared (is_within v) (undo_trees a.body) ≡ true
arm_flat u v x line arms other i a q f b k h e l =
    let m = k l in
    let g : is_flat u.shared (is_within u) (undo_choice (undo_arm_trees arms) (undo_trees other)) ≡ true = subst (λ t. is_flat u.shared (is_within u) t ≡ true) (ap undo_tree q ∙ choice_is line arms other) (f (b l)) in
    rw (m.shared, m.home) (arms_flat_at u.shared (is_within u) arms i a (and_parts (are_arms_flat u.shared (is_within u) (undo_arm_trees arms)) (are_flat u.shared (is_within u) (undo_trees other)) g).0 h e)

-- ---- choices

arm_run_at : (names : Names) (n : ℕ) (arms : List UndoArm) (f : Reversing → Reversing) (i : ℕ) (a : UndoArm) (s : Reversing) → i < length arms → a ≡ slice_index_or arms i a
    → arm_run names n (undo_arm_trees arms) f i s ≡ undos_run names n (undo_trees a.body) s
arm_run_at names n [] f i a s h e = absurd (omega (arith, h))
arm_run_at names n (b ∷ arms) f zero a s h e = rw (e, sym (arm_is b)) refl
arm_run_at names n (b ∷ arms) f (suc i) a s h e = arm_run_at names n arms f i a s (omega (arith, h)) e

arm_run_past : (names : Names) (n : ℕ) (arms : List UndoArm) (f : Reversing → Reversing) (i : ℕ) (s : Reversing) → length arms ≤ i → arm_run names n (undo_arm_trees arms) f i s ≡ f s
arm_run_past names n [] f i s h = refl
arm_run_past names n (b ∷ arms) f zero s h = absurd (omega (arith, h))
arm_run_past names n (b ∷ arms) f (suc i) s h = arm_run_past names n arms f i s (omega (arith, h))

chosen : (u v w : Held) (names : Names) (x : UndoStep) (line : ℕ) (arms : List UndoArm) (other : List UndoStep) (i : ℕ) → x ≡ flow.If line arms other → Gives u v i word_taken
    → Leaves v w (arm_run names v.shared (undo_arm_trees arms) (undos_run names v.shared (undo_trees other)) i) → Leaves u w (undo_run names u.shared (undo_tree x))
chosen u v w names x line arms other i q d e =
    subst (λ t. Leaves u w (undo_run names u.shared t)) (sym (ap undo_tree q ∙ choice_is line arms other))
    (gives_leaves {u = u} {v = v} {w = w} (λ n. word_taken) (λ n j. arm_run names n (undo_arm_trees arms) (undos_run names n (undo_trees other)) j) d e)

pub arm_chosen : (u v w : Held) (names : Names) (x : UndoStep) (line : ℕ) (arms : List UndoArm) (other : List UndoStep) (i : ℕ) (a : UndoArm) → x ≡ flow.If line arms other → i < length arms → a ≡ slice_index_or arms i a
    → Gives u v i word_taken → Leaves v w (undos_run names v.shared (undo_trees a.body)) → Leaves u w (undo_run names u.shared (undo_tree x))
arm_chosen u v w names x line arms other i a q h e d b =
    chosen u v w names x line arms other i q d (leaves_by (λ s. sym (arm_run_at names v.shared arms (undos_run names v.shared (undo_trees other)) i a s h e)) b)

pub other_chosen : (u v w : Held) (names : Names) (x : UndoStep) (line : ℕ) (arms : List UndoArm) (other : List UndoStep) (i : ℕ) → x ≡ flow.If line arms other → length arms ≤ i
    → Gives u v i word_taken → Leaves v w (undos_run names v.shared (undo_trees other)) → Leaves u w (undo_run names u.shared (undo_tree x))
other_chosen u v w names x line arms other i q h d b =
    chosen u v w names x line arms other i q d (leaves_by (λ s. sym (arm_run_past names v.shared arms (undos_run names v.shared (undo_trees other)) i s h)) b)

-- ---- iterations

stage_kept : (old new : Held) (g : Stage) → KeepsStage old new → HasStage old g → HasStage new g
stage_kept old new g k h = record { cells = h.cells ∙ sym k.cells; sums = h.sums ∙ sym k.sums; adds = h.adds ∙ sym (ap (λ (n : ℕ). n % 2 ^ 64) k.adds) }

pub iteration_worked : (u v w x y : Held) (names : Names) (counts : Counts) (k : ℕ) (ps : List PrivateScalar) (qs : List ℕ) (us : UndoTrees) → Begins k u v
    → Leaves v w (λ s. reversing (privates_cleared v.shared ps (privates_refilled v.shared ps (variables_set v.shared counts k s.local))) (opened_sums v.shared qs s.stage))
    → Leaves w x (undos_run names w.shared us) → Leaves x y (on_stage (closed_sums x.shared qs))
    → Works u y (λ m g. (iteration_undone u.shared ps qs counts m.tapes (undos_run names u.shared us) m.entry k g).stage)
iteration_worked u v w x y names counts k ps qs us b p d e =
    let L : Leaves v y (λ s. on_stage (closed_sums v.shared qs) (undos_run names v.shared us (reversing (privates_cleared v.shared ps (privates_refilled v.shared ps (variables_set v.shared counts k s.local))) (opened_sums v.shared qs s.stage)))) =
    leaves_both {u = v} {v = w} {w = y} (λ n s. reversing (privates_cleared n ps (privates_refilled n ps (variables_set n counts k s.local))) (opened_sums n qs s.stage)) (λ n s. on_stage (closed_sums n qs) (undos_run names n us s)) p
    (leaves_both {u = w} {v = x} {w = y} (λ n. undos_run names n us) (λ n. on_stage (closed_sums n qs)) d e)
    in
    let at : y.lost ≡ false → (m : Home) → home_of u ≡ Some m → (g : Stage) → HasStage u g → Stands y (iteration_undone u.shared ps qs counts m.tapes (undos_run names u.shared us) m.entry k g) = λ l m h g c.
    subst (λ n. Stands y (iteration_undone n ps qs counts m.tapes (undos_run names n us) m.entry k g)) b.stage.shared
    (L.leaves l (reversing (on_tape (tape_at m.tapes k) m.entry) g) (record { local = sym (b.local m h); stage = stage_kept u v g b.stage c }))
    in
    record {
      before = λ l. sym b.stage.lost ∙ L.before l;
      keeps = λ l. record { shared = (L.keeps l).shared ∙ b.stage.shared; home = (L.keeps l).home ∙ b.home };
      stage = λ l m h g c. (at l m h g c).stage;
    }

outside_home : (o : Option Home) → is_some o ≡ false → o ≡ None
outside_home None e = refl
outside_home (Some m) e = cc

abbrev home_from : Local → Home
home_from l = record { tapes = top_tapes l.tape; entry = popped l }

pub loop_worked : (u v w x y : Held) (names : Names) (places : List (Option ℕ)) (counts : Counts) (ps : List PrivateScalar) (qs : List ℕ) (us : UndoTrees) → (u.lost ≡ false → is_within u ≡ false)
    → Gives u v counts (counts_taken places) → Enters v w
    → Works w x (λ m. iterations_undone (count_of counts) (iteration_undone w.shared ps qs counts m.tapes (undos_run names w.shared us) m.entry)) → Quits x y
    → Leaves u y (parallel_undone u.shared places ps qs (undos_run names u.shared us))
loop_worked u v w x y names places counts ps qs us out d e f q =
    let lx : y.lost ≡ false → x.lost ≡ false = λ l. sym q.stage.lost ∙ l in
    let lv : y.lost ≡ false → v.lost ≡ false = λ l. sym e.stage.lost ∙ f.before (lx l) in
    let shared : (l : y.lost ≡ false) → w.shared ≡ u.shared = λ l. e.stage.shared ∙ (d.keeps (lv l)).shared in
    record {
      before = λ l. d.before (lv l);
      keeps = λ l. record {
        shared = q.stage.shared ∙ ((f.keeps (lx l)).shared ∙ shared l);
        home = q.home ∙ sym (outside_home (home_of u) (out (d.before (lv l))));
      };
      leaves = λ l s h.
          let r = d.runs (lv l) s h in
          let g : Stage = s.stage in
          let m : Home = home_from (local_of v) in
          let c : HasStage w g = stage_kept v w g e.stage r.1.stage in
          let a : Stands y (reversing m.entry (iterations_undone (count_of counts) (iteration_undone w.shared ps qs counts m.tapes (undos_run names w.shared us) m.entry) g)) = record {
            local = sym (q.local m ((f.keeps (lx l)).home ∙ e.home));
            stage = stage_kept x y (iterations_undone (count_of counts) (iteration_undone w.shared ps qs counts m.tapes (undos_run names w.shared us) m.entry) g) q.stage (f.stage (lx l) m e.home g c);
          } in
          let b = subst (λ n. Stands y (reversing m.entry (iterations_undone (count_of counts) (iteration_undone n ps qs counts m.tapes (undos_run names n us) m.entry) g))) (shared l) a in
          let i = subst (λ p. Stands y (reversing (home_from p).entry (iterations_undone (count_of counts) (iteration_undone u.shared ps qs counts (home_from p).tapes (undos_run names u.shared us) (home_from p).entry) g))) (sym r.1.local) b in
          let p = (counts_taken places s).state.local in
          subst (λ z. Stands y (reversing (home_from p).entry (iterations_undone (count_of z) (iteration_undone u.shared ps qs z (home_from p).tapes (undos_run names u.shared us) (home_from p).entry) g))) r.0 i;
    }
