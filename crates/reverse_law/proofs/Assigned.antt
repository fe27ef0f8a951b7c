-- Assignments are undone as the trees for them play.
use Rattle.std.proofs.Common.{◌≡◌, ℕ, List, [], ◌∷◌, map, refl, ap, sym, ◌∙◌, subst, Bool, true, false, cond, Option, Some, None}
use Rattle.std.specs.Prelude.{if◌then◌else◌}
use Rattle.std.specs.List.{list_all}
use Rattle.std.proofs.lemmas.Bool.{and_parts}
use Rattle.ring_core.specs.Ring.{ring_add, ring_sub, ring_mul}
use Rattle.fl_ast.specs.Tree.{Expression, Designator}
use Rattle.fl_types.specs.Increment.{Signed, increment_terms}
use Rattle.operations.specs.Tree.{done, ◌giving◌}
use Rattle.meaning.specs.Values.{as_dual, whole_numbers}
use Rattle.meaning.specs.Sites.{place_of}
use Rattle.resolved.specs.SlotTables.{Names}
use Rattle.transposition.specs.Tapes.{top}
use Rattle.transposition.specs.Worlds.{World, Local, at_place, adjoint_load, adjoint_store, value_store, value_increment, adjoint_increment}
use Rattle.transposition.specs.Reads.{value_tree, values_tree, holds_tree, place_tree}
use Rattle.transposition.specs.Spread.{Factor, Occurrence, occurrences, factor_tree, product_tree, with_sign, one_increment, increments}
use Rattle.transposition.specs.Back.{after_pop, adjoint_tree, adjoint_move, value_restoration, rest_tree, increment_reversal, rest_occurrences, assignment_back}
use Rattle.sweep_trees.specs.Split.{SpotTree}
use Rattle.sweep_trees.specs.Standing.{ring_back, test_back, is_widened, is_ring_fit}
use Rattle.sweep_steps.specs.Steps.{TermTree}
use Rattle.sweep_steps.specs.StepsStand.{signed_back}
use Rattle.sweep_evaluation.specs.Machine.{Ran, spot_place, ring_value, test_value}
use Rattle.undo_steps.specs.UndoSteps.{FactorTree, operand_factor, either_factor, GrowthTree, UndoStore, undo_plain, undo_increment}
use Rattle.undo_steps.specs.UndosStand.{unwatched, is_any_kind, SpotUndoes, factor_back, is_factor_fit, GrowthStands, EachGrowthStands, GrowthsStand, ReversalStands, UndoStoreStands}
use Rattle.reverse_sweep.specs.Reversing.{Stage, popped, told, adjoint_loaded, adjoint_stored, value_grown, adjoint_grown}
use Rattle.reverse_sweep.specs.Machine.{factor_value, product, signed, growth_run, growths_run, target_adjoint, cleared, restored_from, restored, plain_run, rest_sum, reversed_by, spread_run, undo_store_run}
use Rattle.reverse_law.specs.Reverse.{IsNamed}
use Rattle.reverse_law.proofs.Going.{go, go_giving}
use Rattle.reverse_law.proofs.Evaluating.{Evaluates, eval_done, eval_then, eval_map, IsSame, IsWord}
use Rattle.reverse_law.proofs.Expressions.{at_place as at_spot, at_ring, at_test}
use Rattle.reverse_law.proofs.Landing.{IsPlaced, name_placed, LandsAt, lands_done, lands_then, lands_both, lands_nested, eval_adjoint, lands_value, lands_adjoint, lands_value_grown, lands_adjoint_grown}

at_target : (names : Names) (w : World) → IsNamed names w.site → (l : Local) (p : Designator) (target : SpotTree) → SpotUndoes names p target → Evaluates l (place_tree p w l) IsSame (spot_place (told w.shared) names target)
at_target names w s l p target h = subst (λ (q : Designator). Evaluates l (place_tree q w l) IsSame (spot_place (told w.shared) names target)) h.back (at_spot names w s l is_any_kind target h.fit)

-- ---- increments of adjoints

at_factor : (names : Names) (w : World) → IsNamed names w.site → (l : Local) (f : FactorTree) → is_factor_fit names f ≡ true → Evaluates l (factor_tree w l (factor_back names.0 f)) IsSame (factor_value names w.shared f)
at_factor names w s l (operand_factor a) h =
    eval_map l (value_tree (ring_back names.0 a) w l) (λ v. (as_dual v).value) (IsWord (is_widened a)) IsSame (ring_value (told w.shared) names a) (λ (x : ℕ). x) (at_ring names w s l a h) (λ v x r. r.0)
at_factor names w s l (either_factor one other test) h =
    eval_map l (holds_tree (test_back names.0 test) w l) (λ b. cond b one other) IsSame IsSame (test_value (told w.shared) names test) (λ b. if b then one else other) (at_test names w s l test h) (λ b c r. rw r (chosen c))
  where
    chosen : (b : Bool) → cond b one other ≡ (if b then one else other)
    chosen true = refl
    chosen false = refl

at_product : (names : Names) (w : World) → IsNamed names w.site → (l : Local) (fs : List FactorTree) → list_all (is_factor_fit names) fs ≡ true → (x : ℕ)
    → Evaluates l (product_tree w l (map (factor_back names.0) fs) x) IsSame (product names w.shared fs x)
at_product names w s l [] h x = eval_done l IsSame x x refl
at_product names w s l (f ∷ fs) h x =
    let q = and_parts (is_factor_fit names f) (list_all (is_factor_fit names) fs) h in
    eval_then l (factor_tree w l (factor_back names.0 f)) (λ y. product_tree w l (map (factor_back names.0) fs) (ring_mul x y)) IsSame IsSame (factor_value names w.shared f) (λ y. product names w.shared fs (ring_mul x y))
    (at_factor names w s l f q.0)
    (λ y z r. subst (λ (u : ℕ). Evaluates l (product_tree w l (map (factor_back names.0) fs) (ring_mul x u)) IsSame (product names w.shared fs (ring_mul x z))) (sym r) (at_product names w s l fs q.1 (ring_mul x z)))

sign_is : (b : Bool) (x : ℕ) → with_sign b x ≡ signed b x
sign_is true x = refl
sign_is false x = refl

-- the place of a designator, and that it is of its name
abbrev IsSpot : World → Designator → Option ℕ → Option ℕ → Type 0
IsSpot w p o q = (o ≡ q) × IsPlaced w p.name o

at_named : (names : Names) (w : World) → IsNamed names w.site → (l : Local) (p : Designator) (target : SpotTree) → SpotUndoes names p target → Evaluates l (place_tree p w l) (IsSpot w p) (spot_place (told w.shared) names target)
at_named names w s l p target h cells g =
    let m = at_target names w s l p target h cells g in
    let t = values_tree p.subscripts w l in
    let zs = whole_numbers (go cells t g).out in
    let e : (go cells (place_tree p w l) g).out ≡ place_of w.site p.name zs = ap (λ (r : Ran Stage (Option ℕ)). r.out) (go_giving cells t (λ vs. done (place_of w.site p.name (whole_numbers vs))) g) in
    record { value = (m.value, λ j f. name_placed w.site p.name zs j (sym e ∙ f)); state = m.state }

lands_growth : (names : Names) (w : World) → IsNamed names w.site → (l : Local) (x : ℕ) (o : Occurrence) (g : GrowthTree) → GrowthStands names w o g → LandsAt w l (one_increment w x o l) (growth_run names w.shared x g)
lands_growth names w s l x o g h =
    lands_then w l (product_tree w l o.factors x) (λ y. place_tree o.place w l giving at_place (done l) (λ p. adjoint_increment w (w.choice o.place.name) p (with_sign o.negative y) l)) IsSame (product names w.shared g.factors x)
    (λ y t. let p = spot_place (told w.shared) names g.place t in adjoint_grown w.shared g.choice (signed g.negative y) p.out p.state)
    (subst (λ (fs : List Factor). Evaluates l (product_tree w l fs x) IsSame (product names w.shared g.factors x)) h.factors (at_product names w s l g.factors h.fit x))
    (λ y z r. lands_then w l (place_tree o.place w l) (at_place (done l) (λ p. adjoint_increment w (w.choice o.place.name) p (with_sign o.negative y) l)) (IsSpot w o.place) (spot_place (told w.shared) names g.place) (adjoint_grown w.shared g.choice (signed g.negative z))
    (at_named names w s l o.place g.place h.place)
    (λ p q e. rw (sym e.0, r, sym h.sign, h.choice, sign_is g.negative z) (lands_adjoint_grown w l o.place.name (signed g.negative z) p e.1)))

lands_growths : (names : Names) (w : World) → IsNamed names w.site → (x : ℕ) (os : List Occurrence) (gs : List GrowthTree) → EachGrowthStands names w os gs → (l : Local) → LandsAt w l (increments w x os l) (growths_run names w.shared x gs)
lands_growths names w s x [] [] h l = lands_done w l
lands_growths names w s x [] (g ∷ gs) h l = absurd h
lands_growths names w s x (o ∷ os) [] h l = absurd h
lands_growths names w s x (o ∷ os) (g ∷ gs) h l =
    lands_both w l (one_increment w x o l) (increments w x os) (growth_run names w.shared x g) (growths_run names w.shared x gs) (lands_growth names w s l x o g h.0) (λ k. lands_growths names w s x os gs h.1 k)

-- ---- plain assignments

at_adjoint : (names : Names) (w : World) → IsNamed names w.site → (l : Local) (p : Designator) (target : SpotTree) → SpotUndoes names p target → Evaluates l (adjoint_tree w p l) IsSame (target_adjoint names w.shared target)
at_adjoint names w s l p target h =
    eval_then l (place_tree p w l) (at_place (done 0) (adjoint_load w l)) IsSame IsSame (spot_place (told w.shared) names target) (adjoint_loaded w.shared) (at_target names w s l p target h)
    (λ o q r. subst (λ (x : Option ℕ). Evaluates l (at_place (done 0) (adjoint_load w l) x) IsSame (adjoint_loaded w.shared q)) (sym r) (eval_adjoint w l q))

lands_cleared : (names : Names) (w : World) → IsNamed names w.site → (l : Local) (p : Designator) (target : SpotTree) → SpotUndoes names p target
    → LandsAt w l (place_tree p w l giving at_place (done l) (λ q. adjoint_store w q 0 l)) (cleared names w.shared target)
lands_cleared names w s l p target h =
    lands_then w l (place_tree p w l) (at_place (done l) (λ q. adjoint_store w q 0 l)) IsSame (spot_place (told w.shared) names target) (adjoint_stored w.shared 0) (at_target names w s l p target h)
    (λ o q r. subst (λ (x : Option ℕ). LandsAt w l (at_place (done l) (λ q. adjoint_store w q 0 l) x) (adjoint_stored w.shared 0 q)) (sym r) (lands_adjoint w l 0 q))

lands_restored : (names : Names) (w : World) → IsNamed names w.site → (l : Local) (p : Designator) (target : SpotTree) → SpotUndoes names p target → (b : Bool)
    → LandsAt w l (cond b (place_tree p w l giving at_place (done (after_pop l)) (λ q. value_store w q (top l.tape) (after_pop l))) (done l)) (restored names w.shared b target)
lands_restored names w s l p target h true =
    lands_then w l (place_tree p w l) (at_place (done (after_pop l)) (λ q. value_store w q (top l.tape) (after_pop l))) IsSame (spot_place (told w.shared) names target) (λ q t. restored_from w.shared (top t.local.tape) q t) (at_target names w s l p target h)
    (λ o q r. subst (λ (x : Option ℕ). LandsAt w l (at_place (done (after_pop l)) (λ j. value_store w j (top l.tape) (after_pop l)) x) (λ t. restored_from w.shared (top t.local.tape) q t)) (sym r)
    (λ v g. lands_value w (popped l) (top l.tape) q v g))
lands_restored names w s l p target h false = lands_done w l

lands_restoration : (names : Names) (w : World) → IsNamed names w.site → (l : Local) (p : Designator) (target : SpotTree) → SpotUndoes names p target → (b : Bool) → b ≡ w.site.pushed p.name → LandsAt w l (value_restoration w p l) (restored names w.shared b target)
lands_restoration names w s l p target h b e =
    subst (λ (c : Bool). LandsAt w l (cond c (place_tree p w l giving at_place (done (after_pop l)) (λ q. value_store w q (top l.tape) (after_pop l))) (done l)) (restored names w.shared b target)) e (lands_restored names w s l p target h b)

lands_plain_by : (names : Names) (w : World) → IsNamed names w.site → (l : Local) (p : Designator) (target : SpotTree) → SpotUndoes names p target → (b : Bool) → b ≡ w.site.pushed p.name → (os : List Occurrence) (a : Bool) (growths : Option (List GrowthTree)) → GrowthsStand names w a os growths
    → LandsAt w l (cond a (adjoint_move w p l (λ t m. value_restoration w p m giving increments w t os)) (value_restoration w p l)) (plain_run names w.shared target b growths)
lands_plain_by names w s l p target h b e os true None k = absurd k
lands_plain_by names w s l p target h b e os true (Some gs) k =
    lands_then w l (adjoint_tree w p l) (λ t. place_tree p w l giving (λ o. at_place (done l) (λ q. adjoint_store w q 0 l) o giving (λ m. value_restoration w p m giving increments w t os))) IsSame (target_adjoint names w.shared target)
    (λ x t. growths_run names w.shared x gs (restored names w.shared b target (cleared names w.shared target t))) (at_adjoint names w s l p target h)
    (λ x y r. subst (λ (z : ℕ). LandsAt w l (place_tree p w l giving (λ o. at_place (done l) (λ q. adjoint_store w q 0 l) o giving (λ m. value_restoration w p m giving increments w z os)))
    (λ t. growths_run names w.shared y gs (restored names w.shared b target (cleared names w.shared target t)))) (sym r)
    (lands_nested w l (place_tree p w l) (at_place (done l) (λ q. adjoint_store w q 0 l)) (λ m. value_restoration w p m giving increments w y os) (λ t. growths_run names w.shared y gs (restored names w.shared b target (cleared names w.shared target t)))
    (lands_both w l (place_tree p w l giving at_place (done l) (λ q. adjoint_store w q 0 l)) (λ m. value_restoration w p m giving increments w y os) (cleared names w.shared target) (λ t. growths_run names w.shared y gs (restored names w.shared b target t))
    (lands_cleared names w s l p target h)
    (λ m. lands_both w m (value_restoration w p m) (increments w y os) (restored names w.shared b target) (growths_run names w.shared y gs) (lands_restoration names w s m p target h b e) (λ k'. lands_growths names w s y os gs k k')))))
lands_plain_by names w s l p target h b e os false None k = lands_restoration names w s l p target h b e
lands_plain_by names w s l p target h b e os false (Some gs) k = absurd k

-- ---- increments

at_rest : (names : Names) (w : World) → IsNamed names w.site → (l : Local) (ts : List TermTree) → list_all (λ (t : TermTree). is_ring_fit names unwatched t.1) ts ≡ true → (x : ℕ)
    → Evaluates l (rest_tree w (map (signed_back names.0) ts) x l) IsSame (rest_sum names w.shared ts x)
at_rest names w s l [] h x = eval_done l IsSame x x refl
at_rest names w s l (r ∷ rs) h x =
    let q = and_parts (is_ring_fit names unwatched r.1) (list_all (λ (t : TermTree). is_ring_fit names unwatched t.1) rs) h in
    eval_then l (value_tree (ring_back names.0 r.1) w l) (λ v. rest_tree w (map (signed_back names.0) rs) (cond r.0 (ring_add x (as_dual v).value) (ring_sub x (as_dual v).value)) l) (IsWord (is_widened r.1)) IsSame
    (ring_value (told w.shared) names r.1) (λ y. rest_sum names w.shared rs (if r.0 then ring_add x y else ring_sub x y)) (at_ring names w s l r.1 q.0)
    (λ v y e. subst (λ (z : ℕ). Evaluates l (rest_tree w (map (signed_back names.0) rs) z l) IsSame (rest_sum names w.shared rs (if r.0 then ring_add x y else ring_sub x y))) (sym (turned r.0 (as_dual v).value y e.0))
    (at_rest names w s l rs q.1 (if r.0 then ring_add x y else ring_sub x y)))
  where
    turned : (b : Bool) (v y : ℕ) → v ≡ y → cond b (ring_add x v) (ring_sub x v) ≡ (if b then ring_add x y else ring_sub x y)
    turned true v y e = ap (ring_add x) e
    turned false v y e = ap (ring_sub x) e

lands_reversed : (names : Names) (w : World) → IsNamed names w.site → (l : Local) (p : Designator) (target : SpotTree) → SpotUndoes names p target → (one : Bool) (rs : List Signed) (b : Bool) (reversal : Option (List TermTree)) → ReversalStands names b rs reversal
    → LandsAt w l (cond b (rest_tree w rs 0 l giving (λ a. place_tree p w l giving at_place (done l) (λ q. value_increment w one q a l))) (done l)) (reversed_by names w.shared target reversal one)
lands_reversed names w s l p target h one rs true None k = absurd k
lands_reversed names w s l p target h one rs true (Some ts) k =
    lands_then w l (rest_tree w rs 0 l) (λ a. place_tree p w l giving at_place (done l) (λ q. value_increment w one q a l)) IsSame (rest_sum names w.shared ts 0)
    (λ x t. let q = spot_place (told w.shared) names target t in value_grown w.shared one x q.out q.state)
    (subst (λ (us : List Signed). Evaluates l (rest_tree w us 0 l) IsSame (rest_sum names w.shared ts 0)) k.back (at_rest names w s l ts k.fit 0))
    (λ x y r. lands_then w l (place_tree p w l) (at_place (done l) (λ q. value_increment w one q x l)) IsSame (spot_place (told w.shared) names target) (value_grown w.shared one y) (at_target names w s l p target h)
    (λ o q e. rw (e, r) (lands_value_grown w l one y q)))
lands_reversed names w s l p target h one rs false None k = lands_done w l
lands_reversed names w s l p target h one rs false (Some ts) k = absurd k

lands_spread : (names : Names) (w : World) → IsNamed names w.site → (p : Designator) (target : SpotTree) → SpotUndoes names p target → (os : List Occurrence) (a : Bool) (growths : Option (List GrowthTree)) → GrowthsStand names w a os growths → (m : Local)
    → LandsAt w m (cond a (adjoint_tree w p m giving (λ t. increments w t os m)) (done m)) (spread_run names w.shared target growths)
lands_spread names w s p target h os true None k m = absurd k
lands_spread names w s p target h os true (Some gs) k m =
    lands_then w m (adjoint_tree w p m) (λ t. increments w t os m) IsSame (target_adjoint names w.shared target) (λ x t. growths_run names w.shared x gs t) (at_adjoint names w s m p target h)
    (λ x y r. subst (λ (z : ℕ). LandsAt w m (increments w z os m) (growths_run names w.shared y gs)) (sym r) (lands_growths names w s y os gs k m))
lands_spread names w s p target h os false None k m = lands_done w m
lands_spread names w s p target h os false (Some gs) k m = absurd k

-- ---- assignments

pub lands_store : (names : Names) (w : World) → IsNamed names w.site → (u : UndoStore) (atomic : Bool) (p : Designator) (e : Expression) → UndoStoreStands names w u atomic p e → (l : Local)
    → LandsAt w l (assignment_back w atomic p e (increment_terms w.site.ring p e) l) (undo_store_run names w.shared u)
lands_store names w s (undo_plain target restores growths) atomic p e h l =
    subst (λ (o : Option (List Signed)). LandsAt w l (assignment_back w atomic p e o l) (plain_run names w.shared target restores growths)) (sym h.plain)
    (lands_plain_by names w s l p target h.place restores h.restoring (occurrences w.active e false []) (w.active p.name) growths h.growing)
lands_store names w s (undo_increment target reversal one growths) atomic p e h l =
    subst (λ (o : Option (List Signed)). LandsAt w l (assignment_back w atomic p e o l) (λ t. spread_run names w.shared target growths (reversed_by names w.shared target reversal one t))) (sym h.form)
    (lands_both w l (increment_reversal w atomic p h.rest l) (λ m. cond (w.active p.name) (adjoint_tree w p m giving (λ t. increments w t (rest_occurrences w.active h.rest) m)) (done m)) (reversed_by names w.shared target reversal one) (spread_run names w.shared target growths)
    (subst (λ (b : Bool). LandsAt w l (cond (w.site.pushed p.name) (rest_tree w h.rest 0 l giving (λ a. place_tree p w l giving at_place (done l) (λ q. value_increment w b q a l))) (done l)) (reversed_by names w.shared target reversal one)) h.steps
    (lands_reversed names w s l p target h.place one h.rest (w.site.pushed p.name) reversal h.reversing))
    (λ m. lands_spread names w s p target h.place (rest_occurrences w.active h.rest) (w.active p.name) growths h.growing m))
