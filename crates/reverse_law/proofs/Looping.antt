-- Loops are undone as the trees for them play: turns downwards, iterations upwards with their sums.
use Rattle.std.proofs.Common.{◌≡◌, ℕ, zero, suc, ◌+◌, List, [], ◌∷◌, map, refl, ap, sym, ◌∙◌, subst, Bool, true, false, ◌&&◌, cond, Option, Some, None}
use Rattle.std.proofs.lemmas.Bool.{and_parts}
use Rattle.std.specs.Prelude.{◌/◌, ◌%◌, ◌*◌, nat_lt, if◌then◌else◌}
use Rattle.std.specs.Int.{w64, cast_unsigned}
use Rattle.fl_ast.specs.declared.directive.Directive.{Directive}
use Rattle.fl_ast.specs.Tree.{Statement, assignment, branch, loop, Statements, no_statements, statement}
use Rattle.fl_types.specs.Nests.{is_nest, inner_body, iteration_body}
use Rattle.fl_types.specs.Sharing.{assigns_in}
use Rattle.store_core.specs.Keys.{slot_of, place_in_slot, first_at, same_key}
use Rattle.store_core.proofs.Slots.{place_found}
use Rattle.operations.specs.Tree.{Tree, done, does, ◌giving◌}
use Rattle.operations.specs.Order.{rounds}
use Rattle.operations.specs.Collect.{collect}
use Rattle.operations.specs.declared.op.Op.TheVariants.{Add}
use Rattle.meaning.specs.declared.value.IterationCount.{IterationCount}
use Rattle.meaning.specs.Sites.{Site, place_of}
use Rattle.meaning.specs.Statements.{private_names, value_at, Heads, iterations}
use Rattle.resolved.specs.SlotTables.{Names}
use Rattle.transposition.specs.Tapes.{Tape, Tapes, top, tape_at, top_tapes}
use Rattle.transposition.specs.Worlds.{World, Local, is_reduction, with_own_value, in_turn, in_iteration}
use Rattle.transposition.specs.Back.{after_pop, below_bounds, heads_on, loop_variables, with_variable_word, with_variable_words, turns_back, one_turn_back, loop_back, after_private_pops, with_clear_privates, with_collection, with_collection_at, with_collections, iteration_local, iteration_tree, loop_heads, below_heads, loop_iterations, parallel_back, back_all, back_inner, back_within}
use Rattle.sweep_steps.specs.declared.step.PrivateScalar.{PrivateScalar}
use Rattle.sweep_steps.specs.StepsStand.{PrivatesStand}
use Rattle.sweep_evaluation.specs.Machine.{Ran, ran}
use Rattle.undo_steps.specs.UndosStand.{scalar_place, reduction_at, reduction_places, IterationsUndo}
use Rattle.reverse_sweep.specs.Reversing.{Sums, Stage, Reversing, reversing, summed, added_by, first_sum, later_sums, opened_sum, closed_sum, added, own_value_set, own_adjoint_set, popped, on_tape}
use Rattle.reverse_sweep.specs.Machine.{below_words, bounds_on, variable_set, turns_undone, turn_undone, loop_undone, Counts, below_counts, counts_on, count_of, variables_set, private_refilled, privates_refilled, privates_cleared, opened_sums, closed_sums, iteration_begun, iteration_closed, iteration_undone, iterations_undone, parallel_undone}
use Rattle.reverse_law.specs.Reverse.{IsNamed}
use Rattle.reverse_law.proofs.Going.{tallied, go, go_giving, seen, alike, go_collect, landed}
use Rattle.reverse_law.proofs.Landing.{IsPlaced, name_placed, unseen_sum, shown, seen_cells, LandsBy, by_done, by_both, own_value_is, own_adjoint_is}

-- ---- places of scalars

pub scalar_placed : (names : Names) (site : Site) → IsNamed names site → (x : List ℕ) → place_of site x [] ≡ scalar_place names x
scalar_placed names site s x = ap (λ ks. first_at (same_key (x, [])) ks) s.keys

-- ---- sequential loops

pub lands_turns : (b : Bool) (w : World) (n : ℕ) (f : ℕ → Local → Tree Local) (m : ℕ → Reversing → Reversing) → ((k : ℕ) (l : Local) → LandsBy b w l (f k l) (m k)) → (l : Local) → LandsBy b w l (turns_back n f l) (turns_undone n m)
lands_turns b w zero f m d l = by_done b w l
lands_turns b w (suc n) f m d l = by_both b w l (f n l) (turns_back n f) (m n) (turns_undone n m) (d n l) (λ k. lands_turns b w n f m d k)

pub variable_is : (w : World) (var : List ℕ) (place : Option ℕ) (t : IterationCount) (k : ℕ) (l : Local) → place ≡ place_of w.site var [] → with_variable_word w var t k l ≡ variable_set w.shared place t k l
variable_is w var place t k l e = own_value_is w (place_of w.site var []) (cast_unsigned w64 (value_at t k)) l ∙ ap (λ (o : Option ℕ). own_value_set w.shared o (cast_unsigned w64 (value_at t k)) l) (sym e)

pub lands_loop : (names : Names) (b : Bool) (w : World) → IsNamed names w.site → (var : List ℕ) (place : Option ℕ) (f : World → Local → Tree Local) (m : Reversing → Reversing) → place ≡ scalar_place names var → ((l : Local) → LandsBy b (in_turn w var) l (f (in_turn w var) l) m) → (l : Local)
    → LandsBy b w l (loop_back w var f l) (loop_undone w.shared place m)
lands_loop names b w s var place f m e d l g =
    let t : IterationCount = bounds_on l.tape in
    lands_turns b w t.count (one_turn_back w var t f) (turn_undone w.shared place t m)
    (λ k l h. subst (λ (x : Local). shown b (m (reversing (variable_set w.shared place t k l) h)) ≡ shown b (landed (go (seen_cells b w) (f (in_turn w var) x) h))) (sym (variable_is w var place t k l (e ∙ sym (scalar_placed names w.site s var)))) (d (variable_set w.shared place t k l) h))
    (on_tape (below_words l.tape) l) g

-- ---- bounds of parallel loops

below_is : (names : Names) (xs : List (List ℕ)) (t : Tape) → below_counts (map (scalar_place names) xs) t ≡ below_bounds xs t
below_is names [] t = refl
below_is names (x ∷ xs) t = ap below_words (below_is names xs t)

-- heads with their variables' places
abbrev placed_heads : Names → Heads → Counts
placed_heads names [] = []
placed_heads names (h ∷ hs) = (scalar_place names h.0, h.1) ∷ placed_heads names hs

counts_are : (names : Names) (xs : List (List ℕ)) (t : Tape) → counts_on (map (scalar_place names) xs) t ≡ placed_heads names (heads_on xs t)
counts_are names [] t = refl
counts_are names (x ∷ xs) t =
    ap (λ (u : Tape). (scalar_place names x, bounds_on u) ∷ counts_on (map (scalar_place names) xs) t) (below_is names xs t) ∙ ap (λ (cs : Counts). (scalar_place names x, bounds_on (below_bounds xs t)) ∷ cs) (counts_are names xs t)

count_is : (names : Names) (hs : Heads) → count_of (placed_heads names hs) ≡ iterations hs
count_is names [] = refl
count_is names (h ∷ []) = refl
count_is names (h ∷ i ∷ hs) = ap (λ (n : ℕ). h.1.count * n) (count_is names (i ∷ hs))

variables_are : (names : Names) (w : World) → IsNamed names w.site → (hs : Heads) (k : ℕ) (l : Local) → with_variable_words w hs k l ≡ variables_set w.shared (placed_heads names hs) k l
variables_are names w s [] k l = refl
variables_are names w s (h ∷ []) k l = variable_is w h.0 (scalar_place names h.0) h.1 k l (sym (scalar_placed names w.site s h.0))
variables_are names w s (h ∷ i ∷ hs) k l =
    let n : ℕ = iterations (i ∷ hs) in
    ap (with_variable_words w (i ∷ hs) (k % n)) (variable_is w h.0 (scalar_place names h.0) h.1 (k / n) l (sym (scalar_placed names w.site s h.0)))
    ∙ (variables_are names w s (i ∷ hs) (k % n) (variable_set w.shared (scalar_place names h.0) h.1 (k / n) l)
    ∙ ap (λ (j : ℕ). variables_set w.shared (placed_heads names (i ∷ hs)) (k % j) (variable_set w.shared (scalar_place names h.0) h.1 (k / j) l)) (sym (count_is names (i ∷ hs))))

-- ---- private scalars

private_placed : (names : Names) (site : Site) → IsNamed names site → (x : List ℕ) (q : PrivateScalar) → slot_of names.0 x ≡ Some q.slot → q.place ≡ place_in_slot names.0 q.slot [] → place_of site x [] ≡ q.place
private_placed names site s x q e f = scalar_placed names site s x ∙ (sym (place_found names.0 x q.slot [] (sym e)) ∙ sym f)

refill_is : (w : World) (b c : Bool) (o place : Option ℕ) (m : Local) → b ≡ c → o ≡ place → cond b (with_own_value w o (top m.tape) (after_pop m)) m ≡ private_refilled w.shared c place m
refill_is w b c o place m e f = rw (e, f) (by_flag c)
  where
    by_flag : (c : Bool) → cond c (with_own_value w place (top m.tape) (after_pop m)) m ≡ private_refilled w.shared c place m
    by_flag true = own_value_is w place (top m.tape) (popped m)
    by_flag false = refl

refills_are : (names : Names) (w : World) → IsNamed names w.site → (body : Statements) (xs : List (List ℕ)) (qs : List PrivateScalar) → PrivatesStand names w.site body xs qs → (l : Local) → after_private_pops w body xs l ≡ privates_refilled w.shared qs l
refills_are names w s body [] [] h l = refl
refills_are names w s body [] (q ∷ qs) h l = absurd h
refills_are names w s body (x ∷ xs) [] h l = absurd h
refills_are names w s body (x ∷ xs) (q ∷ qs) h l =
    let m = after_private_pops w body xs l in
    refill_is w (assigns_in x body && w.site.pushed x) q.pushes (place_of w.site x []) q.place m (sym h.0.pushing) (private_placed names w.site s x q h.0.slot h.0.place)
    ∙ ap (private_refilled w.shared q.pushes q.place) (refills_are names w s body xs qs h.1 l)

clears_are : (names : Names) (w : World) → IsNamed names w.site → (body : Statements) (xs : List (List ℕ)) (qs : List PrivateScalar) → PrivatesStand names w.site body xs qs → (l : Local) → with_clear_privates w xs l ≡ privates_cleared w.shared qs l
clears_are names w s body [] [] h l = refl
clears_are names w s body [] (q ∷ qs) h l = absurd h
clears_are names w s body (x ∷ xs) [] h l = absurd h
clears_are names w s body (x ∷ xs) (q ∷ qs) h l =
    ap (with_clear_privates w xs) (own_adjoint_is w (place_of w.site x []) 0 l ∙ ap (λ (o : Option ℕ). own_adjoint_set w.shared o 0 l) (private_placed names w.site s x q h.0.slot h.0.place))
    ∙ clears_are names w s body xs qs h.1 (own_adjoint_set w.shared q.place 0 l)

-- ---- sums

abbrev summed_goes : (ℕ → Bool) → ℕ → List ℕ → Tree Local → Stage → Ran Stage Local
summed_goes cells n qs t g = ran (go cells t (opened_sums n qs g)).out (closed_sums n qs (go cells t (opened_sums n qs g)).state)

collection_goes : (cells : ℕ → Bool) (q : ℕ) → cells q ≡ false → (t : Tree Local) (g : Stage) → go cells (with_collection q t) g ≡ ran (go cells t (opened_sum q g)).out (closed_sum q (go cells t (opened_sum q g)).state)
collection_goes cells q n t g =
    let r = go cells (collect q t 0) g in
    go_giving cells (collect q t 0) (λ r. does (Add q r.1) (done r.0)) g
    ∙ (ap (λ (b : Bool). ran r.out.0 (tallied b (added q r.out.1 r.state))) n ∙ ap (λ (r : Ran Stage (Local × ℕ)). ran r.out.0 (added q r.out.1 r.state)) (go_collect cells q n t 0 g))

collections_go : (names : Names) (v : Bool) (w : World) → IsNamed names w.site → (xs : List (List ℕ)) (t : Tree Local) (g : Stage) → go (seen_cells v w) (with_collections w xs t) g ≡ summed_goes (seen_cells v w) w.shared (reduction_places names w xs) t g
collections_go names v w s [] t g = refl
collections_go names v w s (x ∷ xs) t g = by_flag (w.active x && is_reduction (w.choice x)) refl (λ u. collections_go names v w s xs u g)
  where
    cells : ℕ → Bool
    cells = seen_cells v w

    qs : List ℕ
    qs = reduction_places names w xs

    by_shared : (q : ℕ) (b : Bool) → cells (w.shared + q) ≡ false → summed_goes cells w.shared qs (cond b (with_collection (w.shared + q) t) t) g ≡ summed_goes cells w.shared (cond b (q ∷ qs) qs) t g
    by_shared q true n = ap (λ (r : Ran Stage Local). ran r.out (closed_sums w.shared qs r.state)) (collection_goes cells (w.shared + q) n t (opened_sums w.shared qs g))
    by_shared q false n = refl

    by_place : is_reduction (w.choice x) ≡ true → (o : Option ℕ) → IsPlaced w x o → summed_goes cells w.shared qs (with_collection_at w o t) g ≡ summed_goes cells w.shared (reduction_at w o qs) t g
    by_place r None h = refl
    by_place r (Some q) h = by_shared q (nat_lt q w.shared) (unseen_sum v w x q r (h q refl))

    at_x : is_reduction (w.choice x) ≡ true → summed_goes cells w.shared qs (with_collection_at w (place_of w.site x []) t) g ≡ summed_goes cells w.shared (reduction_at w (scalar_place names x) qs) t g
    at_x r =
        let e = scalar_placed names w.site s x in
        ap (λ (o : Option ℕ). summed_goes cells w.shared qs (with_collection_at w o t) g) e ∙ by_place r (scalar_place names x) (λ p f. name_placed w.site x [] p (e ∙ f))

    by_flag : (b : Bool) → (w.active x && is_reduction (w.choice x)) ≡ b → ((u : Tree Local) → go cells (with_collections w xs u) g ≡ summed_goes cells w.shared qs u g)
        → go cells (with_collections w xs (cond b (with_collection_at w (place_of w.site x []) t) t)) g ≡ summed_goes cells w.shared (cond b (reduction_at w (scalar_place names x) qs) qs) t g
    by_flag true f h = h (with_collection_at w (place_of w.site x []) t) ∙ at_x (and_parts (w.active x) (is_reduction (w.choice x)) f).1
    by_flag false f h = h t

one_closed : (q a : ℕ) (o : Option Sums) (g : Stage) → seen false (added_by q a o (record g { sums = later_sums g.sums })) ≡ added_by q a o (record g { sums = later_sums g.sums; adds = 0 })
one_closed q a None g = refl
one_closed q a (Some rs) g = refl

-- sums are closed alike, whatever was counted
closing_seen : (b : Bool) (n : ℕ) (qs : List ℕ) (g : Stage) → seen b (closed_sums n qs g) ≡ closed_sums n qs (seen b g)
closing_seen true n qs g = refl
closing_seen false n [] g = refl
closing_seen false n (q ∷ qs) g =
    closing_seen false n qs (closed_sum (n + q) g) ∙ ap (closed_sums n qs) (one_closed (n + q) (first_sum g.sums) (summed (n + q) (first_sum g.sums) (later_sums g.sums)) g)

-- ---- iterations

-- what is inside of an iteration stands on the same names
pub named_in_iteration : (names : Names) (w : World) → IsNamed names w.site → (number : ℕ) (directive : Directive) (var : List ℕ) (body : Statements) → IsNamed names (in_iteration w number directive var body).site
named_in_iteration names w s number directive var body = record { keys = s.keys; width = s.width; kinds = s.kinds }

pub named_in_turn : (names : Names) (w : World) → IsNamed names w.site → (var : List ℕ) → IsNamed names (in_turn w var).site
named_in_turn names w s var = record { keys = s.keys; width = s.width; kinds = s.kinds }

begun_is : (names : Names) (w : World) → IsNamed names w.site → (directive : Directive) (var : List ℕ) (body : Statements) (qs : List PrivateScalar) → PrivatesStand names w.site body (private_names w.site directive var body) qs
    → (heads : Heads) (ts : Tapes) (l : Local) (k : ℕ) → iteration_local w directive var body heads ts l k ≡ iteration_begun w.shared qs (placed_heads names heads) ts l k
begun_is names w s directive var body qs h heads ts l k =
    let xs = private_names w.site directive var body in
    let m = on_tape (tape_at ts k) l in
    ap (λ (x : Local). with_clear_privates w xs (after_private_pops w body xs x)) (variables_are names w s heads k m)
    ∙ (ap (with_clear_privates w xs) (refills_are names w s body xs qs h (variables_set w.shared (placed_heads names heads) k m))
    ∙ clears_are names w s body xs qs h (privates_refilled w.shared qs (variables_set w.shared (placed_heads names heads) k m)))

pub lands_iteration : (names : Names) (on : Bool) (w : World) → IsNamed names w.site → (number : ℕ) (directive : Directive) (var : List ℕ) (body : Statements) (qs : List PrivateScalar) → PrivatesStand names w.site body (private_names w.site directive var body) qs
    → (heads : Heads) (ts : Tapes) (f : World → Local → Tree Local) (m : Reversing → Reversing) → ((l : Local) → LandsBy on (in_iteration w number directive var body) l (f (in_iteration w number directive var body) l) m) → (l : Local) (k : ℕ) (g : Stage)
    → let v = in_iteration w number directive var body in
    shown on (iteration_undone w.shared qs (reduction_places names v w.site.declared) (placed_heads names heads) ts m l k g) ≡ shown on (landed (go (seen_cells on v) (iteration_tree w number directive var body heads ts f l k) g))
lands_iteration names on w s number directive var body qs h heads ts f m d l k g =
    let v = in_iteration w number directive var body in
    let cells = seen_cells on v in
    let rs = reduction_places names v w.site.declared in
    let b = iteration_begun w.shared qs (placed_heads names heads) ts l k in
    let before = opened_sums w.shared rs g in
    let s1 = m (reversing b before) in
    let s2 = landed (go cells (f v b) before) in
    ap (reversing s1.local) (closing_seen on w.shared rs s1.stage)
    ∙ (ap (iteration_closed w.shared rs) (d b before)
    ∙ (sym (ap (reversing s2.local) (closing_seen on w.shared rs s2.stage))
    ∙ (sym (ap (λ (r : Ran Stage Local). shown on (landed r)) (collections_go names on v (named_in_iteration names w s number directive var body) w.site.declared (f v b) g))
    ∙ ap (λ (x : Local). shown on (landed (go cells (with_collections v w.site.declared (f v x)) g))) (sym (begun_is names w s directive var body qs h heads ts l k)))))

-- an iteration of a loop that is undone, from what the loop's entry has
pub lands_one : (names : Names) (on : Bool) (w : World) → IsNamed names w.site → (number : ℕ) (directive : Directive) (var : List ℕ) (body : Statements) (places : List (Option ℕ)) (qs : List PrivateScalar) (rs : List ℕ) → IterationsUndo names w number directive var body places qs rs
    → (f : World → Local → Tree Local) (m : Reversing → Reversing) → ((l : Local) → LandsBy on (in_iteration w number directive var body) l (f (in_iteration w number directive var body) l) m) → (l : Local) (k : ℕ) (g : Stage)
    → shown on (iteration_undone w.shared qs rs (counts_on places l.tape) (top_tapes (below_counts places l.tape)) m (on_tape (below_counts places l.tape) l) k g)
    ≡ shown on (landed (go (seen_cells on (in_iteration w number directive var body)) (loop_iterations w number directive var body f l k) g))
lands_one names on w s number directive var body places qs rs h f m d l k g =
    let vars = loop_variables directive var body in
    let below = below_heads directive var body l in
    rw (h.variables, h.sums, below_is names vars l.tape, counts_are names vars l.tape)
    (lands_iteration names on w s number directive var body qs h.scalars (loop_heads directive var body l) (top_tapes below.tape) f m d below k g)

rounds_go : (on : Bool) (cells : ℕ → Bool) (t : ℕ → Tree Local) (f : ℕ → Stage → Reversing) → ((k : ℕ) (g : Stage) → shown on (f k g) ≡ shown on (landed (go cells (t k) g))) → (n : ℕ) (g : Stage)
    → seen on (go cells (rounds t n) g).state ≡ seen on (iterations_undone n f g)
rounds_go on cells t f h zero g = refl
rounds_go on cells t f h (suc n) g =
    let before = (go cells (rounds t n) g).state in
    ap (λ (r : Ran Stage (Unit {0})). seen on r.state) (go_giving cells (rounds t n) (λ _. t n giving (λ _. done (tt {0}))) g)
    ∙ (ap (λ (r : Ran Stage (Unit {0})). seen on r.state) (go_giving cells (t n) (λ _. done (tt {0})) before)
    ∙ (ap (λ (r : Ran Stage Local). r.state) (alike on cells (t n) before (iterations_undone n f g) (rounds_go on cells t f h n g)) ∙ ap (λ (r : Reversing). r.stage) (sym (h n (iterations_undone n f g)))))

-- by the choices for the loop
pub lands_parallel : (names : Names) (on : Bool) (w : World) → IsNamed names w.site → (number : ℕ) (directive : Directive) (var : List ℕ) (body : Statements) (places : List (Option ℕ)) (qs : List PrivateScalar) (rs : List ℕ) → IterationsUndo names w number directive var body places qs rs
    → (f : World → Local → Tree Local) (m : Reversing → Reversing) → ((l : Local) → LandsBy on (in_iteration w number directive var body) l (f (in_iteration w number directive var body) l) m) → (l : Local)
    → LandsBy on (in_iteration w number directive var body) l (parallel_back w number directive var body f l) (parallel_undone w.shared places qs rs m)
lands_parallel names on w s number directive var body places qs rs h f m d l g =
    let v = in_iteration w number directive var body in
    let cells = seen_cells on v in
    let vars = loop_variables directive var body in
    let heads = loop_heads directive var body l in
    let below = below_heads directive var body l in
    let its : ℕ → Stage → Reversing = iteration_undone w.shared qs (reduction_places names v w.site.declared) (placed_heads names heads) (top_tapes below.tape) m below in
    let over : seen on (go cells (rounds (loop_iterations w number directive var body f l) (iterations heads)) g).state ≡ seen on (iterations_undone (iterations heads) its g) =
    rounds_go on cells (loop_iterations w number directive var body f l) its (λ k x. lands_iteration names on w s number directive var body qs h.scalars heads (top_tapes below.tape) f m d below k x) (iterations heads) g in
    rw (h.variables, h.sums, below_is names vars l.tape, counts_are names vars l.tape, count_is names heads)
    (ap (reversing (popped below)) (sym over) ∙ ap (λ (r : Ran Stage Local). shown on (landed r)) (sym (go_giving cells (rounds (loop_iterations w number directive var body f l) (iterations heads)) (λ _. done (after_pop below)) g)))

-- ---- the statements of an iteration

within_is : (x : Statement) (ss : Statements) (w : World) (l : Local) → back_within x w l ≡ back_all (inner_body (statement x ss)) w l
within_is (assignment line atomic p e) ss w l = refl
within_is (branch line arms other) ss w l = refl
within_is (loop line number directive var first last step body) ss w l = refl

inner_is : (body : Statements) (w : World) (l : Local) → back_inner body w l ≡ back_all (inner_body body) w l
inner_is no_statements w l = refl
inner_is (statement x ss) w l = within_is x ss w l

pub iteration_is : (directive : Directive) (body : Statements) (w : World) (l : Local) → (if is_nest directive body then back_inner body else back_all body) w l ≡ back_all (iteration_body directive body) w l
iteration_is directive body w l = by_nest (is_nest directive body)
  where
    by_nest : (b : Bool) → (if b then back_inner body else back_all body) w l ≡ back_all (if b then inner_body body else body) w l
    by_nest true = inner_is body w l
    by_nest false = refl
