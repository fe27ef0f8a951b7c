-- What an iteration of a parallel loop begins and ends with: its private scalars, and its loop variables.
use Rattle.std.specs.Prelude.{◌≡◌, ℕ, zero, suc, ◌<◌, ◌*◌, ◌/◌, ◌%◌, Bool, true, false, ◌&&◌, if◌then◌else◌, List, [], ◌∷◌, length, map, Option, Some, None, Result, Ok, slice_get, refl}
use Rattle.std.proofs.Common.{ap, sym, subst, ◌∙◌, arith}
use Rattle.fl_ast.specs.declared.directive.Directive.{Directive}
use Rattle.fl_ast.specs.declared.kind.Kind.TheVariants as kind
use Rattle.fl_ast.specs.Tree.{Statements}
use Rattle.fl_types.specs.Nests.{Head}
use Rattle.fl_types.specs.Sharing.{assigns_in}
use Rattle.store_core.specs.declared.layout.Shape.{Shape}
use Rattle.store_core.proofs.Slots.{first_found}
use Rattle.meaning.specs.declared.value.Value.{Value}
use Rattle.meaning.specs.declared.value.Value.TheVariants.{Index}
use Rattle.meaning.specs.declared.value.TrapAt.{TrapAt}
use Rattle.meaning.specs.declared.value.IterationCount.{IterationCount}
use Rattle.meaning.specs.Logs.{Log, silence, single, pushes, both, Traced, pure, after, ◌>>=◌}
use Rattle.meaning.specs.Sites.{Cells, with_tangent, Site, in_iteration, place_of, kind_of}
use Rattle.meaning.specs.Adjoints.{cells_along}
use Rattle.meaning.specs.Expressions.{content}
use Rattle.meaning.specs.Statements.{Run, with_log, value_at, with_variable, with_all_unset, unset_log, set_log_at, content_at, private_words, Heads, iterations, with_variables}
use Rattle.meaning.specs.Statements.{set_at as set_cells_at}
use Rattle.meaning.specs.Fitting.{Fits}
use Rattle.meaning.proofs.RunsFit.{HeadsFit, turn_index, rest_positive, quotient_below, remainder_below}
use Rattle.resolved.specs.SlotTables.{Names}
use Rattle.resolved.specs.ResolvedExprs.{slot_name, shape_name}
use Rattle.resolved.proofs.Slots.{slot_stands}
use Rattle.sweep_trees.specs.Standing.{is_accessed_at, or_false}
use Rattle.sweep_steps.specs.declared.step.PrivateScalar.{PrivateScalar}
use Rattle.sweep_steps.specs.StepsStand.{flags_at, PrivateStands, PrivatesStand}
use Rattle.sweep_law.specs.Telling.{Standing, goes_on, IsSite}
use Rattle.forward_state.specs.Steps.{pushed}
use Rattle.forward_state.specs.Steps.{pushed_if, unset_at}
use Rattle.forward_sweep.specs.Machine.{Further, variable_run, variables_run, unset_all, privates_run}
use Rattle.forward_law.specs.Forward.{unlined, Beside}
use Rattle.forward_law.proofs.Following.{Follows, Lands}
use Rattle.forward_law.proofs.Combining.{Rests, rests_at, alike_follows, follows_after, follows_then}
use Rattle.forward_law.proofs.Stillness.{Leaves, still_pushed_if, still_both}
use Rattle.forward_law.proofs.Noting.{bare_twice, content_bare, word_follows, pushed_cells, pushed_if_cells}
use Rattle.forward_law.proofs.Heads.{place_at, stored_at, placed_follows, unset_is, variable_is, stored_still}
use Rattle.forward_law.proofs.Turning.{BodyFollows, variable_follows, lands_out}

-- ---- the site of an iteration

flags_tell : (acc : List ℕ → Bool) (shapes : List Shape) (slot : ℕ) → slot < length shapes → acc (slot_name shapes slot) ≡ is_accessed_at (map (λ (s : Shape). acc s.name) shapes) slot
flags_tell acc [] slot h = absurd (omega arith)
flags_tell acc (s ∷ shapes) zero h = refl
flags_tell acc (s ∷ shapes) (suc slot) h = flags_tell acc shapes slot (omega arith)

and_true : (b : Bool) → b ≡ (b && true)
and_true true = refl
and_true false = refl

pub iteration_site : (names : Names) (site : Site) (flags : List Bool) (within : Bool) (directive : Directive) (var : List ℕ) (body : Statements) → IsSite site names flags within
    → IsSite (in_iteration site directive var body) names (flags_at names (in_iteration site directive var body)) true
iteration_site names site flags within directive var body h = record {
  keys = h.keys;
  width = h.width;
  kinds = h.kinds;
  accesses = λ slot below. flags_tell (in_iteration site directive var body).accessed names.0 slot below ∙ and_true (is_accessed_at (flags_at names (in_iteration site directive var body)) slot);
}

-- ---- private scalars are unset

private_place : (names : Names) (site : Site) (flags : List Bool) (within : Bool) → IsSite site names flags within → (body : Statements) (x : List ℕ) (q : PrivateScalar) → PrivateStands names site body x q → q.place ≡ place_of site x []
private_place names site flags within h body x q p =
    p.place ∙ place_at names site within flags h q.slot x (first_found _ names.0 q.slot (sym p.slot)).3 (slot_stands names.0 x q.slot (sym p.slot))

pub unset_still : (qs : List PrivateScalar) → Leaves (unset_all qs)
unset_still [] s h = refl
unset_still (q ∷ qs) s h =
    let e = unset_is q.place s ∙ stored_still q.place None s h in
    unset_still qs (unset_at q.place s) (subst (λ (z : Standing). goes_on z.kept.seen ≡ false) (sym e) h) ∙ e

pub unset_follow : (names : Names) (site : Site) (flags : List Bool) (within : Bool) → IsSite site names flags within → (body : Statements) (xs : List (List ℕ)) (qs : List PrivateScalar) → PrivatesStand names site body xs qs
    → (s : Standing) (c : Cells) → Lands s c → Follows s (record { log = unset_log site xs; out = Ok (with_all_unset site xs c) }) (Lands (unset_all qs s)) (unset_all qs s)
unset_follow names site flags within h body [] [] p s c l = record { kept = refl; scene = refl; value = λ g. (c, (refl, l)); tape = λ g. refl }
unset_follow names site flags within h body [] (q ∷ qs) p s c l = absurd p
unset_follow names site flags within h body (x ∷ xs) [] p s c l = absurd p
unset_follow names site flags within h body (x ∷ xs) (q ∷ qs) p s c l =
    let o = place_of site x [] in
    let e : unset_at q.place s ≡ stored_at o None s = unset_is q.place s ∙ ap (λ z. stored_at z None s) (private_place names site flags within h body x q p.0) in
    let m = stored_at o None s in
    let d = set_cells_at o None c in
    let r = unset_all qs m in
    subst (λ (z : Standing). Follows s (record { log = unset_log site (x ∷ xs); out = Ok (with_all_unset site (x ∷ xs) c) }) (Lands (unset_all qs z)) (unset_all qs z)) (sym e)
    (follows_then s m r (record { log = set_log_at o None; out = Ok d }) (λ y. record { log = unset_log site xs; out = Ok (with_all_unset site xs d) }) (Lands m) (Lands r) (placed_follows s c o None l refl)
    (λ g y i j. unset_follow names site flags within h body xs qs p.1 m d (lands_out y d m i j))
    (λ g. rests_at m r (unset_still qs m g)))

-- ---- private scalars' words

pub privates_still : (qs : List PrivateScalar) → Leaves (privates_run qs)
privates_still [] s h = refl
privates_still (q ∷ qs) s h =
    let v = content_at s.kept.cells q.place in
    let e = still_pushed_if q.pushes s v h in
    privates_still qs (pushed_if q.pushes v s) (subst (λ (z : Standing). goes_on z.kept.seen ≡ false) (sym e) h) ∙ e

content_at_bare : (c : Cells) (o : Option ℕ) → with_tangent 0 (content_at (cells_along [] c) o) ≡ with_tangent 0 (content_at c o)
content_at_bare c None = refl
content_at_bare c (Some p) = ap (with_tangent 0) (content_bare c p) ∙ bare_twice (content c p)

word_or_not : {Y : Type 0} (b : Bool) (s r : Standing) (v w : Option Value) (u : Traced TrapAt Y) (Q : Y → Type 0) → with_tangent 0 v ≡ with_tangent 0 w
    → Follows (pushed_if b v s) u Q r → Follows s (after (if b then single (pushes (with_tangent 0 w)) else silence) u) Q r
word_or_not true s r v w u Q e f = word_follows s r v w u Q e f
word_or_not false s r v w u Q e f = follows_after s s r silence u Q refl refl (λ g. refl) f

pub privates_follow : (names : Names) (site : Site) (flags : List Bool) (within : Bool) → IsSite site names flags within → (body : Statements) (xs : List (List ℕ)) (qs : List PrivateScalar) → PrivatesStand names site body xs qs
    → (s : Standing) (c : Cells) → Lands s c → Follows s (with_log (private_words site body xs c) c) (Lands (privates_run qs s)) (privates_run qs s)
privates_follow names site flags within h body [] [] p s c l = record { kept = refl; scene = refl; value = λ g. (c, (refl, l)); tape = λ g. refl }
privates_follow names site flags within h body [] (q ∷ qs) p s c l = absurd p
privates_follow names site flags within h body (x ∷ xs) [] p s c l = absurd p
privates_follow names site flags within h body (x ∷ xs) (q ∷ qs) p s c l =
    let b = assigns_in x body && site.pushed x in
    let o = place_of site x [] in
    let v = content_at s.kept.cells q.place in
    let m = pushed_if q.pushes v s in
    let r = privates_run qs m in
    let e : with_tangent 0 v ≡ with_tangent 0 (content_at c o) =
    ap (λ z. with_tangent 0 (content_at s.kept.cells z)) (private_place names site flags within h body x q p.0) ∙ ap (λ (z : Cells). with_tangent 0 (content_at z o)) l ∙ content_at_bare c o in
    subst (λ z. Follows s (after (if z then single (pushes (with_tangent 0 (content_at c o))) else silence) (with_log (private_words site body xs c) c)) (Lands r) r) p.0.pushing
    (word_or_not q.pushes s r v (content_at c o) (with_log (private_words site body xs c) c) (Lands r) e
    (privates_follow names site flags within h body xs qs p.1 m c (pushed_if_cells q.pushes s v ∙ l)))

-- ---- the variables of parallel loops

-- the collapsed loop's head stands beside its count
abbrev pub FurtherIs : Site → Option Head → Further → Type 0
FurtherIs site None None = Unit {0}
FurtherIs site None (Some u) = ⊥
FurtherIs site (Some x) None = ⊥
FurtherIs site (Some x) (Some u) = u.0 ≡ place_of site x.var []

abbrev pub further_counts : Option Head → Further → Heads
further_counts None more = []
further_counts (Some x) None = []
further_counts (Some x) (Some u) = (x.var, u.1) ∷ []

pub variables_follow : (names : Names) (site : Site) (var : List ℕ) (place : Option ℕ) (t : IterationCount) (o : Option Head) (more : Further) (k : ℕ) (f : Run) (m : Standing → Standing)
    → place ≡ place_of site var [] → FurtherIs site o more → HeadsFit site ((var, t) ∷ further_counts o more) → k < iterations ((var, t) ∷ further_counts o more)
    → BodyFollows names site true f m → Leaves m → BodyFollows names site true (with_variables site ((var, t) ∷ further_counts o more) k f) (λ s. m (variables_run place t more k s))
variables_follow names site var place t None None k f m e i fit below h still s c b =
    subst (λ (z : Standing). Follows s (with_variable site var (value_at t k) f c) (Lands (m z)) (m z)) (sym (variable_is place t k s))
    (variable_follows names site true var (value_at t k) place f m e fit.0 (turn_index t k fit.1 below) h still s c b)
variables_follow names site var place t None (Some u) k f m e i fit below h still s c b = absurd i
variables_follow names site var place t (Some x) None k f m e i fit below h still s c b = absurd i
variables_follow names site var place t (Some x) (Some u) k f m e i fit below h still s c b =
    let n = u.1.count in
    let y = value_at t (k / n) in
    let z = value_at u.1 (k % n) in
    let inner : Standing → Standing = λ a. m (stored_at u.0 (Some (Index z)) a) in
    let w : variables_run place t (Some u) k s ≡ stored_at u.0 (Some (Index z)) (stored_at place (Some (Index y)) s) =
    variable_is u.0 u.1 (k % n) (variable_run place t (k / n) s) ∙ ap (stored_at u.0 (Some (Index z))) (variable_is place t (k / n) s) in
    subst (λ (a : Standing). Follows s (with_variable site var y (with_variable site x.var z f) c) (Lands (m a)) (m a)) (sym w)
    (variable_follows names site true var y place (with_variable site x.var z f) inner e fit.0 (turn_index t (k / n) fit.1 (quotient_below k t.count n below))
    (variable_follows names site true x.var z u.0 f m i fit.2.0 (turn_index u.1 (k % n) fit.2.1 (remainder_below k n (rest_positive k t.count n below))) h still)
    (still_both (stored_at u.0 (Some (Index z))) m (stored_still u.0 (Some (Index z))) still) s c b)
