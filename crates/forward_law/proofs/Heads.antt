-- Heads of loops, and what begins at a statement.
use Rattle.std.specs.Prelude.{◌≡◌, ℕ, ◌<◌, ℤ, pos, ◌+ℤ◌, ◌-ℤ◌, int_div, Bool, true, false, if◌then◌else◌, List, [], ◌∷◌, length, Option, Some, None, is_some, Result, Ok, Err, refl}
use Rattle.std.specs.Ordering.{int_eq}
use Rattle.std.proofs.Common.{ap, sym, subst, ◌∙◌}
use Rattle.fl_ast.specs.Tree.{Expression}
use Rattle.fl_types.specs.Nests.{Head}
use Rattle.store_core.specs.Bounds.{clipped}
use Rattle.store_core.specs.Keys.{place_in_slot, first_at, same_key}
use Rattle.meaning.specs.declared.value.Value.{Value}
use Rattle.meaning.specs.declared.value.Value.TheVariants.{Index}
use Rattle.meaning.specs.declared.value.Cause.{Cause}
use Rattle.meaning.specs.declared.value.Cause.TheVariants as cause
use Rattle.meaning.specs.declared.value.TrapAt.{TrapAt}
use Rattle.meaning.specs.declared.value.IterationCount.{IterationCount}
use Rattle.meaning.specs.Values.{whole_number}
use Rattle.meaning.specs.Logs.{begins, both, single, pushes, instance, turn, Traced, pure, lift, after, ◌>>=◌, inside, at_line}
use Rattle.meaning.specs.Sites.{Key, Cells, with_tangent, Site, place_of}
use Rattle.meaning.specs.Adjoints.{cells_along}
use Rattle.meaning.specs.Expressions.{value_of}
use Rattle.meaning.specs.Statements.{Run, with_log, turns_by, step_value, turns_of, value_at, set_log_at, loop_words}
use Rattle.meaning.specs.Statements.{set_at as set_cells_at}
use Rattle.resolved.specs.SlotTables.{Names}
use Rattle.resolved.specs.ResolvedExprs.{slot_name}
use Rattle.dual_evaluation.specs.declared.stop.Halt.TheVariants.{ZeroDivisor}
use Rattle.dual_evaluation.proofs.Located.{place_by_slot}
use Rattle.sweep_trees.specs.Split.{IndexTree}
use Rattle.sweep_trees.specs.Standing.{index_back, is_index_fit}
use Rattle.split_trees.specs.Codes.{IndexStandsFor}
use Rattle.sweep_steps.specs.Steps.{HeadTree}
use Rattle.sweep_steps.specs.StepsStand.{flags_at, OptionStands, HeadStands}
use Rattle.sweep_evaluation.specs.Machine.{Ran, ran, ◌to◌, index_value}
use Rattle.sweep_law.specs.Telling.{Scene, Standing, told, goes_on, IsNumber, IsSame, IsSite}
use Rattle.forward_state.specs.Steps.{begun, set_at, pushed, on_line}
use Rattle.forward_state.specs.Steps.{unset_at}
use Rattle.forward_sweep.specs.Machine.{step_number, counted, head_run, variable_run, words_run}
use Rattle.forward_law.specs.Forward.{view, unlined, Beside}
use Rattle.forward_law.proofs.Following.{Follows, Lands}
use Rattle.forward_law.proofs.Combining.{Rests, rests_at, Alike, alike_follows, follows_after}
use Rattle.forward_law.proofs.Stillness.{Still, Leaves, still_index, still_step, still_counted, still_to, still_set, still_pushed, still_both}
use Rattle.forward_law.proofs.Leaves.{Settles, index_settles, settles_ran, settles_then, settles_stop, beside_after, beside_moved}
use Rattle.forward_law.proofs.Noting.{noted_cells, set_follows, word_follows, pushed_cells}

-- ---- bounds

number_settles : (names : Names) (site : Site) (within : Bool) (s : Standing) (c : Cells) → Beside names site within s c → (e : Expression) (i : IndexTree) → IndexStandsFor names (flags_at names site) e i
    → Settles s (value_of e site c) IsNumber (index_value told names i s)
number_settles names site within s c b e i h = subst (λ (x : Expression). Settles s (value_of x site c) IsNumber (index_value told names i s)) h.back (index_settles names site within s c b i h.fit)

step_settles : (names : Names) (site : Site) (within : Bool) (s : Standing) (c : Cells) → Beside names site within s c → (o : Option Expression) (i : Option IndexTree) → OptionStands names (flags_at names site) o i
    → Settles s (step_value o site c) IsNumber (step_number names i s)
step_settles names site within s c b None None h = settles_ran s IsNumber (Index (pos 1)) (pos 1) refl
step_settles names site within s c b None (Some i) h = absurd h
step_settles names site within s c b (Some e) None h = absurd h
step_settles names site within s c b (Some e) (Some i) h = number_settles names site within s c b e i h

counted_settles : (s : Standing) (x y z : ℤ) → Settles s (turns_by x y z) IsSame (counted x y z s)
counted_settles s x y z = by_test (int_eq z (pos 0))
  where
    none : IterationCount
    none = record { first = x; last = y; step = z; count = 0 }

    some : IterationCount
    some = record { first = x; last = y; step = z; count = clipped (int_div ((y -ℤ x) +ℤ z) z) }

    by_test : (b : Bool) → Settles s (if b then lift {X = Cause} {A = IterationCount} (Err cause.ZeroDivisor) else pure some) IsSame (if b then ran none (told.stopped s ZeroDivisor) else ran some s)
    by_test true = settles_stop s IsSame ZeroDivisor cause.ZeroDivisor none refl
    by_test false = settles_ran s IsSame some some refl

-- the head of a loop, from its line on
pub head_settles : (names : Names) (site : Site) (within : Bool) (s : Standing) (c : Cells) → Beside names site within s c → (h : Head) (t : HeadTree) → HeadStands names (flags_at names site) h t
    → Settles (on_line t.line s) (turns_of h.first h.last h.step site c) IsSame (head_run names t s)
head_settles names site within s c b h t k =
    let w = on_line t.line s in
    let bw = beside_moved names site within s w c refl refl refl b in
    let m = index_value told names t.first w in
    let d = number_settles names site within w c bw h.first t.first k.first in
    let bm = beside_after names site within w c (value_of h.first site c) IsNumber m d bw in
    let n = index_value told names t.last m.state in
    let e = number_settles names site within m.state c bm h.last t.last k.last in
    let bn = beside_after names site within m.state c (value_of h.last site c) IsNumber n e bm in
    let o = step_number names t.step n.state in
    let f = step_settles names site within n.state c bn h.step t.step k.step in
    let r = counted m.out n.out o.out o.state in
    settles_then w (value_of h.first site c) (λ x. value_of h.last site c >>= (λ y. step_value h.step site c >>= (λ z. turns_by (whole_number x) (whole_number y) (whole_number z)))) IsNumber IsSame m r d
    (λ g x p. settles_then m.state (value_of h.last site c) (λ y. step_value h.step site c >>= (λ z. turns_by (whole_number x) (whole_number y) (whole_number z))) IsNumber IsSame n r e
    (λ g' y q. settles_then n.state (step_value h.step site c) (λ z. turns_by (whole_number x) (whole_number y) (whole_number z)) IsNumber IsSame o r f
    (λ g'' z u. rw (p, q, u) (counted_settles o.state m.out n.out o.out))
    (λ g''. still_counted m.out n.out o.out o.state g''))
    (λ g'. still_to (step_number names t.step) (counted m.out n.out) (still_step names t.step) (still_counted m.out n.out) n.state g'))
    (λ g. still_to (index_value told names t.last) (λ y v. step_number names t.step v to counted m.out y) (still_index names t.last)
    (λ y. still_to (step_number names t.step) (counted m.out y) (still_step names t.step) (still_counted m.out y)) m.state g)

-- a line may be left aside
pub from_line : {X : Type 0} (line : ℕ) (s : Standing) (t : Traced TrapAt X) (R : X → Type 0) (r : Standing) → Follows (on_line line s) t R r → Follows s t R r
from_line line s t R r f = record { kept = f.kept; scene = f.scene; value = f.value; tape = f.tape }

-- a head, from before its line
pub head_follows : (names : Names) (site : Site) (within : Bool) (s : Standing) (c : Cells) → Beside names site within s c → (h : Head) (t : HeadTree) → HeadStands names (flags_at names site) h t
    → Follows s (at_line h.line (turns_of h.first h.last h.step site c)) (λ u. IsSame u (head_run names t s).out) (head_run names t s).state
head_follows names site within s c b h t k =
    let m = head_run names t s in
    subst (λ (n : ℕ). Follows s (at_line n (turns_of h.first h.last h.step site c)) (λ u. IsSame u m.out) m.state) k.line
    (from_line t.line s (at_line t.line (turns_of h.first h.last h.step site c)) (λ u. IsSame u m.out) m.state (head_settles names site within s c b h t k).follows)

pub head_rests : (names : Names) (t : HeadTree) (s : Standing) → goes_on s.kept.seen ≡ false → Rests s (head_run names t s).state
head_rests names t s g =
    let w = on_line t.line s in
    let e = still_to (index_value told names t.first) (λ x u. index_value told names t.last u to (λ y v. step_number names t.step v to counted x y)) (still_index names t.first)
    (λ x. still_to (index_value told names t.last) (λ y v. step_number names t.step v to counted x y) (still_index names t.last)
    (λ y. still_to (step_number names t.step) (counted x y) (still_step names t.step) (still_counted x y))) w g in
    let q = rests_at w (head_run names t s).state e in
    record { kept = q.kept; scene = q.scene }

-- where the sweep stands after a head
pub head_beside : (names : Names) (site : Site) (within : Bool) (s : Standing) (c : Cells) → Beside names site within s c → (h : Head) (t : HeadTree) → HeadStands names (flags_at names site) h t → Beside names site within (head_run names t s).state c
head_beside names site within s c b h t k =
    let d = head_settles names site within s c b h t k in
    beside_moved names site within s (head_run names t s).state c d.cells (ap unlined d.scene) d.same_tape b

-- ---- statement instances

pub instance_follows : {Y : Type 0} (s r : Standing) (u : Traced TrapAt Y) (Q : Y → Type 0) → Follows (begun s) u Q r → Follows s (inside instance u) Q r
instance_follows s r u Q f =
    alike_follows s (inside instance u) (after (single begins) u) Q r (record { notes = λ k. refl; tapes = λ w. refl; out = refl }) (follows_after s (begun s) r (single begins) u Q refl refl (λ g. refl) f)

pub turn_follows : {Y : Type 0} (j : ℕ) (s r : Standing) (u : Traced TrapAt Y) (Q : Y → Type 0) → Follows (begun s) u Q r → Follows s (inside (turn j) u) Q r
turn_follows j s r u Q f =
    alike_follows s (inside (turn j) u) (after (single begins) u) Q r (record { notes = λ k. refl; tapes = λ w. refl; out = refl }) (follows_after s (begun s) r (single begins) u Q refl refl (λ g. refl) f)

pub begun_beside : (names : Names) (site : Site) (within : Bool) (s : Standing) (c : Cells) → Beside names site within s c → Beside names site within (begun s) c
begun_beside names site within s c b = beside_moved names site within s (begun s) c (noted_cells s begins) refl refl b

-- ---- variables

abbrev pub stored_at : Option ℕ → Option Value → Standing → Standing
stored_at None v s = s
stored_at (Some p) v s = set_at s p v

pub place_at : (names : Names) (site : Site) (within : Bool) (flags : List Bool) → IsSite site names flags within → (slot : ℕ) (x : List ℕ) → slot < length names.0 → slot_name names.0 slot ≡ x → place_in_slot names.0 slot [] ≡ place_of site x []
place_at names site within flags h slot x below e =
    place_by_slot names slot [] below
    ∙ ap (λ (ks : List Key). first_at (same_key (slot_name names.0 slot, [])) ks) (sym h.keys)
    ∙ ap (λ y. place_of site y []) e

-- a store at the place of a scalar, if it has one
pub placed_follows : (s : Standing) (c : Cells) (o : Option ℕ) (v : Option Value) → s.kept.cells ≡ cells_along [] c → with_tangent 0 v ≡ v
    → Follows s (record { log = set_log_at o v; out = Ok (set_cells_at o v c) }) (Lands (stored_at o v s)) (stored_at o v s)
placed_follows s c None v h e = record { kept = refl; scene = refl; value = λ g. (c, (refl, h)); tape = λ g. refl }
placed_follows s c (Some p) v h e = set_follows s c p v v h refl

pub variable_is : (o : Option ℕ) (t : IterationCount) (k : ℕ) (s : Standing) → variable_run o t k s ≡ stored_at o (Some (Index (value_at t k))) s
variable_is None t k s = refl
variable_is (Some p) t k s = refl

pub unset_is : (o : Option ℕ) (s : Standing) → unset_at o s ≡ stored_at o None s
unset_is None s = refl
unset_is (Some p) s = refl

pub stored_scene : (o : Option ℕ) (v : Option Value) (s : Standing) → unlined (stored_at o v s).scene ≡ unlined s.scene
stored_scene None v s = refl
stored_scene (Some p) v s = refl

pub stored_tape : (o : Option ℕ) (v : Option Value) (s : Standing) → view (stored_at o v s).tape ≡ view s.tape
stored_tape None v s = refl
stored_tape (Some p) v s = refl

pub stored_still : (o : Option ℕ) (v : Option Value) → Leaves (stored_at o v)
stored_still None v s h = refl
stored_still (Some p) v s h = still_set s p v h

-- ---- words of loops

pub number_follows : (s : Standing) (z : ℤ) (d : Cells) → Lands s d → Follows s (with_log (single (pushes (Some (Index z)))) d) (Lands (pushed s (Some (Index z)))) (pushed s (Some (Index z)))
number_follows s z d h =
    let r = pushed s (Some (Index z)) in
    alike_follows s (with_log (single (pushes (Some (Index z)))) d) (after (single (pushes (Some (Index z)))) (pure d)) (Lands r) r (record { notes = λ k. refl; tapes = λ w. refl; out = refl })
    (word_follows s r (Some (Index z)) (Some (Index z)) (pure d) (Lands r) refl (record { kept = refl; scene = refl; value = λ g. (d, (refl, pushed_cells s (Some (Index z)) ∙ h)); tape = λ g. refl }))

pub words_follow : (t : IterationCount) (s : Standing) (d : Cells) → Lands s d → Follows s (with_log (loop_words t) d) (Lands (words_run t s)) (words_run t s)
words_follow t s d h =
    let a = Some (Index t.first) in
    let b = Some (Index t.last) in
    let m = pushed s a in
    let n = pushed m b in
    let r = words_run t s in
    word_follows s r a a (with_log (both (single (pushes b)) (single (pushes (Some (Index t.step))))) d) (Lands r) refl
    (word_follows m r b b (with_log (single (pushes (Some (Index t.step)))) d) (Lands r) refl
    (number_follows n t.step d (pushed_cells m b ∙ pushed_cells s a ∙ h)))

pub words_still : (t : IterationCount) → Leaves (words_run t)
words_still t =
    still_both (λ s. pushed (pushed s (Some (Index t.first))) (Some (Index t.last))) (λ s. pushed s (Some (Index t.step)))
    (still_both (λ s. pushed s (Some (Index t.first))) (λ s. pushed s (Some (Index t.last))) (λ s h. still_pushed s (Some (Index t.first)) h) (λ s h. still_pushed s (Some (Index t.last)) h))
    (λ s h. still_pushed s (Some (Index t.step)) h)
