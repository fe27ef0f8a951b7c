-- A plain assignment and an increment do what the meaning tells.
use Rattle.std.specs.Prelude.{◌≡◌, ℕ, ℤ, ◌+◌, ◌<◌, ◌^◌, ◌%◌, Bool, true, false, not, ◌&&◌, if◌then◌else◌, nat_lt, List, [], ◌∷◌, ◌++◌, map, length, Option, Some, None, is_some, Result, Ok, Err, slice_set, refl}
use Rattle.std.specs.List.{list_all}
use Rattle.std.proofs.Common.{ap, sym, subst, ◌∙◌, arith}
use Rattle.std.proofs.lemmas.Bool.{and_parts}
use Rattle.std.proofs.lemmas.Bool.Decides.{nat_tests}
use Rattle.std.proofs.lemmas.List.{append-nil}
use Rattle.ring_core.specs.Ring.{ring_add, ring_sub}
use Rattle.ring_core.proofs.Modular.{modular, modulo}
use Rattle.fl_ast.specs.declared.kind.Kind.{Kind}
use Rattle.fl_ast.specs.declared.kind.Kind.TheVariants as kind
use Rattle.fl_ast.specs.Tree.{Expression, Designator}
use Rattle.fl_types.specs.declared.access.AccessKind.{AccessKind}
use Rattle.fl_types.specs.declared.access.AccessKind.TheVariants.{Write}
use Rattle.fl_types.specs.Increment.{Signed}
use Rattle.meaning.specs.declared.value.Dual.{Dual}
use Rattle.meaning.specs.declared.value.Value.{Value}
use Rattle.meaning.specs.declared.value.Value.TheVariants.{Index, Ring}
use Rattle.meaning.specs.declared.value.Cause.{Cause}
use Rattle.meaning.specs.declared.value.Cause.TheVariants as cause
use Rattle.meaning.specs.Values.{dual_add, dual_sub, as_dual, as_kind, whole_numbers}
use Rattle.meaning.specs.Logs.{pushes, traps, tells, Log, silence, single, both, right_side, notes_in, Traced, pure, lift, after, continuation, ◌>>=◌, inside, at_line}
use Rattle.meaning.specs.Sites.{Cells, with_tangent, Site, place_of, kind_of}
use Rattle.meaning.specs.Adjoints.{cells_along}
use Rattle.meaning.specs.Expressions.{after_touch, content, value_of, values_of}
use Rattle.meaning.specs.Statements.{store_at, after_push, put, plain_assignment, terms_of, incremented_dual, increment_cell, increment_place, increment}
use Rattle.meaning.proofs.Gives.{Gives, line_gives}
use Rattle.meaning.proofs.Placing.{HoldsKind}
use Rattle.resolved.specs.SlotTables.{Names, kind_at}
use Rattle.resolved.specs.ResolvedExprs.{slot_name}
use Rattle.dual_evaluation.specs.declared.stop.Halt.TheVariants.{Bounds, Unset}
use Rattle.dual_evaluation.specs.Answers.{location_of}
use Rattle.sweep_trees.specs.Split.{SpotTree, IndexTree, RingTree}
use Rattle.sweep_trees.specs.Standing.{spot_back, index_back, ring_back, is_spot_fit, is_index_fit, is_widened, is_ring_fit}
use Rattle.split_trees.specs.Codes.{CodeTree, ring_code, index_code, code_back, is_code_fit}
use Rattle.sweep_steps.specs.Steps.{TermTree}
use Rattle.sweep_steps.specs.StepsStand.{flags_at, signed_back}
use Rattle.sweep_evaluation.specs.Machine.{Ran, ran, spot_slot, is_accessed, spot_place, index_value, ring_value}
use Rattle.sweep_law.specs.Telling.{Scene, ForwardTape, Standing, told, goes_on, IsNumber, IsWord, IsSame}
use Rattle.forward_state.specs.Steps.{set_at}
use Rattle.forward_state.specs.Steps.{pushed_if}
use Rattle.forward_sweep.specs.Machine.{plain, code_value, put_at, slot_kind, assign_run, terms_sum, add_at, add, update_run}
use Rattle.forward_state.specs.Steps.{touched_if}
use Rattle.forward_sweep.specs.Machine.{put as put_on}
use Rattle.forward_law.specs.Forward.{unlined, Beside}
use Rattle.forward_law.proofs.Following.{taped, Follows, Lands}
use Rattle.forward_law.proofs.Combining.{Alike, alike_follows, weaker, rests_at, follows_line}
use Rattle.forward_law.proofs.Stillness.{still_spot, still_put, still_add, still_terms, still_ring}
use Rattle.forward_law.proofs.Leaves.{Settles, index_settles, ring_settles, spot_settles, settles_ran, settles_then, settles_stop, site_here, beside_after}
use Rattle.forward_law.proofs.Noting.{bare_twice, content_bare, long_bare, touched_by, touched_is, touched_cells, touched_scene, touched_follows, pushed_follows, pushed_if_cells, set_follows}
use Rattle.forward_law.proofs.Targets.{IsTarget, target_at, slot_named, IsPlace, location_gives}

-- ---- the right side

-- the same value but for its tangent
abbrev pub IsBare : Value → Value → Type 0
IsBare v w = with_tangent 0 (Some w) ≡ with_tangent 0 (Some v)

abbrev ring_part : Option Value → ℕ
ring_part None = 0
ring_part (Some (Index z)) = 0
ring_part (Some (Ring d)) = d.value

kind_bare : (k : Kind) (v w : Value) → IsBare v w → IsBare (as_kind k v) (as_kind k w)
kind_bare kind.Index v w e = e
kind_bare kind.Ring (Index x) (Index y) e = let q : y ≡ x = cc in rw q refl
kind_bare kind.Ring (Ring a) (Ring b) e = e
kind_bare kind.Ring (Index x) (Ring b) e = absurd (cc)
kind_bare kind.Ring (Ring a) (Index y) e = absurd (cc)

settles_mapped : {X A B : Type 0} (s : Standing) (t : Traced Cause X) (R : X → A → Type 0) (Q : X → B → Type 0) (m : Ran Standing A) (b : B) → ((x : X) → R x m.out → Q x b) → Settles s t R m → Settles s t Q (ran b m.state)
settles_mapped s t R Q m b h d = record { follows = weaker s (at_line s.scene.line t) (λ x. R x m.out) (λ x. Q x b) m.state (λ x g r. h x r) d.follows; cells = d.cells; scene = d.scene; same_tape = d.same_tape }

word_bared : (v : Value) (x : ℕ) → IsWord false v x → IsBare v (plain x)
word_bared (Ring d) x r = rw r.0 refl
word_bared (Index z) x r = absurd (r.1 refl)

number_bared : (v : Value) (z : ℤ) → IsNumber v z → IsBare v (Index z)
number_bared v z e = rw e refl

code_settles : (names : Names) (site : Site) (within : Bool) (s : Standing) (c : Cells) → Beside names site within s c → (a : CodeTree) → is_code_fit names (flags_at names site) a ≡ true
    → Settles s (value_of (code_back names.0 a) site c) IsBare (code_value names a s)
code_settles names site within s c b (ring_code a) h =
    let q = and_parts (not (is_widened a)) (is_ring_fit names (flags_at names site) a) h in
    settles_mapped s (value_of (ring_back names.0 a) site c) (IsWord (is_widened a)) IsBare (ring_value told names a s) (plain (ring_value told names a s).out)
    (λ v r. word_bared v (ring_value told names a s).out (subst (λ (f : Bool). IsWord f v (ring_value told names a s).out) (not_true (is_widened a) q.0) r)) (ring_settles names site within s c b a q.1)
  where
    not_true : (x : Bool) → not x ≡ true → x ≡ false
    not_true true e = cc
    not_true false e = refl
code_settles names site within s c b (index_code i) h =
    settles_mapped s (value_of (index_back names.0 i) site c) IsNumber IsBare (index_value told names i s) (Index (index_value told names i s).out) (λ v r. number_bared v (index_value told names i s).out r) (index_settles names site within s c b i h)

-- ---- places

inside_by : {A : Type 0} (line : ℕ) (x : List ℕ) (l : Log) (r : Result A Cause) → Alike (at_line line (inside (right_side x) (record { log = l; out = r }))) (at_line line (record { log = l; out = r }))
inside_by line x l (Ok a) = record { notes = λ k. refl; tapes = λ w. refl; out = refl }
inside_by line x l (Err e) = record { notes = λ k. refl; tapes = λ w. refl; out = refl }

right_side_alike : {A : Type 0} (line : ℕ) (x : List ℕ) (t : Traced Cause A) → Alike (at_line line (inside (right_side x) t)) (at_line line t)
right_side_alike line x t = inside_by line x t.log t.out

one_less : {Y : Type 0} (line : ℕ) (l m : Log) (r : Result Y Cause) → Alike (at_line line (after l (record { log = m; out = r }))) (at_line line (after (both l silence) (record { log = m; out = r })))
one_less line l m (Ok y) = record { notes = λ k. ap (λ ns. ns ++ notes_in k m) (sym (append-nil (notes_in k l))); tapes = λ w. refl; out = refl }
one_less line l m (Err e) = record { notes = λ k. ap (λ ns. (ns ++ notes_in k m) ++ tells (traps (record { line = line; cause = e })) ∷ []) (sym (append-nil (notes_in k l))); tapes = λ w. refl; out = refl }

located_by : {X Y : Type 0} (line : ℕ) (l : Log) (r : Result X Cause) (f : X → Option ℕ) (g : Option ℕ → Traced Cause Y)
    → Alike (at_line line (continuation l r (λ x. g (f x)))) (at_line line (continuation {X = Cause} l r (λ x. pure (f x)) >>= g))
located_by line l (Ok x) f g = one_less line l (g (f x)).log (g (f x)).out
located_by line l (Err e) f g = record { notes = λ k. refl; tapes = λ w. refl; out = refl }

located_alike : {Y : Type 0} (line : ℕ) (site : Site) (c : Cells) (p : Designator) (g : Option ℕ → Traced Cause Y)
    → Alike (at_line line (values_of p.subscripts site c >>= (λ vs. g (place_of site p.name (whole_numbers vs))))) (at_line line (location_of site c p >>= g))
located_alike line site c p g = located_by line (values_of p.subscripts site c).log (values_of p.subscripts site c).out (λ vs. place_of site p.name (whole_numbers vs)) g

-- the place of a target, and then what is done there
target_follows : (line : ℕ) (names : Names) (site : Site) (within : Bool) (s r : Standing) (c : Cells) → s.scene.line ≡ line → Beside names site within s c → (of_kind : Kind → Bool) (p : SpotTree) → is_spot_fit names (flags_at names site) of_kind p ≡ true
    → (g : Option ℕ → Traced Cause Cells)
    → (let m = spot_place told names p s in
    (goes_on m.state.kept.seen ≡ true → IsPlace site c (spot_back names.0 p).name m.out → Follows m.state (at_line line (g m.out)) (Lands r) r)
    → (goes_on m.state.kept.seen ≡ false → r ≡ m.state)
    → Follows s (at_line line (values_of (spot_back names.0 p).subscripts site c >>= (λ vs. g (place_of site (spot_back names.0 p).name (whole_numbers vs))))) (Lands r) r)
target_follows line names site within s r c e b of_kind p h g f i =
    let m = spot_place told names p s in
    let q = spot_back names.0 p in
    let d = spot_settles names site within s c b of_kind p h in
    let o : Follows s (at_line line (location_of site c q)) (λ x. IsSame x m.out) m.state = subst (λ (n : ℕ). Follows s (at_line n (location_of site c q)) (λ x. IsSame x m.out) m.state) e d.follows in
    let w : Follows s (at_line line (location_of site c q)) (λ x. IsSame x m.out × IsPlace site c q.name x) m.state = record {
      kept = o.kept;
      scene = o.scene;
      value = λ a. let v = o.value a in (v.0, (v.1.0, (v.1.1, line_gives line (location_of site c q) (IsPlace site c q.name) (location_gives site c b.fits q) v.0 v.1.0)));
      tape = o.tape;
    } in
    alike_follows s (at_line line (values_of q.subscripts site c >>= (λ vs. g (place_of site q.name (whole_numbers vs))))) (at_line line (location_of site c q >>= g)) (Lands r) r (located_alike line site c q g)
    (follows_line line s m.state r (location_of site c q) g (λ x. IsSame x m.out × IsPlace site c q.name x) (Lands r) w
    (λ a x y. subst (λ z. Follows m.state (at_line line (g z)) (Lands r) r) (sym y.0) (f a (subst (IsPlace site c q.name) y.0 y.1)))
    (λ a. rests_at m.state r (i a)))

-- ---- plain assignments

abbrev Allowed : Site → List ℕ → Bool → Type 0
Allowed site x old = old ≡ site.pushed x

below_test : (a b : ℕ) → a < b → nat_lt a b ≡ true
below_test a b h = grind (arith, nat_tests)

put_at_follows : (line : ℕ) (names : Names) (site : Site) (s : Standing) (c : Cells) (x : List ℕ) (accessed old : Bool) (v w : Value) (p : ℕ) → s.kept.cells ≡ cells_along [] c
    → site.accessed x ≡ (accessed && is_some s.scene.around) → Allowed site x old → p < length c → IsBare v w
    → Follows s (at_line line (after_touch site x p Write (after_push site x (content c p) (store_at c p v)))) (Lands (put_at accessed old w p s)) (put_at accessed old w p s)
put_at_follows line names site s c x accessed old v w p h a o below e =
    let b = accessed && is_some s.scene.around in
    let f : nat_lt p (length s.kept.cells) ≡ true = ap (λ (cs : Cells). nat_lt p (length cs)) h ∙ ap (nat_lt p) (long_bare c) ∙ below_test p (length c) below in
    subst (λ (t : Standing). Follows s (at_line line (after_touch site x p Write (after_push site x (content c p) (store_at c p v)))) (Lands (stored t)) (stored t)) (sym (touched_is accessed p Write s f))
    (rw (a, sym o) (touched_follows line b p Write s (stored (touched_by b p Write s)) (if old then after (single (pushes (with_tangent 0 (content c p)))) (store_at c p v) else store_at c p v) (Lands (stored (touched_by b p Write s)))
    (after_that (touched_by b p Write s) (touched_cells b p Write s ∙ h))))
  where
    stored : Standing → Standing
    stored t = set_at (pushed_if old (content t.kept.cells p) t) p (Some w)

    after_that : (t : Standing) → t.kept.cells ≡ cells_along [] c
        → Follows t (at_line line (if old then after (single (pushes (with_tangent 0 (content c p)))) (store_at c p v) else store_at c p v)) (Lands (stored t)) (stored t)
    after_that t i =
        let m = pushed_if old (content t.kept.cells p) t in
        pushed_follows line old t (stored t) (content t.kept.cells p) (content c p) (store_at c p v) (Lands (stored t))
        (ap (λ (cs : Cells). with_tangent 0 (content cs p)) i ∙ ap (with_tangent 0) (content_bare c p) ∙ bare_twice (content c p))
        (set_follows m c p (Some w) (Some v) (pushed_if_cells old t (content t.kept.cells p) ∙ i) e)

slot_kind_is : (names : Names) (slot : ℕ) → slot < length names.0 → slot_kind names slot ≡ kind_at names.1 slot
slot_kind_is names slot b = let e : nat_lt slot (length names.0) ≡ true = grind (arith, nat_tests) in rw e refl

put_follows : (line : ℕ) (names : Names) (site : Site) (s : Standing) (c : Cells) → s.scene.line ≡ line → s.scene.names ≡ names → s.kept.cells ≡ cells_along [] c → (target : SpotTree)
    → IsTarget names site (is_some s.scene.around) (spot_slot target) (is_accessed target)
    → (old : Bool) → Allowed site (slot_name names.0 (spot_slot target)) old → (v w : Value) → IsBare v w → (o : Option ℕ) → IsPlace site c (slot_name names.0 (spot_slot target)) o
    → Follows s (at_line line (put site c (slot_name names.0 (spot_slot target)) v o)) (Lands (put_on names old target w o s)) (put_on names old target w o s)
put_follows line names site s c l n h target t old i v w e None p =
    let x = slot_name names.0 (spot_slot target) in
    subst (λ (m : ℕ). Follows s (at_line m (put site c x v None)) (Lands (put_on names old target w None s)) (put_on names old target w None s)) l
    (settles_stop {X = Cells} {A = Unit {0}} s (λ d u. Lands (put_on names old target w None s) d) (Bounds (spot_slot target)) (cause.Bounds x) tt (ap (λ (ns : Names). cause.Bounds (slot_name ns.0 (spot_slot target))) n)).follows
put_follows line names site s c l n h target t old i v w e (Some p) q =
    subst (λ (k : Kind). Follows s (at_line line (put site c (slot_name names.0 (spot_slot target)) v (Some p))) (Lands (put_at (is_accessed target) old (as_kind k w) p s)) (put_at (is_accessed target) old (as_kind k w) p s))
    (sym (slot_kind_is names (spot_slot target) t.below))
    (rw t.kind (put_at_follows line names site s c (slot_name names.0 (spot_slot target)) (is_accessed target) old (as_kind (kind_at names.1 (spot_slot target)) v) (as_kind (kind_at names.1 (spot_slot target)) w) p h t.access i (q p refl).0
    (kind_bare (kind_at names.1 (spot_slot target)) v w e)))

-- from where the sweep stands beside the cells
put_beside : (line : ℕ) (names : Names) (site : Site) (within : Bool) (s : Standing) (c : Cells) → s.scene.line ≡ line → Beside names site within s c → (of_kind : Kind → Bool) (target : SpotTree) → is_spot_fit names (flags_at names site) of_kind target ≡ true
    → (old : Bool) → Allowed site (spot_back names.0 target).name old → (v w : Value) → IsBare v w → (o : Option ℕ) → IsPlace site c (spot_back names.0 target).name o
    → Follows s (at_line line (put site c (spot_back names.0 target).name v o)) (Lands (put_on names old target w o s)) (put_on names old target w o s)
put_beside line names site within s c l b of_kind target h old i v w e o p =
    let q = slot_named names.0 target in
    let r = put_on names old target w o s in
    subst (λ x. Follows s (at_line line (put site c x v o)) (Lands r) r) (sym q)
    (put_follows line names site s c l b.named b.cells target (target_at names site (flags_at names site) (is_some s.scene.around) (site_here names site within s c b) of_kind target h) old (subst (λ x. Allowed site x old) q i) v w e o
    (subst (λ x. IsPlace site c x o) q p))

-- after a stop the place is looked for, and nothing is left
stopped_then : (names : Names) (target : SpotTree) (s r : Standing) → goes_on s.kept.seen ≡ false → (goes_on (spot_place told names target s).state.kept.seen ≡ false → r ≡ (spot_place told names target s).state) → r ≡ s
stopped_then names target s r g f =
    let x = still_spot names target s g in
    f (subst (λ (z : Standing). goes_on z.kept.seen ≡ false) (sym x) g) ∙ x

pub assigned_follows : (names : Names) (site : Site) (within : Bool) (s : Standing) (c : Cells) → Beside names site within s c → (of_kind : Kind → Bool) (target : SpotTree) → is_spot_fit names (flags_at names site) of_kind target ≡ true
    → (old : Bool) → Allowed site (spot_back names.0 target).name old → (a : CodeTree) → is_code_fit names (flags_at names site) a ≡ true
    → Follows s (at_line s.scene.line (plain_assignment site c (spot_back names.0 target) (code_back names.0 a))) (Lands (assign_run names old target a s)) (assign_run names old target a s)
assigned_follows names site within s c b of_kind target h old i a k =
    let line = s.scene.line in
    let q = spot_back names.0 target in
    let e = code_back names.0 a in
    let m = code_value names a s in
    let d = code_settles names site within s c b a k in
    let n = spot_place told names target m.state in
    let r = assign_run names old target a s in
    let bm = beside_after names site within s c (value_of e site c) IsBare m d b in
    let dn = spot_settles names site within m.state c bm of_kind target h in
    let bn = beside_after names site within m.state c (location_of site c q) IsSame n dn bm in
    let lm : m.state.scene.line ≡ line = ap (λ (z : Scene). z.line) d.scene in
    let ln : n.state.scene.line ≡ line = ap (λ (z : Scene). z.line) dn.scene ∙ lm in
    let rest : goes_on n.state.kept.seen ≡ false → r ≡ n.state = λ g. still_put names old target m.out n.out n.state g in
    follows_line line s m.state r (inside (right_side q.name) (value_of e site c)) (λ v. values_of q.subscripts site c >>= (λ vs. put site c q.name v (place_of site q.name (whole_numbers vs)))) (λ v. IsBare v m.out) (Lands r)
    (alike_follows s (at_line line (inside (right_side q.name) (value_of e site c))) (at_line line (value_of e site c)) (λ v. IsBare v m.out) m.state (right_side_alike line q.name (value_of e site c)) d.follows)
    (λ g v x. target_follows line names site within m.state r c lm bm of_kind target h (put site c q.name v) (λ f p. put_beside line names site within n.state c ln bn of_kind target h old i v m.out x n.out p) rest)
    (λ g. rests_at m.state r (stopped_then names target m.state r g rest))

-- ---- increments

-- from x the terms add up to y
abbrev pub SumsFrom : ℕ → List (Bool × Dual) → ℕ → Type 0
SumsFrom x ds y = (d : Dual) (z : ℕ) → d.value ≡ ring_add z x → (incremented_dual ds d).value ≡ ring_add z y

sub_more : (z x y a : ℕ) → a ≡ ring_add z x → ring_sub a y ≡ ring_add z (ring_sub x y)
sub_more z x y a e = rw e (let q : ring_sub (ring_add z x) y ≡ ring_add z (ring_sub x y) = simp modular (modulo (omega arith)) in q)

add_more : (z x y a : ℕ) → a ≡ ring_add z x → ring_add a y ≡ ring_add z (ring_add x y)
add_more z x y a e = rw e (let q : ring_add (ring_add z x) y ≡ ring_add z (ring_add x y) = simp modular (modulo (omega arith)) in q)

one_more : (minus : Bool) (x y : ℕ) (v : Value) (ds : List (Bool × Dual)) (n : ℕ) → (as_dual v).value ≡ y → SumsFrom (if minus then ring_sub x y else ring_add x y) ds n → SumsFrom x ((minus, as_dual v) ∷ ds) n
one_more true x y v ds n e h d z i = h (dual_sub d (as_dual v)) z (ap (ring_sub d.value) e ∙ sub_more z x y d.value i)
one_more false x y v ds n e h d z i = h (dual_add d (as_dual v)) z (ap (ring_add d.value) e ∙ add_more z x y d.value i)

terms_settle : (names : Names) (site : Site) (within : Bool) (s : Standing) (c : Cells) → Beside names site within s c → (rs : List TermTree) → list_all (λ (t : TermTree). is_ring_fit names (flags_at names site) t.1) rs ≡ true → (x : ℕ)
    → Settles s (terms_of (map (signed_back names.0) rs) site c) (SumsFrom x) (terms_sum names rs x s)
terms_settle names site within s c b [] h x = settles_ran s (SumsFrom x) [] x (λ d z e. e)
terms_settle names site within s c b (r ∷ rs) h x =
    let p = and_parts (is_ring_fit names (flags_at names site) r.1) (list_all (λ (t : TermTree). is_ring_fit names (flags_at names site) t.1) rs) h in
    let m = ring_value told names r.1 s in
    let y = if r.0 then ring_sub x m.out else ring_add x m.out in
    let d = ring_settles names site within s c b r.1 p.0 in
    let n = terms_sum names rs y m.state in
    let e = terms_settle names site within m.state c (beside_after names site within s c (value_of (ring_back names.0 r.1) site c) (IsWord (is_widened r.1)) m d b) rs p.1 y in
    settles_then s (value_of (ring_back names.0 r.1) site c) (λ v. terms_of (map (signed_back names.0) rs) site c >>= (λ ds. pure ((r.0, as_dual v) ∷ ds))) (IsWord (is_widened r.1)) (SumsFrom x) m n d
    (λ g v w. settles_then m.state (terms_of (map (signed_back names.0) rs) site c) (λ ds. pure ((r.0, as_dual v) ∷ ds)) (SumsFrom y) (SumsFrom x) n n e
    (λ f ds z. settles_ran n.state (SumsFrom x) ((r.0, as_dual v) ∷ ds) n.out (one_more r.0 x m.out v ds n.out w.0 z)) (λ f. refl))
    (λ g. still_terms names rs y m.state g)

held_word : (k : Kind) (v : Value) → k ≡ kind.Ring → HoldsKind k (Some v) → (as_dual v).value < 2 ^ 64
held_word kind.Ring (Ring d) e h = h
held_word kind.Ring (Index z) e h = absurd h
held_word kind.Index v e h = cc

none_more : (a : ℕ) → a < 2 ^ 64 → a ≡ ring_add a 0
none_more a h = omega arith

same_dual : (v w : Value) → with_tangent 0 (Some w) ≡ with_tangent 0 (Some v) → (as_dual w).value ≡ (as_dual v).value
same_dual (Index x) (Index y) e = let q : y ≡ x = cc in rw q refl
same_dual (Ring a) (Ring b) e = ap ring_part e
same_dual (Index x) (Ring b) e = absurd (cc)
same_dual (Ring a) (Index y) e = absurd (cc)

add_some_follows : (line : ℕ) (site : Site) (s : Standing) (c : Cells) (x : List ℕ) (accessed : Bool) (n : AccessKind) (ds : List (Bool × Dual)) (y p : ℕ) (v w : Value) → s.kept.cells ≡ cells_along [] c
    → site.accessed x ≡ (accessed && is_some s.scene.around) → p < length c → SumsFrom 0 ds y → (as_dual v).value < 2 ^ 64 → with_tangent 0 (Some w) ≡ with_tangent 0 (Some v)
    → (let r = set_at (touched_if accessed p n s) p (Some (plain (ring_add (as_dual w).value y))) in
    Follows s (at_line line (after_touch site x p n (store_at c p (Ring (incremented_dual ds (as_dual v)))))) (Lands r) r)
add_some_follows line site s c x accessed n ds y p v w h a below sums small e =
    let b = accessed && is_some s.scene.around in
    let f : nat_lt p (length s.kept.cells) ≡ true = ap (λ (cs : Cells). nat_lt p (length cs)) h ∙ ap (nat_lt p) (long_bare c) ∙ below_test p (length c) below in
    subst (λ (t : Standing). Follows s (at_line line (after_touch site x p n (store_at c p grown))) (Lands (stored t)) (stored t)) (sym (touched_is accessed p n s f))
    (rw a (touched_follows line b p n s (stored (touched_by b p n s)) (store_at c p grown) (Lands (stored (touched_by b p n s)))
    (set_follows (touched_by b p n s) c p (Some (plain (ring_add (as_dual w).value y))) (Some grown) (touched_cells b p n s ∙ h) same)))
  where
    grown : Value
    grown = Ring (incremented_dual ds (as_dual v))

    stored : Standing → Standing
    stored t = set_at t p (Some (plain (ring_add (as_dual w).value y)))

    number : ring_add (as_dual w).value y ≡ (incremented_dual ds (as_dual v)).value
    number = ap (λ z. ring_add z y) (same_dual v w e) ∙ sym (sums (as_dual v) (as_dual v).value (none_more (as_dual v).value small))

    same : with_tangent 0 (Some (plain (ring_add (as_dual w).value y))) ≡ with_tangent 0 (Some grown)
    same = rw number refl

add_cell_follows : (line : ℕ) (names : Names) (site : Site) (s : Standing) (c : Cells) → s.scene.line ≡ line → s.scene.names ≡ names → s.kept.cells ≡ cells_along [] c → (slot : ℕ) (accessed : Bool)
    → site.accessed (slot_name names.0 slot) ≡ (accessed && is_some s.scene.around) → (k : Kind) → k ≡ kind.Ring → (n : AccessKind) (ds : List (Bool × Dual)) (y p : ℕ) → SumsFrom 0 ds y → p < length c
    → (o q : Option Value) → HoldsKind k o → q ≡ with_tangent 0 o
    → Follows s (at_line line (increment_cell site c (slot_name names.0 slot) n ds p o)) (Lands (add_at accessed n y slot p q s)) (add_at accessed n y slot p q s)
add_cell_follows line names site s c l m h slot accessed a k r n ds y p sums below None None f e =
    let x = slot_name names.0 slot in
    subst (λ (j : ℕ). Follows s (at_line j (increment_cell site c x n ds p None)) (Lands (add_at accessed n y slot p None s)) (add_at accessed n y slot p None s)) l
    (settles_stop {X = Cells} {A = Unit {0}} s (λ d u. Lands (add_at accessed n y slot p None s) d) (Unset slot) (cause.Unset x) tt (ap (λ (ns : Names). cause.Unset (slot_name ns.0 slot)) m)).follows
add_cell_follows line names site s c l m h slot accessed a k r n ds y p sums below (Some v) (Some w) f e =
    add_some_follows line site s c (slot_name names.0 slot) accessed n ds y p v w h a below sums (held_word k v r f) (ap (with_tangent 0) e ∙ bare_twice (Some v))
add_cell_follows line names site s c l m h slot accessed a k r n ds y p sums below None (Some w) f e = absurd (cc)
add_cell_follows line names site s c l m h slot accessed a k r n ds y p sums below (Some (Index z)) None f e = absurd (cc)
add_cell_follows line names site s c l m h slot accessed a k r n ds y p sums below (Some (Ring d)) None f e = absurd (cc)

add_follows : (line : ℕ) (names : Names) (site : Site) (s : Standing) (c : Cells) → s.scene.line ≡ line → s.scene.names ≡ names → s.kept.cells ≡ cells_along [] c → (target : SpotTree)
    → IsTarget names site (is_some s.scene.around) (spot_slot target) (is_accessed target) → kind_at names.1 (spot_slot target) ≡ kind.Ring
    → (n : AccessKind) (ds : List (Bool × Dual)) (y : ℕ) → SumsFrom 0 ds y → (o : Option ℕ) → IsPlace site c (slot_name names.0 (spot_slot target)) o
    → Follows s (at_line line (increment_place site c (slot_name names.0 (spot_slot target)) n ds o)) (Lands (add n target y o s)) (add n target y o s)
add_follows line names site s c l m h target t k n ds y sums None p =
    let x = slot_name names.0 (spot_slot target) in
    subst (λ (j : ℕ). Follows s (at_line j (increment_place site c x n ds None)) (Lands (add n target y None s)) (add n target y None s)) l
    (settles_stop {X = Cells} {A = Unit {0}} s (λ d u. Lands (add n target y None s) d) (Bounds (spot_slot target)) (cause.Bounds x) tt (ap (λ (ns : Names). cause.Bounds (slot_name ns.0 (spot_slot target))) m)).follows
add_follows line names site s c l m h target t k n ds y sums (Some p) q =
    let x = slot_name names.0 (spot_slot target) in
    add_cell_follows line names site s c l m h (spot_slot target) (is_accessed target) t.access (kind_of site x) (t.kind ∙ k) n ds y p sums (q p refl).0 (content c p) (content s.kept.cells p) (q p refl).1
    (ap (λ (cs : Cells). content cs p) h ∙ content_bare c p)

add_beside : (line : ℕ) (names : Names) (site : Site) (within : Bool) (s : Standing) (c : Cells) → s.scene.line ≡ line → Beside names site within s c → (of_kind : Kind → Bool) (target : SpotTree) → is_spot_fit names (flags_at names site) of_kind target ≡ true
    → kind_at names.1 (spot_slot target) ≡ kind.Ring → (n : AccessKind) (ds : List (Bool × Dual)) (y : ℕ) → SumsFrom 0 ds y → (o : Option ℕ) → IsPlace site c (spot_back names.0 target).name o
    → Follows s (at_line line (increment_place site c (spot_back names.0 target).name n ds o)) (Lands (add n target y o s)) (add n target y o s)
add_beside line names site within s c l b of_kind target h k n ds y sums o p =
    let q = slot_named names.0 target in
    let r = add n target y o s in
    subst (λ x. Follows s (at_line line (increment_place site c x n ds o)) (Lands r) r) (sym q)
    (add_follows line names site s c l b.named b.cells target (target_at names site (flags_at names site) (is_some s.scene.around) (site_here names site within s c b) of_kind target h) k n ds y sums o (subst (λ x. IsPlace site c x o) q p))

pub updated_follows : (names : Names) (site : Site) (within : Bool) (s : Standing) (c : Cells) → Beside names site within s c → (of_kind : Kind → Bool) (target : SpotTree) → is_spot_fit names (flags_at names site) of_kind target ≡ true
    → kind_at names.1 (spot_slot target) ≡ kind.Ring → (n : AccessKind) (rs : List TermTree) → list_all (λ (t : TermTree). is_ring_fit names (flags_at names site) t.1) rs ≡ true
    → Follows s (at_line s.scene.line (increment site c (spot_back names.0 target) (map (signed_back names.0) rs) n)) (Lands (update_run names n target rs s)) (update_run names n target rs s)
updated_follows names site within s c b of_kind target h k n rs j =
    let line = s.scene.line in
    let q = spot_back names.0 target in
    let e = map (signed_back names.0) rs in
    let m = terms_sum names rs 0 s in
    let d = terms_settle names site within s c b rs j 0 in
    let o = spot_place told names target m.state in
    let r = update_run names n target rs s in
    let bm = beside_after names site within s c (terms_of e site c) (SumsFrom 0) m d b in
    let dn = spot_settles names site within m.state c bm of_kind target h in
    let bn = beside_after names site within m.state c (location_of site c q) IsSame o dn bm in
    let lm : m.state.scene.line ≡ line = ap (λ (z : Scene). z.line) d.scene in
    let ln : o.state.scene.line ≡ line = ap (λ (z : Scene). z.line) dn.scene ∙ lm in
    let rest : goes_on o.state.kept.seen ≡ false → r ≡ o.state = λ g. still_add n target m.out o.out o.state g in
    follows_line line s m.state r (inside (right_side q.name) (terms_of e site c)) (λ ds. values_of q.subscripts site c >>= (λ vs. increment_place site c q.name n ds (place_of site q.name (whole_numbers vs)))) (λ ds. SumsFrom 0 ds m.out) (Lands r)
    (alike_follows s (at_line line (inside (right_side q.name) (terms_of e site c))) (at_line line (terms_of e site c)) (λ ds. SumsFrom 0 ds m.out) m.state (right_side_alike line q.name (terms_of e site c)) d.follows)
    (λ g ds x. target_follows line names site within m.state r c lm bm of_kind target h (increment_place site c q.name n ds) (λ f p. add_beside line names site within o.state c ln bn of_kind target h k n ds m.out x o.out p) rest)
    (λ g. rests_at m.state r (stopped_then names target m.state r g rest))
