-- Evaluations of a forward sweep beside those of the meaning.
use Rattle.std.specs.Prelude.{◌≡◌, ℕ, ℤ, Bool, true, false, List, [], Option, is_some, Result, Ok, Err, refl}
use Rattle.std.proofs.Common.{ap, sym, subst, ◌∙◌}
use Rattle.fl_ast.specs.declared.kind.Kind.{Kind}
use Rattle.fl_ast.specs.Tree.{Designator}
use Rattle.meaning.specs.declared.value.Value.{Value}
use Rattle.meaning.specs.declared.value.Value.TheVariants.{Index, Ring}
use Rattle.meaning.specs.declared.value.Cause.{Cause}
use Rattle.meaning.specs.Values.{as_dual, whole_numbers}
use Rattle.meaning.specs.Logs.{Log, Traced, pure, lift, ◌>>=◌, at_line}
use Rattle.meaning.specs.Sites.{Cells, Site, place_of}
use Rattle.meaning.specs.Adjoints.{cells_along}
use Rattle.meaning.specs.Expressions.{value_of, values_of, holds}
use Rattle.meaning.specs.Fitting.{Fits}
use Rattle.meaning.proofs.Entries.{directions_fit}
use Rattle.meaning.proofs.Trios.{Outs, Tells, Trio, Trios, Equals, bind, pured, wholes_trio, value_trio, values_trio, holds_trio}
use Rattle.first_stops.specs.Kept.{Kept}
use Rattle.resolved.specs.SlotTables.{Names}
use Rattle.dual_evaluation.specs.declared.stop.Halt.{Halt}
use Rattle.dual_evaluation.specs.Answers.{halt_cause, location_of}
use Rattle.sweep_trees.specs.Split.{SpotTree, IndexTree, RingTree, TestTree}
use Rattle.sweep_trees.specs.Standing.{spot_back, index_back, ring_back, test_back, is_spot_fit, is_index_fit, is_widened, is_ring_fit, is_test_fit}
use Rattle.sweep_steps.specs.StepsStand.{flags_at}
use Rattle.sweep_evaluation.specs.Machine.{Ran, ran, spot_place, index_value, ring_value, test_value}
use Rattle.sweep_law.specs.Telling.{Scene, ForwardTape, Standing, standing, told, goes_on, stopped_by, IsSite, Comes, IsNumber, IsRing, IsWord, IsSame}
use Rattle.sweep_law.proofs.Combining.{clash, comes_stop, comes_ran}
use Rattle.sweep_law.proofs.Standing.{evaluated}
use Rattle.forward_law.specs.Forward.{view, unlined, Beside}
use Rattle.forward_law.proofs.Following.{Follows}
use Rattle.forward_law.proofs.Combining.{Rests, rests_at, follows_line}
use Rattle.forward_law.proofs.Unseen.{Any, any_closed, bare_trio, moved}
use Rattle.forward_law.proofs.Wordless.{Wordless, value_wordless, holds_wordless, location_wordless, lined_wordless}

-- an evaluation stands at its scene's line, and leaves the cells
pub record Settles {X A : Type 0} (s : Standing) (t : Traced Cause X) (R : X → A → Type 0) (m : Ran Standing A) : Type 0 where
  pub follows : Follows s (at_line s.scene.line t) (λ x. R x m.out) m.state
  pub cells : m.state.kept.cells ≡ s.kept.cells
  pub scene : m.state.scene ≡ s.scene
  pub same_tape : m.state.tape ≡ s.tape

lined_out : {X : Type 0} (line : ℕ) (l : Log) (o : Result X Cause) (x : X) → o ≡ Ok x → (at_line line (record { log = l; out = o })).out ≡ Ok x
lined_out line l (Ok y) x e = let i : y ≡ x = cc in ap Ok i
lined_out line l (Err y) x e = absurd (cc)

settled : {X A : Type 0} (s : Standing) (t : Traced Cause X) (R : X → A → Type 0) (m : Ran Standing A) → Wordless t → Comes s.scene s.tape s.kept t R m → Settles s t R m
settled s t R m w d = record {
  follows = record {
    kept = ap (λ (z : Standing). z.kept) d.state;
    scene = ap (λ (z : Standing). unlined z.scene) d.state;
    value = λ g. let v = d.value g in (v.0, (lined_out s.scene.line t.log t.out v.0 v.1.0, v.1.1));
    tape = λ g. ap (λ (z : Standing). view z.tape) d.state ∙ sym (lined_wordless s.scene.line t w (view s.tape));
  };
  cells = d.cells;
  scene = ap (λ (z : Standing). z.scene) d.state;
  same_tape = ap (λ (z : Standing). z.tape) d.state;
}

-- ---- over cells without tangents

record Told (names : Names) (site : Site) (s : Standing) : Type 0 where
  of_spot : (of_kind : Kind → Bool) (p : SpotTree) → is_spot_fit names (flags_at names site) of_kind p ≡ true
      → Comes s.scene s.tape s.kept (location_of site s.kept.cells (spot_back names.0 p)) IsSame (spot_place told names p s)
  of_index : (i : IndexTree) → is_index_fit names (flags_at names site) i ≡ true
      → Comes s.scene s.tape s.kept (value_of (index_back names.0 i) site s.kept.cells) IsNumber (index_value told names i s)
  of_ring : (a : RingTree) → is_ring_fit names (flags_at names site) a ≡ true
      → Comes s.scene s.tape s.kept (value_of (ring_back names.0 a) site s.kept.cells) (IsWord (is_widened a)) (ring_value told names a s)
  of_test : (a : TestTree) → is_test_fit names (flags_at names site) a ≡ true
      → Comes s.scene s.tape s.kept (holds (test_back names.0 a) site s.kept.cells) IsSame (test_value told names a s)

told_here : (site : Site) (s : Standing) → IsSite site s.scene.names (flags_at s.scene.names site) (is_some s.scene.around) → Fits site s.kept.cells → Told s.scene.names site s
told_here site s h f =
    let d = evaluated s.scene site (flags_at s.scene.names site) h s.tape s.kept f in
    record { of_spot = d.of_spot; of_index = d.of_index; of_ring = d.of_ring; of_test = d.of_test }

told_at : (names : Names) (site : Site) (s : Standing) → s.scene.names ≡ names → IsSite site names (flags_at names site) (is_some s.scene.around) → Fits site s.kept.cells → Told names site s
told_at names site s e h f = subst (λ (ns : Names). Told ns site s) e (told_here site s (subst (λ (ns : Names). IsSite site ns (flags_at ns site) (is_some s.scene.around)) (sym e) h) f)

-- the site where the sweep stands
pub site_here : (names : Names) (site : Site) (inside : Bool) (s : Standing) (c : Cells) → Beside names site inside s c → IsSite site names (flags_at names site) (is_some s.scene.around)
site_here names site inside s c b = subst (IsSite site names (flags_at names site)) (sym b.around) b.site_is

told_by : (names : Names) (site : Site) (inside : Bool) (s : Standing) (c : Cells) → Beside names site inside s c → Told names site s
told_by names site inside s c b = told_at names site s b.named (site_here names site inside s c b) (subst (Fits site) (sym b.cells) ((directions_fit site c []).0 b.fits))

-- ---- over cells with tangents

same_number : (z : ℤ) (x y w : Value) → Trio Any x y w → IsNumber y z → IsNumber x z
same_number z (Index x) (Index y) (Index w) h e = ap Index (sym h.0) ∙ e
same_number z (Ring a) (Ring b) (Ring d) h e = absurd (cc)
same_number z _ _ _ h e = absurd h

same_word : (b : Bool) (n : ℕ) (x y w : Value) → Trio Any x y w → IsWord b y n → IsWord b x n
same_word b n (Index x) (Index y) (Index w) h e = rw (sym h.0) e
same_word b n (Ring a) (Ring c) (Ring d) h e = (sym h.second ∙ e.0, e.1)
same_word b n _ _ _ h e = absurd h

location_trio : (p : Designator) (site : Site) (c d e : Cells) → Tells (Trios Any) (values_of p.subscripts site c) (values_of p.subscripts site d) (values_of p.subscripts site e)
    → Tells Equals (location_of site c p) (location_of site d p) (location_of site e p)
location_trio p site c d e h =
    bind (Trios Any) Equals (values_of p.subscripts site c) (values_of p.subscripts site d) (values_of p.subscripts site e) _ _ _ h
    (λ vs ws us g. let q = wholes_trio Any vs ws us g in pured Equals _ _ _ (ap (place_of site p.name) q.0, ap (place_of site p.name) q.1))

pub index_settles : (names : Names) (site : Site) (inside : Bool) (s : Standing) (c : Cells) → Beside names site inside s c → (i : IndexTree) → is_index_fit names (flags_at names site) i ≡ true
    → Settles s (value_of (index_back names.0 i) site c) IsNumber (index_value told names i s)
index_settles names site inside s c b i h =
    let e = index_back names.0 i in
    let d = cells_along [] c in
    settled s (value_of e site c) IsNumber (index_value told names i s) (value_wordless e site c)
    (moved (Trio Any) s.scene s.tape s.kept (value_of e site c) (value_of e site d) (value_of e site d) IsNumber IsNumber (index_value told names i s) (value_trio Any any_closed e site c d d (bare_trio c))
    (λ x y z q. same_number (index_value told names i s).out x y z q)
    (subst (λ (cs : Cells). Comes s.scene s.tape s.kept (value_of e site cs) IsNumber (index_value told names i s)) b.cells ((told_by names site inside s c b).of_index i h)))

pub ring_settles : (names : Names) (site : Site) (inside : Bool) (s : Standing) (c : Cells) → Beside names site inside s c → (a : RingTree) → is_ring_fit names (flags_at names site) a ≡ true
    → Settles s (value_of (ring_back names.0 a) site c) (IsWord (is_widened a)) (ring_value told names a s)
ring_settles names site inside s c b a h =
    let e = ring_back names.0 a in
    let d = cells_along [] c in
    settled s (value_of e site c) (IsWord (is_widened a)) (ring_value told names a s) (value_wordless e site c)
    (moved (Trio Any) s.scene s.tape s.kept (value_of e site c) (value_of e site d) (value_of e site d) (IsWord (is_widened a)) (IsWord (is_widened a)) (ring_value told names a s) (value_trio Any any_closed e site c d d (bare_trio c))
    (λ x y z q. same_word (is_widened a) (ring_value told names a s).out x y z q)
    (subst (λ (cs : Cells). Comes s.scene s.tape s.kept (value_of e site cs) (IsWord (is_widened a)) (ring_value told names a s)) b.cells ((told_by names site inside s c b).of_ring a h)))

pub test_settles : (names : Names) (site : Site) (inside : Bool) (s : Standing) (c : Cells) → Beside names site inside s c → (a : TestTree) → is_test_fit names (flags_at names site) a ≡ true
    → Settles s (holds (test_back names.0 a) site c) IsSame (test_value told names a s)
test_settles names site inside s c b a h =
    let e = test_back names.0 a in
    let d = cells_along [] c in
    settled s (holds e site c) IsSame (test_value told names a s) (holds_wordless e site c)
    (moved Equals s.scene s.tape s.kept (holds e site c) (holds e site d) (holds e site d) IsSame IsSame (test_value told names a s) (holds_trio Any any_closed e site c d d (bare_trio c))
    (λ x y z q r. sym q.0 ∙ r)
    (subst (λ (cs : Cells). Comes s.scene s.tape s.kept (holds e site cs) IsSame (test_value told names a s)) b.cells ((told_by names site inside s c b).of_test a h)))

pub spot_settles : (names : Names) (site : Site) (inside : Bool) (s : Standing) (c : Cells) → Beside names site inside s c → (of_kind : Kind → Bool) (p : SpotTree) → is_spot_fit names (flags_at names site) of_kind p ≡ true
    → Settles s (location_of site c (spot_back names.0 p)) IsSame (spot_place told names p s)
spot_settles names site inside s c b of_kind p h =
    let e = spot_back names.0 p in
    let d = cells_along [] c in
    settled s (location_of site c e) IsSame (spot_place told names p s) (location_wordless e site c)
    (moved Equals s.scene s.tape s.kept (location_of site c e) (location_of site d e) (location_of site d e) IsSame IsSame (spot_place told names p s) (location_trio e site c d d (values_trio Any any_closed e.subscripts site c d d (bare_trio c)))
    (λ x y z q r. sym q.0 ∙ r)
    (subst (λ (cs : Cells). Comes s.scene s.tape s.kept (location_of site cs e) IsSame (spot_place told names p s)) b.cells ((told_by names site inside s c b).of_spot of_kind p h)))

-- ---- one evaluation and another

pub settles_ran : {X A : Type 0} (s : Standing) (R : X → A → Type 0) (x : X) (a : A) → R x a → Settles s (pure {X = Cause} x) R (ran a s)
settles_ran s R x a h = record { follows = record { kept = refl; scene = refl; value = λ g. (x, (refl, h)); tape = λ g. refl }; cells = refl; scene = refl; same_tape = refl }

pub settles_then : {X Y A B : Type 0} (s : Standing) (t : Traced Cause X) (f : X → Traced Cause Y) (R : X → A → Type 0) (Q : Y → B → Type 0) (m : Ran Standing A) (n : Ran Standing B)
    → Settles s t R m → (goes_on m.state.kept.seen ≡ true → (x : X) → R x m.out → Settles m.state (f x) Q n) → (goes_on m.state.kept.seen ≡ false → n.state ≡ m.state) → Settles s (t >>= f) Q n
settles_then {X} {Y} s t f R Q m n d h p = record {
  follows = follows_line s.scene.line s m.state n.state t f (λ x. R x m.out) (λ y. Q y n.out) d.follows (λ g x e. at_scene x (h g x e)) (λ g. rests_at m.state n.state (p g));
  cells = same_cells (goes_on m.state.kept.seen) refl ∙ d.cells;
  scene = same_scene (goes_on m.state.kept.seen) refl ∙ d.scene;
  same_tape = tapes (goes_on m.state.kept.seen) refl ∙ d.same_tape;
}
  where
    at_scene : (x : X) → Settles m.state (f x) Q n → Follows m.state (at_line s.scene.line (f x)) (λ y. Q y n.out) n.state
    at_scene x e = subst (λ (c : Scene). Follows m.state (at_line c.line (f x)) (λ y. Q y n.out) n.state) d.scene e.follows

    same_cells : (b : Bool) → goes_on m.state.kept.seen ≡ b → n.state.kept.cells ≡ m.state.kept.cells
    same_cells true g = let v = d.follows.value g in (h g v.0 v.1.1).cells
    same_cells false g = ap (λ (z : Standing). z.kept.cells) (p g)

    same_scene : (b : Bool) → goes_on m.state.kept.seen ≡ b → n.state.scene ≡ m.state.scene
    same_scene true g = let v = d.follows.value g in (h g v.0 v.1.1).scene
    same_scene false g = ap (λ (z : Standing). z.scene) (p g)

    tapes : (b : Bool) → goes_on m.state.kept.seen ≡ b → n.state.tape ≡ m.state.tape
    tapes true g = let v = d.follows.value g in (h g v.0 v.1.1).same_tape
    tapes false g = ap (λ (z : Standing). z.tape) (p g)

-- an evaluation that stops
pub settles_stop : {X A : Type 0} (s : Standing) (R : X → A → Type 0) (why : Halt) (cause : Cause) (a : A) → halt_cause s.scene.names.0 why ≡ cause → Settles s (lift {A = X} (Err cause)) R (ran a (told.stopped s why))
settles_stop s R why cause a e =
    let d = comes_stop s.scene s.kept R why cause a e in
    record {
      follows = record { kept = d.told; scene = refl; value = λ g. let v = d.value g in absurd (cc); tape = λ g. refl };
      cells = d.cells;
      scene = refl;
      same_tape = refl;
    }

-- where the sweep stands after an evaluation
pub beside_moved : (names : Names) (site : Site) (inside : Bool) (s r : Standing) (c : Cells) → r.kept.cells ≡ s.kept.cells → unlined r.scene ≡ unlined s.scene → r.tape ≡ s.tape → Beside names site inside s c → Beside names site inside r c
beside_moved names site inside s r c e q t b = record {
  named = ap (λ (z : Scene). z.names) q ∙ b.named;
  limits = ap (λ (z : Scene). z.limits) q ∙ b.limits;
  around = ap (λ (z : Scene). is_some z.around) q ∙ b.around;
  outside = λ o. (ap (λ (z : Scene). z.iteration) q ∙ (b.outside o).0, ap (λ (z : ForwardTape). z.running) t ∙ (b.outside o).1);
  site_is = b.site_is;
  fits = b.fits;
  cells = e ∙ b.cells;
}

pub beside_after : {X A : Type 0} (names : Names) (site : Site) (inside : Bool) (s : Standing) (c : Cells) (t : Traced Cause X) (R : X → A → Type 0) (m : Ran Standing A) → Settles s t R m → Beside names site inside s c → Beside names site inside m.state c
beside_after names site inside s c t R m d b = beside_moved names site inside s m.state c d.cells (ap unlined d.scene) d.same_tape b
