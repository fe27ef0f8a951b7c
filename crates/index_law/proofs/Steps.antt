-- What is known of scalars stays true along a run.
use Rattle.std.proofs.Common.{◌≡◌, ℕ, zero, suc, Bool, true, false, ◌||◌, ℤ, List, [], ◌∷◌, ◌++◌, refl, ap, sym, ◌∙◌, subst, arith, Option, Some, None, Result, Ok}
use Rattle.std.specs.Prelude.{slice_set, bytes_eq, if◌then◌else◌}
use Rattle.std.proofs.lemmas.Int.{ints}
use Rattle.std.proofs.lemmas.Bool.{and_parts}
use Rattle.std.proofs.lemmas.Slice.Eq.{bytes_eq-Decides}
use Rattle.fl_ast.specs.Tree.{Expressions, no_expressions, expression, Statement, assignment, branch, loop, Statements, no_statements, statement, Arms, no_arms, arm}
use Rattle.fl_types.specs.Sharing.{has_name, assigns, assigns_in, assigns_in_arms}
use Rattle.store_core.specs.Scopes.{scopes, scopes_in, scopes_in_arms}
use Rattle.meaning.specs.declared.value.Value.{Value}
use Rattle.meaning.specs.declared.value.Value.TheVariants.{Index}
use Rattle.meaning.specs.declared.value.IterationCount.{IterationCount}
use Rattle.meaning.specs.Logs.{Traced, continuation, ◌>>=◌}
use Rattle.meaning.specs.Sites.{Cells, Site, place_of, in_turn}
use Rattle.meaning.specs.Expressions.{content}
use Rattle.meaning.specs.Statements.{value_at, content_at, set_at, turns, one_turn, run, run_all}
use Rattle.meaning.specs.Sequential.{is_sequential, are_sequential, are_arms_sequential}
use Rattle.meaning.specs.Frame.{content_by_name}
use Rattle.meaning.specs.Reached.{cells_with}
use Rattle.meaning.proofs.Contents.{content_set_other, place_named}
use Rattle.meaning.proofs.Storing.{names_kept}
use Rattle.meaning.proofs.Parts.{bound}
use Rattle.index_forms.specs.declared.form.Side.{Side}
use Rattle.index_forms.specs.Form.{Atom, Form, inner, version}
use Rattle.index_forms.specs.Sums.{value}
use Rattle.index_forms.specs.Formed.{Known, atom_form}
use Rattle.index_forms.specs.Loops.{names_by, names_in, names_in_arms, written_by, written_in}
use Rattle.index_forms.specs.Walk.{without, version_form, known_after, known_inside}
use Rattle.index_law.specs.Worth.{HoldsKnown}
use Rattle.index_law.specs.Steps.{HasStored}

pub or_first : (a b : Bool) → (a || b) ≡ false → a ≡ false
or_first true b h = cc
or_first false b h = refl

pub or_second : (a b : Bool) → (a || b) ≡ false → b ≡ false
or_second true b h = cc
or_second false b h = h

pub or_both : (a b : Bool) → a ≡ false → b ≡ false → (a || b) ≡ false
or_both true b e f = cc
or_both false b e f = f

-- ---- names that a tree doesn't write

has_app : (x : List ℕ) (a b : List (List ℕ)) → has_name x (a ++ b) ≡ (has_name x a || has_name x b)
has_app x [] b = refl
has_app x (y ∷ a) b = by_test (bytes_eq x y) (has_app x a b)
  where
    by_test : (t : Bool) → has_name x (a ++ b) ≡ (has_name x a || has_name x b) → (t || has_name x (a ++ b)) ≡ ((t || has_name x a) || has_name x b)
    by_test true e = refl
    by_test false e = e

mutual
  unwritten : (x : List ℕ) (s : Statement) → is_sequential s ≡ true → has_name x (names_by true s) ≡ false → (assigns x s ≡ false) × (scopes x s ≡ false)
  unwritten x (assignment line atomic p e) q h = (or_first (bytes_eq x p.name) false h, refl)
  unwritten x (branch line arms other) q h =
      let c = and_parts (are_arms_sequential arms) (are_sequential other) q in
      let w : (has_name x (names_in_arms true arms) || has_name x (names_in true other)) ≡ false = sym (has_app x (names_in_arms true arms) (names_in true other)) ∙ h in
      let a = unwritten_arms x arms c.0 (or_first (has_name x (names_in_arms true arms)) (has_name x (names_in true other)) w) in
      let b = unwritten_all x other c.1 (or_second (has_name x (names_in_arms true arms)) (has_name x (names_in true other)) w) in
      (or_both (assigns_in_arms x arms) (assigns_in x other) a.0 b.0, or_both (scopes_in_arms x arms) (scopes_in x other) a.1 b.1)
  unwritten x (loop line number None var low high step body) q h =
      let b = unwritten_all x body q (or_second (bytes_eq x var) (has_name x (names_in true body)) h) in
      (b.0, or_both (bytes_eq x var) (scopes_in x body) (or_first (bytes_eq x var) (has_name x (names_in true body)) h) b.1)
  unwritten x (loop line number (Some d) var low high step body) q h = cc

  pub unwritten_all : (x : List ℕ) (ss : Statements) → are_sequential ss ≡ true → has_name x (names_in true ss) ≡ false → (assigns_in x ss ≡ false) × (scopes_in x ss ≡ false)
  unwritten_all x no_statements q h = (refl, refl)
  unwritten_all x (statement s ss) q h =
      let c = and_parts (is_sequential s) (are_sequential ss) q in
      let w : (has_name x (names_by true s) || has_name x (names_in true ss)) ≡ false = sym (has_app x (names_by true s) (names_in true ss)) ∙ h in
      let a = unwritten x s c.0 (or_first (has_name x (names_by true s)) (has_name x (names_in true ss)) w) in
      let b = unwritten_all x ss c.1 (or_second (has_name x (names_by true s)) (has_name x (names_in true ss)) w) in
      (or_both (assigns x s) (assigns_in x ss) a.0 b.0, or_both (scopes x s) (scopes_in x ss) a.1 b.1)

  unwritten_arms : (x : List ℕ) (arms : Arms) → are_arms_sequential arms ≡ true → has_name x (names_in_arms true arms) ≡ false → (assigns_in_arms x arms ≡ false) × (scopes_in_arms x arms ≡ false)
  unwritten_arms x no_arms q h = (refl, refl)
  unwritten_arms x (arm test body arms) q h =
      let c = and_parts (are_sequential body) (are_arms_sequential arms) q in
      let w : (has_name x (names_in true body) || has_name x (names_in_arms true arms)) ≡ false = sym (has_app x (names_in true body) (names_in_arms true arms)) ∙ h in
      let a = unwritten_all x body c.0 (or_first (has_name x (names_in true body)) (has_name x (names_in_arms true arms)) w) in
      let b = unwritten_arms x arms c.1 (or_second (has_name x (names_in true body)) (has_name x (names_in_arms true arms)) w) in
      (or_both (assigns_in x body) (assigns_in_arms x arms) a.0 b.0, or_both (scopes_in x body) (scopes_in_arms x arms) a.1 b.1)

pub all_kept : (body : Statements) (site : Site) (c d : Cells) → are_sequential body ≡ true → (run_all body site c).out ≡ Ok d → (x : List ℕ) → has_name x (written_in body) ≡ false → (ss : List ℤ) → content_by_name site d x ss ≡ content_by_name site c x ss
all_kept body site c d q r x h =
    let u = unwritten_all x body q h in
    names_kept body site c d r x (or_both (assigns_in x body) (scopes_in x body) u.0 u.1)

then_ok : {X A B : Type 0} (t : Traced X A) (f : A → Traced X B) (a : A) (b : B) → t.out ≡ Ok a → (f a).out ≡ Ok b → (t >>= f).out ≡ Ok b
then_ok {X} {A} {B} t f a b h g = subst (λ (o : Result A X). (continuation t.log o f).out ≡ Ok b) (sym h) g

pub one_kept : (s : Statement) (site : Site) (c d : Cells) → is_sequential s ≡ true → (run s site c).out ≡ Ok d → (x : List ℕ) → has_name x (written_by s) ≡ false → (ss : List ℤ) → content_by_name site d x ss ≡ content_by_name site c x ss
one_kept s site c d q r x h =
    let u = unwritten x s q h in
    names_kept (statement s no_statements) site c d (then_ok (run s site c) (run_all no_statements site) d d r refl) x
    (or_both (assigns_in x (statement s no_statements)) (scopes_in x (statement s no_statements)) (or_both (assigns x s) false u.0 refl) (or_both (scopes x s) false u.1 refl))

-- ---- what is known

worth_atom : (v : Atom → ℤ) (a : Atom) → value v (atom_form a) ≡ v a
worth_atom v a = omega (arith, ints)

holds_without : (v : Atom → ℤ) (names : List (List ℕ)) (k : Known) (site : Site) (c d : Cells) → ((x : List ℕ) → has_name x names ≡ false → content_by_name site d x [] ≡ content_by_name site c x []) →
    HoldsKnown v k site c → HoldsKnown v (without names k) site d
holds_without v names k site c d kept h x f z p g = by_test (has_name x names) refl p
  where
    by_test : (b : Bool) → has_name x names ≡ b → (if b then None else k x) ≡ Some f → value v f ≡ z
    by_test true e i = cc
    by_test false e i = h x f z i (sym (kept x e) ∙ g)

pub known_less : (v : Atom → ℤ) (names : List (List ℕ)) (k : Known) (site : Site) (cells : Cells) → HoldsKnown v k site cells → HoldsKnown v (without names k) site cells
known_less v names k site cells h = holds_without v names k site cells cells (λ x e. refl) h

holds_version : (v : Atom → ℤ) (side : Side) (n : ℕ) (x : List ℕ) (ss : Expressions) (f : Form) (z : ℤ) → version_form side n x ss ≡ Some f → v (version side n x) ≡ z → value v f ≡ z
holds_version v side n x no_expressions f z e h = let i : atom_form (version side n x) ≡ f = cc in ap (value v) (sym i) ∙ (worth_atom v (version side n x) ∙ h)
holds_version v side n x (expression a as') f z e h = cc

pub known_after_holds : (v : Atom → ℤ) (side : Side) (n : ℕ) (s : Statement) (k : Known) (site : Site) (cells d : Cells) → is_sequential s ≡ true → (run s site cells).out ≡ Ok d →
    HasStored v side n s site d → HoldsKnown v k site cells → HoldsKnown v (known_after side n s k) site d
known_after_holds v side n (assignment line atomic p e) k site c d q r a h x f z i g = by_test (bytes_eq x p.name) refl i
  where
    by_test : (b : Bool) → bytes_eq x p.name ≡ b → (if b then version_form side n x p.subscripts else k x) ≡ Some f → value v f ≡ z
    by_test true t j =
        let m : x ≡ p.name = (bytes_eq-Decides x p.name).0 t in
        let w : v (version side n p.name) ≡ z = a z (subst (λ (y : List ℕ). content_by_name site d y [] ≡ Some (Index z)) m g) in
        holds_version v side n x p.subscripts f z j (ap (λ (y : List ℕ). v (version side n y)) m ∙ w)
    by_test false t j = h x f z j (sym (one_kept (assignment line atomic p e) site c d q r x (or_both (bytes_eq x p.name) false t refl) []) ∙ g)
known_after_holds v side n (branch line arms other) k site c d q r a h x f z i g =
    holds_without v (written_by (branch line arms other)) k site c d (λ y u. one_kept (branch line arms other) site c d q r y u []) h x f z i g
known_after_holds v side n (loop line number directive var low high step body) k site c d q r a h x f z i g =
    holds_without v (written_by (loop line number directive var low high step body)) k site c d (λ y u. one_kept (loop line number directive var low high step body) site c d q r y u []) h x f z i g

-- ---- the variable of a loop

pub other_set : (site : Site) (y : List ℕ) (w : Option Value) (c : Cells) (x : List ℕ) (ss : List ℤ) → bytes_eq x y ≡ false → content_by_name site (set_at (place_of site y []) w c) x ss ≡ content_by_name site c x ss
other_set site y w c x ss e = by_places (place_of site y []) (place_of site x ss) refl refl
  where
    by_places : (o u : Option ℕ) → place_of site y [] ≡ o → place_of site x ss ≡ u → content_at (set_at o w c) u ≡ content_at c u
    by_places None u g h = refl
    by_places (Some q) None g h = refl
    by_places (Some q) (Some p) g h = content_set_other c q p w (λ i. (let m : x ≡ y = place_named site.keys x y ss [] p q i h g in let t : true ≡ false = sym ((bytes_eq-Decides x y).1 m) ∙ e in cc))

set_is : (s : Cells) (q : ℕ) (w u : Value) → content (slice_set s q (Some w)) q ≡ Some u → w ≡ u
set_is [] q w u h = cc
set_is (a ∷ s) zero w u h = cc
set_is (a ∷ s) (suc q) w u h = set_is s q w u h

pub variable_is : (site : Site) (var : List ℕ) (y : ℤ) (c : Cells) (z : ℤ) → content_by_name site (cells_with site var y c) var [] ≡ Some (Index z) → y ≡ z
variable_is site var y c z h = by_place (place_of site var []) h
  where
    by_place : (o : Option ℕ) → content_at (set_at o (Some (Index y)) c) o ≡ Some (Index z) → y ≡ z
    by_place None g = cc
    by_place (Some q) g = let i : Index y ≡ Index z = set_is c q (Index y) (Index z) g in cc

pub turns_kept : (site : Site) (var : List ℕ) (t : IterationCount) (body : Statements) → are_sequential body ≡ true → (m : ℕ) (c d : Cells) → (turns m (one_turn site var t (run_all body)) c).out ≡ Ok d →
    (x : List ℕ) → bytes_eq x var ≡ false → has_name x (written_in body) ≡ false → (ss : List ℤ) → content_by_name site d x ss ≡ content_by_name site c x ss
turns_kept site var t body q zero c d r x e h ss = let i : c ≡ d = cc in ap (λ (w : Cells). content_by_name site w x ss) (sym i)
turns_kept site var t body q (suc m) c d r x e h ss =
    let b = bound (turns m (one_turn site var t (run_all body)) c) (one_turn site var t (run_all body) m) d r in
    all_kept body (in_turn site var) (cells_with site var (value_at t m) b.value) d q b.second x h ss
    ∙ (other_set site var (Some (Index (value_at t m))) b.value x ss e ∙ turns_kept site var t body q m c b.value b.first x e h ss)

pub known_inside_holds : (v : Atom → ℤ) (side : Side) (number : ℕ) (var : List ℕ) (body : Statements) (k : Known) (site : Site) (cells c : Cells) (t : IterationCount) (m : ℕ) → are_sequential body ≡ true →
    (turns m (one_turn site var t (run_all body)) cells).out ≡ Ok c → v (inner side number) ≡ value_at t m →
    HoldsKnown v k site cells → HoldsKnown v (known_inside side number var body k) (in_turn site var) (cells_with site var (value_at t m) c)
known_inside_holds v side number var body k site cells c t m q r a h x f z i g = by_tests (has_name x (written_in body)) (bytes_eq x var) refl refl i
  where
    by_tests : (b d : Bool) → has_name x (written_in body) ≡ b → bytes_eq x var ≡ d → (if b then None else if d then Some (atom_form (inner side number)) else k x) ≡ Some f → value v f ≡ z
    by_tests true d e j l = cc
    by_tests false true e j l =
        let w : x ≡ var = (bytes_eq-Decides x var).0 j in
        let p : atom_form (inner side number) ≡ f = cc in
        ap (value v) (sym p) ∙ (worth_atom v (inner side number) ∙ (a ∙ variable_is site var (value_at t m) c z (subst (λ (y : List ℕ). content_by_name site (cells_with site var (value_at t m) c) y [] ≡ Some (Index z)) w g)))
    by_tests false false e j l =
        h x f z l (sym (turns_kept site var t body q m cells c r x j e []) ∙ (sym (other_set site var (Some (Index (value_at t m))) c x [] j) ∙ g))
