-- Reading in the reverse part: what the forward run read, by loads that its touches cover.
use Rattle.std.proofs.Common.{◌≡◌, ℕ, ◌+◌, ◌-◌, ◌≤◌, List, [], ◌∷◌, ◌++◌, refl, ap, sym, ◌∙◌, subst, arith, length, Bool, true, false, not, ◌&&◌, ◌||◌, cond, Option, Some, None, Result, Ok, Err, inl, inr, ℤ}
use Rattle.std.specs.Prelude.{slice_index, nat_lt, if◌then◌else◌}
use Rattle.fl_ast.specs.Tree.{Expression, literal, get, minus, binary, power, call, Expressions, no_expressions, expression, Designator, Condition, relation, negation, conjunction, disjunction}
use Rattle.fl_types.specs.declared.access.AccessKind.{AccessKind}
use Rattle.fl_types.specs.declared.access.AccessKind.TheVariants.{Read}
use Rattle.operations.specs.declared.op.Op.{Op}
use Rattle.operations.specs.declared.op.Op.TheVariants.{Load}
use Rattle.operations.specs.Ops.{cell_of}
use Rattle.operations.specs.Tree.{Tree, done, and_then, Played, play}
use Rattle.operations.proofs.Trees.{bind}
use Rattle.meaning.specs.declared.value.Value.{Value}
use Rattle.meaning.specs.declared.value.Cause.{Cause}
use Rattle.meaning.specs.Values.{Found, literal_value, binary_result, negation_result, power_result, call_result, relates, whole_numbers}
use Rattle.meaning.specs.Logs.{Log, silence, both, touched, Traced, pure, lift, after, continuation, ◌>>=◌}
use Rattle.meaning.specs.Sites.{Cells, Site, place_of, kind_of}
use Rattle.meaning.specs.Expressions.{content, read_cell, read_place, read, value_of, values_of, holds}
use Rattle.transposition.specs.Tapes.{Tape}
use Rattle.transposition.specs.Worlds.{World, value_load, name_at}
use Rattle.transposition.specs.Reads.{value_from, value_or_zero, read_at, value_tree, values_tree, holds_tree, place_tree}
use Rattle.transposition.specs.Law.{Use, flat, local, Like, Fit, HasTouch, Cover, CoverAt, CoverAll}
use Rattle.meaning.specs.Fitting.{HasKind}
use Rattle.transposition.specs.Needs.{Needs, NeedsAll, NeedsCondition}
use Rattle.transposition.proofs.Split.{before, played, reading, value_at_played, less, is_not_less}
use Rattle.transposition.proofs.Flats.{flat_value, flat_values, decoded, Maps, wholes_flat, literal_maps, binary_maps, negated_maps, power_maps, call_maps, relates_flat}
use Rattle.transposition.proofs.Keys.{Stands, stands}

-- ---- covers

pub cover_both : (w : World) (ts : Log) (os us : List Op) → CoverAll w ts os → CoverAll w ts us → CoverAll w ts (os ++ us)
cover_both w ts [] us h k = k
cover_both w ts (o ∷ os) us h k = (h.0, cover_both w ts os us h.1 k)

-- an operation on a value, and on an adjoint
pub cover_value : (w : World) (ts : Log) (o : Op) → nat_lt (cell_of o) w.shared ≡ true
    → (w.site.accessed (name_at w.site.keys (cell_of o)) ≡ true → CoverAt w ts true (cell_of o) (cell_of o - w.shared) o) → Cover w ts o
cover_value w ts o h k = rw h (less (cell_of o) w.shared h, k)

pub cover_adjoint : (w : World) (ts : Log) (o : Op) (q : ℕ) → cell_of o ≡ w.shared + q → nat_lt q w.shared ≡ true
    → (w.site.accessed (name_at w.site.keys q) ≡ true → CoverAt w ts false (w.shared + q) q o) → Cover w ts o
cover_adjoint w ts o q e i k =
    let f : nat_lt (w.shared + q) w.shared ≡ false = is_not_less (w.shared + q) w.shared (omega arith) in
    let g : w.shared + q - w.shared ≡ q = omega arith in
    rw e (rw (f, g) (less q w.shared i, k))

abbrev pub TouchesIn : Log → Log → Type 0
TouchesIn a ts = (k : AccessKind) (p : ℕ) → HasTouch k p a → HasTouch k p ts

-- ---- a tree that only reads, and gives b; a is what was told of it

pub record Got {B : Type 0} (w : World) (ts : Log) (c : List ℕ) (r : Played B) (b : B) (a : Log) : Type 0 where
  pub out : r.out ≡ b
  pub cells : r.cells ≡ c
  pub cover : TouchesIn a ts → CoverAll w ts r.ops

abbrev pub Gets : {X A B : Type 0} → World → Log → List ℕ → (A → B) → Played B → Log → Result A X → Type 0
Gets w ts c f r l (Ok a) = Got w ts c r (f a) l
Gets w ts c f r l (Err x) = Unit {0}

pub got_then : {A B : Type 0} (w : World) (ts : Log) (l : Log) (t : Tree A) (f : A → Tree B) (c : List ℕ) (x : A) → Got w ts c (play t c) x l
    → play (and_then t f) c ≡ before (play t c).ops (play (f x) c)
got_then w ts l t f c x h = bind t f c ∙ (rw (h.out, h.cells) refl)

gets_after : {X A B : Type 0} (w : World) (ts : Log) (c : List ℕ) (f : A → B) (os : List Op) (r : Played B) (l m : Log) (o : Result A X)
    → (TouchesIn l ts → CoverAll w ts os) → Gets w ts c f r m o → Gets w ts c f (before os r) (both l m) o
gets_after w ts c f os r l m (Ok a) h g = record { out = g.out; cells = g.cells; cover = λ t. cover_both w ts os r.ops (h (λ k p i. t k p (inl i))) (g.cover (λ k p i. t k p (inr i))) }
gets_after w ts c f os r l m (Err x) h g = tt

gets_bind_by : {X A B A2 B2 : Type 0} (w : World) (ts : Log) (c : List ℕ) (f : A → A2) (g : B → B2) (l : Log) (o : Result A X) (k : A → Traced X B) (t : Tree A2) (m : A2 → Tree B2)
    → Gets w ts c f (play t c) l o → ((a : A) → o ≡ Ok a → Gets w ts c g (play (m (f a)) c) (k a).log (k a).out)
    → Gets w ts c g (play (and_then t m) c) (continuation l o k).log (continuation l o k).out
gets_bind_by w ts c f g l (Ok a) k t m h i =
    rw (got_then w ts l t m c (f a) h) (gets_after w ts c g (play t c).ops (play (m (f a)) c) l (k a).log (k a).out h.cover (i a refl))
gets_bind_by w ts c f g l (Err x) k t m h i = tt

pub gets_bind : {X A B A2 B2 : Type 0} (w : World) (ts : Log) (c : List ℕ) (f : A → A2) (g : B → B2) (r : Traced X A) (k : A → Traced X B) (t : Tree A2) (m : A2 → Tree B2)
    → Gets w ts c f (play t c) r.log r.out → ((a : A) → r.out ≡ Ok a → Gets w ts c g (play (m (f a)) c) (k a).log (k a).out)
    → Gets w ts c g (play (and_then t m) c) (r >>= k).log (r >>= k).out
gets_bind w ts c f g r k t m h i = gets_bind_by w ts c f g r.log r.out k t m h i

pub got_done : {B : Type 0} (w : World) (ts : Log) (c : List ℕ) (b : B) → Got w ts c (play (done b) c) b silence
got_done w ts c b = record { out = refl; cells = refl; cover = λ t. tt }

gets_found : (w : World) (ts : Log) (c : List ℕ) (r s : Found) → Maps r s → Gets w ts c flat_value (play (done (value_or_zero s)) c) silence r
gets_found w ts c (Ok v) s h = rw h (got_done w ts c (flat_value v))
gets_found w ts c (Err x) s h = tt

-- ---- places

pub record Scene (w : World) (u : Use) (s : Cells) (vs bs : List ℕ) : Type 0 where
  pub fit : Fit w u s
  pub like : Like u w.site.keys vs s
  pub wide : length vs ≡ length w.site.keys
  pub long : length bs ≡ length w.site.keys

pub room : (w : World) (u : Use) (s : Cells) (vs bs : List ℕ) → Scene w u s vs bs → w.shared ≤ length vs
room w u s vs bs h = let a = h.wide in let b = h.fit.room in omega arith

reads_cover : (w : World) (ts : Log) (x : List ℕ) (p : ℕ) → name_at w.site.keys p ≡ x → (w.site.accessed x ≡ true → HasTouch Read p ts) → CoverAll w ts (reading w.shared p p)
reads_cover w ts x p e h = by_test (nat_lt p w.shared) refl
  where
    by_test : (b : Bool) → nat_lt p w.shared ≡ b → CoverAll w ts (cond b (Load p ∷ []) [])
    by_test true f = (cover_value w ts (Load p) f (λ g. inl (h (ap w.site.accessed (sym e) ∙ g))), tt)
    by_test false f = tt

abbrev pub seen : Bool → Site → ℕ → Value → Traced Cause Value
seen b site p v = if b then after (touched p Read) (pure v) else pure v

read_got : (w : World) (u : Use) (s : Cells) (vs bs : List ℕ) (t : Tape) (ts : Log) → Scene w u s vs bs → (x : List ℕ) → u.needed x ≡ true → (ks : List ℤ) (o : Option ℕ) → place_of w.site x ks ≡ o
    → Gets w ts (flat w.shared vs bs) flat_value (play (read_at w (local w.shared t vs bs) x o) (flat w.shared vs bs)) (read_place w.site s x o).log (read_place w.site s x o).out
read_got w u s vs bs t ts h x n ks None e = tt
read_got w u s vs bs t ts h x n ks (Some p) e = by_content (content s p) refl
  where
    c : List ℕ
    c = flat w.shared vs bs

    st : Stands w.site.keys x p
    st = stands w.site.keys x ks p e

    tree : Tree Value
    tree = read_at w (local w.shared t vs bs) x (Some p)

    went : play tree c ≡ played (value_from (kind_of w.site x) (slice_index vs p)) c (reading w.shared p p ++ [])
    went = bind (value_load w (local w.shared t vs bs) p) (λ n. done (value_from (kind_of w.site x) n)) c ∙ (rw (value_at_played w t p vs bs (room w u s vs bs h)) refl)

    worth : (v : Value) → content s p ≡ Some v → value_from (kind_of w.site x) (slice_index vs p) ≡ flat_value v
    worth v f =
        rw (h.like.read p v f (ap u.needed st.named ∙ n)) (decoded (kind_of w.site x) v (subst (λ (y : List ℕ). HasKind (kind_of w.site y) v) st.named (h.fit.kinds p v f)))

    by_access : (b : Bool) → w.site.accessed x ≡ b → (v : Value) → content s p ≡ Some v
        → Gets w ts c flat_value (play tree c) (seen b w.site p v).log (seen b w.site p v).out
    by_access true f v g = rw (went, worth v g) (record { out = refl; cells = refl; cover = λ i. cover_both w ts (reading w.shared p p) [] (reads_cover w ts x p st.named (λ j. i Read p (inl (refl, refl)))) tt })
    by_access false f v g = rw (went, worth v g) (record { out = refl; cells = refl; cover = λ i. cover_both w ts (reading w.shared p p) [] (reads_cover w ts x p st.named (λ j. absurd (let k : true ≡ false = sym j ∙ f in cc))) tt })

    by_content : (o : Option Value) → content s p ≡ o → Gets w ts c flat_value (play tree c) (read_cell w.site x p o).log (read_cell w.site x p o).out
    by_content None f = tt
    by_content (Some v) f = by_access (w.site.accessed x) refl v f

-- ---- expressions

mutual
  pub value_got : (w : World) (u : Use) (s : Cells) (vs bs : List ℕ) (t : Tape) (ts : Log) → Scene w u s vs bs → (e : Expression) → Needs u e
      → Gets w ts (flat w.shared vs bs) flat_value (play (value_tree e w (local w.shared t vs bs)) (flat w.shared vs bs)) (value_of e w.site s).log (value_of e w.site s).out
  value_got w u s vs bs t ts h (literal n k) q = gets_found w ts (flat w.shared vs bs) (literal_value n k) (literal_value n k) (literal_maps n k)
  value_got w u s vs bs t ts h (get x ss) q =
      gets_bind w ts (flat w.shared vs bs) flat_values flat_value (values_of ss w.site s) (read w.site s x) (values_tree ss w (local w.shared t vs bs)) (λ vals. read_at w (local w.shared t vs bs) x (place_of w.site x (whole_numbers vals)))
      (values_got w u s vs bs t ts h ss q.1)
      (λ vals f. rw (wholes_flat vals) (read_got w u s vs bs t ts h x q.0 (whole_numbers vals) (place_of w.site x (whole_numbers vals)) refl))
  value_got w u s vs bs t ts h (minus a) q =
      gets_bind w ts (flat w.shared vs bs) flat_value flat_value (value_of a w.site s) (λ v. lift (negation_result v)) (value_tree a w (local w.shared t vs bs)) (λ v. done (value_or_zero (negation_result v)))
      (value_got w u s vs bs t ts h a q) (λ v f. gets_found w ts (flat w.shared vs bs) (negation_result v) (negation_result (flat_value v)) (negated_maps v))
  value_got w u s vs bs t ts h (binary op a b) q =
      gets_bind w ts (flat w.shared vs bs) flat_value flat_value (value_of a w.site s) (λ v. value_of b w.site s >>= (λ x. lift (binary_result op v x))) (value_tree a w (local w.shared t vs bs)) (λ v. and_then (value_tree b w (local w.shared t vs bs)) (λ x. done (value_or_zero (binary_result op v x))))
      (value_got w u s vs bs t ts h a q.0)
      (λ v f. gets_bind w ts (flat w.shared vs bs) flat_value flat_value (value_of b w.site s) (λ x. lift (binary_result op v x)) (value_tree b w (local w.shared t vs bs)) (λ x. done (value_or_zero (binary_result op (flat_value v) x)))
      (value_got w u s vs bs t ts h b q.1) (λ x g. gets_found w ts (flat w.shared vs bs) (binary_result op v x) (binary_result op (flat_value v) (flat_value x)) (binary_maps op v x)))
  value_got w u s vs bs t ts h (power a n) q =
      gets_bind w ts (flat w.shared vs bs) flat_value flat_value (value_of a w.site s) (λ v. lift (power_result v n)) (value_tree a w (local w.shared t vs bs)) (λ v. done (value_or_zero (power_result v n)))
      (value_got w u s vs bs t ts h a q) (λ v f. gets_found w ts (flat w.shared vs bs) (power_result v n) (power_result (flat_value v) n) (power_maps v n))
  value_got w u s vs bs t ts h (call f args) q =
      gets_bind w ts (flat w.shared vs bs) flat_values flat_value (values_of args w.site s) (λ vals. lift (call_result w.site.width f vals)) (values_tree args w (local w.shared t vs bs)) (λ vals. done (value_or_zero (call_result w.site.width f vals)))
      (values_got w u s vs bs t ts h args q) (λ vals g. gets_found w ts (flat w.shared vs bs) (call_result w.site.width f vals) (call_result w.site.width f (flat_values vals)) (call_maps w.site.width f vals))

  pub values_got : (w : World) (u : Use) (s : Cells) (vs bs : List ℕ) (t : Tape) (ts : Log) → Scene w u s vs bs → (es : Expressions) → NeedsAll u es
      → Gets w ts (flat w.shared vs bs) flat_values (play (values_tree es w (local w.shared t vs bs)) (flat w.shared vs bs)) (values_of es w.site s).log (values_of es w.site s).out
  values_got w u s vs bs t ts h no_expressions q = got_done w ts (flat w.shared vs bs) []
  values_got w u s vs bs t ts h (expression e es) q =
      gets_bind w ts (flat w.shared vs bs) flat_value flat_values (value_of e w.site s) (λ v. values_of es w.site s >>= (λ vals. pure (v ∷ vals))) (value_tree e w (local w.shared t vs bs)) (λ v. and_then (values_tree es w (local w.shared t vs bs)) (λ vals. done (v ∷ vals)))
      (value_got w u s vs bs t ts h e q.0)
      (λ v f. gets_bind w ts (flat w.shared vs bs) flat_values flat_values (values_of es w.site s) (λ vals. pure (v ∷ vals)) (values_tree es w (local w.shared t vs bs)) (λ vals. done (flat_value v ∷ vals))
      (values_got w u s vs bs t ts h es q.1) (λ vals g. got_done w ts (flat w.shared vs bs) (flat_value v ∷ flat_values vals)))

-- ---- conditions and places

pub holds_got : (w : World) (u : Use) (s : Cells) (vs bs : List ℕ) (t : Tape) (ts : Log) → Scene w u s vs bs → (e : Condition) → NeedsCondition u e
    → Gets w ts (flat w.shared vs bs) (λ (b : Bool). b) (play (holds_tree e w (local w.shared t vs bs)) (flat w.shared vs bs)) (holds e w.site s).log (holds e w.site s).out
holds_got w u s vs bs t ts h (relation op a b) q =
    gets_bind w ts (flat w.shared vs bs) flat_value (λ (b : Bool). b) (value_of a w.site s) (λ v. value_of b w.site s >>= (λ x. pure (relates w.site.width op v x))) (value_tree a w (local w.shared t vs bs)) (λ v. and_then (value_tree b w (local w.shared t vs bs)) (λ x. done (relates w.site.width op v x)))
    (value_got w u s vs bs t ts h a q.0)
    (λ v f. gets_bind w ts (flat w.shared vs bs) flat_value (λ (b : Bool). b) (value_of b w.site s) (λ x. pure (relates w.site.width op v x)) (value_tree b w (local w.shared t vs bs)) (λ x. done (relates w.site.width op (flat_value v) x))
    (value_got w u s vs bs t ts h b q.1) (λ x g. rw (relates_flat w.site.width op v x) (got_done w ts (flat w.shared vs bs) (relates w.site.width op v x))))
holds_got w u s vs bs t ts h (negation a) q =
    gets_bind w ts (flat w.shared vs bs) (λ (b : Bool). b) (λ (b : Bool). b) (holds a w.site s) (λ b. pure (not b)) (holds_tree a w (local w.shared t vs bs)) (λ b. done (not b))
    (holds_got w u s vs bs t ts h a q) (λ b f. got_done w ts (flat w.shared vs bs) (not b))
holds_got w u s vs bs t ts h (conjunction a b) q =
    gets_bind w ts (flat w.shared vs bs) (λ (b : Bool). b) (λ (b : Bool). b) (holds a w.site s) (λ x. holds b w.site s >>= (λ y. pure (x && y))) (holds_tree a w (local w.shared t vs bs)) (λ x. and_then (holds_tree b w (local w.shared t vs bs)) (λ y. done (x && y)))
    (holds_got w u s vs bs t ts h a q.0)
    (λ x f. gets_bind w ts (flat w.shared vs bs) (λ (b : Bool). b) (λ (b : Bool). b) (holds b w.site s) (λ y. pure (x && y)) (holds_tree b w (local w.shared t vs bs)) (λ y. done (x && y))
    (holds_got w u s vs bs t ts h b q.1) (λ y g. got_done w ts (flat w.shared vs bs) (x && y)))
holds_got w u s vs bs t ts h (disjunction a b) q =
    gets_bind w ts (flat w.shared vs bs) (λ (b : Bool). b) (λ (b : Bool). b) (holds a w.site s) (λ x. holds b w.site s >>= (λ y. pure (x || y))) (holds_tree a w (local w.shared t vs bs)) (λ x. and_then (holds_tree b w (local w.shared t vs bs)) (λ y. done (x || y)))
    (holds_got w u s vs bs t ts h a q.0)
    (λ x f. gets_bind w ts (flat w.shared vs bs) (λ (b : Bool). b) (λ (b : Bool). b) (holds b w.site s) (λ y. pure (x || y)) (holds_tree b w (local w.shared t vs bs)) (λ y. done (x || y))
    (holds_got w u s vs bs t ts h b q.1) (λ y g. got_done w ts (flat w.shared vs bs) (x || y)))

-- what was got of a run that gave a value
pub gets_ok : {X A B : Type 0} (w : World) (ts : Log) (c : List ℕ) (f : A → B) (r : Played B) (l : Log) (o : Result A X) (a : A) → o ≡ Ok a → Gets w ts c f r l o → Got w ts c r (f a) l
gets_ok w ts c f r l (Ok b) a e h = let g : b ≡ a = cc in subst (λ (x : _). Got w ts c r (f x) l) g h
gets_ok w ts c f r l (Err x) a e h = cc

-- the same where all its touches are among others
pub got_told : {B : Type 0} (w : World) (ts : Log) (c : List ℕ) (r : Played B) (b : B) (l : Log) → TouchesIn l ts → Got w ts c r b l → Got w ts c r b silence
got_told w ts c r b l h g = record { out = g.out; cells = g.cells; cover = λ t. g.cover h }

pub got_bind : {A B : Type 0} (w : World) (ts : Log) (c : List ℕ) (t : Tree A) (f : A → Tree B) (a : A) (b : B) → Got w ts c (play t c) a silence → Got w ts c (play (f a) c) b silence → Got w ts c (play (and_then t f) c) b silence
got_bind w ts c t f a b h g =
    rw (got_then w ts silence t f c a h) (record { out = g.out; cells = g.cells; cover = λ i. cover_both w ts (play t c).ops (play (f a) c).ops (h.cover i) (g.cover i) })

-- a place whose subscripts were evaluated
pub record Placed (w : World) (s : Cells) (ts : Log) (d : Designator) (p : ℕ) : Type 0 where
  pub vals : List Value
  pub out : (values_of d.subscripts w.site s).out ≡ Ok vals
  pub told : TouchesIn (values_of d.subscripts w.site s).log ts
  pub place : place_of w.site d.name (whole_numbers vals) ≡ Some p

pub place_got : (w : World) (u : Use) (s : Cells) (vs bs : List ℕ) (t : Tape) (ts : Log) → Scene w u s vs bs → (d : Designator) (p : ℕ) → NeedsAll u d.subscripts → Placed w s ts d p
    → Got w ts (flat w.shared vs bs) (play (place_tree d w (local w.shared t vs bs)) (flat w.shared vs bs)) (Some p) silence
place_got w u s vs bs t ts h d p q k =
    let c = flat w.shared vs bs in
    let g : Got w ts c (play (values_tree d.subscripts w (local w.shared t vs bs)) c) (flat_values k.vals) (values_of d.subscripts w.site s).log =
    gets_ok w ts c flat_values _ _ (values_of d.subscripts w.site s).out k.vals k.out (values_got w u s vs bs t ts h d.subscripts q) in
    let e : place_of w.site d.name (whole_numbers (flat_values k.vals)) ≡ Some p = rw (wholes_flat k.vals) k.place in
    got_bind w ts c (values_tree d.subscripts w (local w.shared t vs bs)) (λ xs. done (place_of w.site d.name (whole_numbers xs))) (flat_values k.vals) (Some p) (got_told w ts c _ _ _ k.told g)
    (rw e (got_done w ts c (Some p)))
