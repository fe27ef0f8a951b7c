-- What the increments of a list of occurrences do: the pairing grows by the sum of what they are worth.
use Rattle.std.proofs.Common.{◌≡◌, ℕ, ◌+◌, ◌*◌, List, [], ◌∷◌, ◌++◌, refl, ap, sym, ◌∙◌, subst, arith, length, map, Bool, true, false, cond, Some, Ok, inl, inr}
use Rattle.std.specs.Prelude.{slice_index, slice_set, nat_lt}
use Rattle.std.proofs.lemmas.List.{length-set, length-map}
use Rattle.ring_core.specs.Ring.{ring_add, ring_mul}
use Rattle.pairing.specs.Ring.{Same}
use Rattle.pairing.specs.Pair.{pair}
use Rattle.pairing.proofs.Sames.{of_equal, same_sum}
use Rattle.pairing.proofs.Pairs.{pair_grow, length_live, live_at}
use Rattle.fl_ast.specs.Tree.{Expression, Condition}
use Rattle.fl_types.specs.declared.access.AccessKind.TheVariants.{Read}
use Rattle.operations.specs.declared.op.Op.TheVariants.{Load, Bump, Add}
use Rattle.operations.specs.Tree.{done, and_then, Played, play}
use Rattle.operations.proofs.Trees.{bind}
use Rattle.meaning.specs.declared.value.Value.{Value}
use Rattle.meaning.specs.Values.{as_dual, whole_numbers}
use Rattle.meaning.specs.Logs.{Log, silence}
use Rattle.meaning.specs.Sites.{Cells}
use Rattle.meaning.specs.Expressions.{content, value_of, holds}
use Rattle.meaning.specs.Adjoints.{tangent_of}
use Rattle.transposition.specs.Tapes.{Tape}
use Rattle.transposition.specs.Worlds.{World, Local, at_place, name_at, is_one_step, adjoint_increment}
use Rattle.transposition.specs.Reads.{value_tree, holds_tree, place_tree}
use Rattle.transposition.specs.Spread.{Factor, operand, either, Occurrence, factor_tree, product_tree, with_sign, one_increment, increments}
use Rattle.transposition.specs.Law.{Use, flat, local, Fit, tangents, HasTouch, HasDifferentiatedRead, CoverAll, AreWords}
use Rattle.transposition.specs.Needs.{NeedsFactor, NeedsFactors, NeedsOne, NeedsEach}
use Rattle.transposition.proofs.Words.{words_set, sum_word, not_summed}
use Rattle.transposition.proofs.Split.{grow_adjoint_played}
use Rattle.transposition.proofs.Flats.{flat_value}
use Rattle.transposition.proofs.Keys.{stands}
use Rattle.transposition.proofs.Places.{tangent_here}
use Rattle.transposition.proofs.Tangents.{worth}
use Rattle.transposition.proofs.Reading.{TouchesIn, Scene, room, Got, got_then, got_done, got_bind, got_told, gets_ok, value_got, holds_got, place_got, Placed, cover_both, cover_adjoint}

pub silent : (ts : Log) → TouchesIn silence ts
silent ts k p h = absurd h

-- ---- factors whose values are known

pub record KnownValue (w : World) (s : Cells) (ts : Log) (e : Expression) (x : ℕ) : Type 0 where
  pub v : Value
  pub out : (value_of e w.site s).out ≡ Ok v
  pub worth : x ≡ worth v
  pub told : TouchesIn (value_of e w.site s).log ts

pub record KnownTest (w : World) (s : Cells) (ts : Log) (n m : ℕ) (t : Condition) (x : ℕ) : Type 0 where
  pub b : Bool
  pub out : (holds t w.site s).out ≡ Ok b
  pub worth : x ≡ cond b n m
  pub told : TouchesIn (holds t w.site s).log ts

abbrev pub Known : World → Cells → Log → Factor → ℕ → Type 0
Known w s ts (operand e) x = KnownValue w s ts e x
Known w s ts (either n m t) x = KnownTest w s ts n m t x

abbrev pub Product : World → Cells → Log → List Factor → ℕ → ℕ → Type 0
Product w s ts [] t n = n ≡ t
Product w s ts (f ∷ fs) t n = (x : ℕ) × Known w s ts f x × Product w s ts fs (ring_mul t x) n

pub product_last : (w : World) (s : Cells) (ts : Log) (fs : List Factor) (f : Factor) (t n x : ℕ) → Product w s ts fs t n → Known w s ts f x → Product w s ts (fs ++ f ∷ []) t (ring_mul n x)
product_last w s ts [] f t n x h k = (x, k, ap (λ (m : ℕ). ring_mul m x) h)
product_last w s ts (g ∷ fs) f t n x h k = (h.0, h.1, product_last w s ts fs f (ring_mul t h.0) n x h.2 k)

pub product_more : (w : World) (s : Cells) (ts : Log) (fs gs : List Factor) (t n m : ℕ) → Product w s ts fs t n → Product w s ts gs n m → Product w s ts (fs ++ gs) t m
product_more w s ts [] gs t n m h k = subst (λ (i : ℕ). Product w s ts gs i m) h k
product_more w s ts (f ∷ fs) gs t n m h k = (h.0, h.1, product_more w s ts fs gs (ring_mul t h.0) n m h.2 k)

factor_got : (w : World) (u : Use) (s : Cells) (vs bs : List ℕ) (t : Tape) (ts : Log) → Scene w u s vs bs → (f : Factor) (x : ℕ) → NeedsFactor u f → Known w s ts f x
    → Got w ts (flat w.shared vs bs) (play (factor_tree w (local w.shared t vs bs) f) (flat w.shared vs bs)) x silence
factor_got w u s vs bs t ts h (operand e) x q k =
    let c = flat w.shared vs bs in
    let g : Got w ts c (play (value_tree e w (local w.shared t vs bs)) c) (flat_value k.v) (value_of e w.site s).log =
    gets_ok w ts c flat_value _ _ (value_of e w.site s).out k.v k.out (value_got w u s vs bs t ts h e q) in
    let same-worth : (as_dual (flat_value k.v)).value ≡ x = flat_worth k.v ∙ sym k.worth in
    got_bind w ts c (value_tree e w (local w.shared t vs bs)) (λ v. done (as_dual v).value) (flat_value k.v) x (got_told w ts c _ _ _ k.told g) (rw same-worth (got_done w ts c x))
  where
    flat_worth : (v : Value) → (as_dual (flat_value v)).value ≡ worth v
    flat_worth v = by_value v
      where
        by_value : (v : Value) → (as_dual (flat_value v)).value ≡ worth v
        by_value (Rattle.meaning.specs.declared.value.Value.TheVariants.Index z) = refl
        by_value (Rattle.meaning.specs.declared.value.Value.TheVariants.Ring d) = refl
factor_got w u s vs bs t ts h (either n m e) x q k =
    let c = flat w.shared vs bs in
    let g : Got w ts c (play (holds_tree e w (local w.shared t vs bs)) c) k.b (holds e w.site s).log =
    gets_ok w ts c (λ (b : Bool). b) _ _ (holds e w.site s).out k.b k.out (holds_got w u s vs bs t ts h e q) in
    got_bind w ts c (holds_tree e w (local w.shared t vs bs)) (λ b. done (cond b n m)) k.b x (got_told w ts c _ _ _ k.told g) (rw k.worth (got_done w ts c (cond k.b n m)))

pub product_got : (w : World) (u : Use) (s : Cells) (vs bs : List ℕ) (t : Tape) (ts : Log) → Scene w u s vs bs → (fs : List Factor) (a n : ℕ) → NeedsFactors u fs → Product w s ts fs a n
    → Got w ts (flat w.shared vs bs) (play (product_tree w (local w.shared t vs bs) fs a) (flat w.shared vs bs)) n silence
product_got w u s vs bs t ts h [] a n q k = rw k (got_done w ts (flat w.shared vs bs) a)
product_got w u s vs bs t ts h (f ∷ fs) a n q k =
    got_bind w ts (flat w.shared vs bs) (factor_tree w (local w.shared t vs bs) f) (λ x. product_tree w (local w.shared t vs bs) fs (ring_mul a x)) k.0 n
    (factor_got w u s vs bs t ts h f k.0 q.0 k.1) (product_got w u s vs bs t ts h fs (ring_mul a k.0) n q.1 k.2)

-- ---- occurrences, and what their increments are worth

pub record Worth (w : World) (s : Cells) (ts : Log) (a : ℕ) (o : Occurrence) (z : ℕ) : Type 0 where
  pub n : ℕ
  pub product : Product w s ts o.factors a n
  pub p : ℕ
  pub placed : Placed w s ts o.place p
  pub read : w.site.accessed o.place.name ≡ true → HasTouch Read p ts
  pub differentiated : w.site.accessed o.place.name ≡ true → HasDifferentiatedRead w.active p ts
  pub amount : z ≡ with_sign o.negative n * tangent_of (content s p)

abbrev pub Sum : World → Cells → Log → ℕ → List Occurrence → ℕ → Type 0
Sum w s ts a [] z = z ≡ 0
Sum w s ts a (o ∷ os) z = (x y : ℕ) × Worth w s ts a o x × Sum w s ts a os y × (z ≡ x + y)

pub sum_both : (w : World) (s : Cells) (ts : Log) (a : ℕ) (os us : List Occurrence) (x y : ℕ) → Sum w s ts a os x → Sum w s ts a us y → Sum w s ts a (os ++ us) (x + y)
sum_both w s ts a [] us x y h k = subst (λ (n : ℕ). Sum w s ts a us n) (rw h (omega arith)) k
sum_both w s ts a (o ∷ os) us x y h k = (h.0, h.1 + y, h.2, sum_both w s ts a os us h.1 y h.3 k, (let e = h.4 in omega arith))

pub record Spreads (w : World) (u : Use) (s : Cells) (ts : Log) (r : Played Local) (t : Tape) (vs bs : List ℕ) (z : ℕ) : Type 0 where
  pub bs2 : List ℕ
  pub out : r.out ≡ local w.shared t vs bs2
  pub cells : r.cells ≡ flat w.shared vs bs2
  pub long : length bs2 ≡ length w.site.keys
  pub words : AreWords bs2
  pub pairs : Same (pair bs2 (tangents u w.site.keys s)) (pair bs (tangents u w.site.keys s) + z)
  pub cover : CoverAll w ts r.ops

pub tangents_long : (w : World) (u : Use) (s : Cells) → Fit w u s → length (tangents u w.site.keys s) ≡ length w.site.keys
tangents_long w u s h = length_live (λ p. u.live (name_at w.site.keys p)) 0 (map tangent_of s) ∙ (length-map s tangent_of ∙ h.long)

scene_with : (w : World) (u : Use) (s : Cells) (vs bs bs2 : List ℕ) → Scene w u s vs bs → length bs2 ≡ length w.site.keys → Scene w u s vs bs2
scene_with w u s vs bs bs2 h l = record { fit = h.fit; like = h.like; wide = h.wide; long = l }

one_spreads : (w : World) (u : Use) (s : Cells) (vs bs : List ℕ) (t : Tape) (ts : Log) (a : ℕ) → Scene w u s vs bs → (o : Occurrence) (z : ℕ) → NeedsOne u o → Worth w s ts a o z → AreWords bs
    → Spreads w u s ts (play (one_increment w a o (local w.shared t vs bs)) (flat w.shared vs bs)) t vs bs z
one_spreads w u s vs bs t ts a h o z q k small =
    rw (got_then w ts silence (product_tree w l o.factors a) (λ x. and_then (place_tree o.place w l) (at_place (done l) (λ p. adjoint_increment w (w.choice o.place.name) p (with_sign o.negative x) l))) c k.n one)
    (rw (got_then w ts silence (place_tree o.place w l) (at_place (done l) (λ p. adjoint_increment w (w.choice o.place.name) p x l)) c (Some k.p) two)
    (rw (grow_adjoint_played w (w.choice o.place.name) t k.p x vs bs (room w u s vs bs h)) (record {
      bs2 = slice_set bs k.p (ring_add (slice_index bs k.p) x);
      out = refl;
      cells = refl;
      long = length-set bs k.p _ ∙ h.long;
      words = words_set bs k.p (ring_add (slice_index bs k.p) x) (sum_word (slice_index bs k.p) x) small;
      pairs = pair_grow bs ds k.p x (h.long ∙ sym (tangents_long w u s h.fit)) ∙ of_equal _ _ (ap (λ (d : ℕ). pair bs ds + x * d) here ∙ ap (λ (m : ℕ). pair bs ds + m) (sym k.amount));
      cover = cover_both w ts _ _ (one.cover (silent ts)) (cover_both w ts _ _ (two.cover (silent ts)) last_ops);
    })))
  where
    c : List ℕ
    c = flat w.shared vs bs

    l : Local
    l = local w.shared t vs bs

    x : ℕ
    x = with_sign o.negative k.n

    ds : List ℕ
    ds = tangents u w.site.keys s

    one : Got w ts c (play (product_tree w l o.factors a) c) k.n silence
    one = product_got w u s vs bs t ts h o.factors a k.n q.factors k.product

    two : Got w ts c (play (place_tree o.place w l) c) (Some k.p) silence
    two = place_got w u s vs bs t ts h o.place k.p q.subscripts k.placed

    named : name_at w.site.keys k.p ≡ o.place.name
    named = (stands w.site.keys o.place.name (whole_numbers k.placed.vals) k.p k.placed.place).named

    here : slice_index ds k.p ≡ tangent_of (content s k.p)
    here = live_at (λ p. u.live (name_at w.site.keys p)) 0 k.p (map tangent_of s) (ap (λ (p : ℕ). u.live (name_at w.site.keys p)) (omega arith) ∙ (ap u.live named ∙ q.live)) ∙ tangent_here s k.p

    accessed : w.site.accessed (name_at w.site.keys k.p) ≡ true → w.site.accessed o.place.name ≡ true
    accessed e = ap w.site.accessed (sym named) ∙ e

    last_ops : CoverAll w ts (cond (nat_lt k.p w.shared) (cond (is_one_step (w.choice o.place.name)) (Add (w.shared + k.p) x ∷ []) (Load (w.shared + k.p) ∷ Bump (w.shared + k.p) x ∷ [])) [])
    last_ops = by_tests (nat_lt k.p w.shared) (is_one_step (w.choice o.place.name)) refl refl
      where
        by_tests : (b d : Bool) → nat_lt k.p w.shared ≡ b → is_one_step (w.choice o.place.name) ≡ d → CoverAll w ts (cond b (cond d (Add (w.shared + k.p) x ∷ []) (Load (w.shared + k.p) ∷ Bump (w.shared + k.p) x ∷ [])) [])
        by_tests true true f g = (cover_adjoint w ts (Add (w.shared + k.p) x) k.p refl f (λ e. (inl (k.read (accessed e)), ap (λ (y : List ℕ). is_one_step (w.choice y)) named ∙ g)), tt)
        by_tests true false f g = (
          cover_adjoint w ts (Load (w.shared + k.p)) k.p refl f (λ e. (inr (inr (k.differentiated (accessed e), ap (λ (y : List ℕ). is_one_step (w.choice y)) named ∙ g)), not_summed (w.choice (name_at w.site.keys k.p)) (ap (λ (y : List ℕ). is_one_step (w.choice y)) named ∙ g))),
          (cover_adjoint w ts (Bump (w.shared + k.p) x) k.p refl f (λ e. (k.differentiated (accessed e), ap (λ (y : List ℕ). is_one_step (w.choice y)) named ∙ g)), tt),
        )
        by_tests false d f g = tt

pub spreads : (w : World) (u : Use) (s : Cells) (vs bs : List ℕ) (t : Tape) (ts : Log) (a : ℕ) → Scene w u s vs bs → (os : List Occurrence) (z : ℕ) → NeedsEach u os → Sum w s ts a os z → AreWords bs
    → Spreads w u s ts (play (increments w a os (local w.shared t vs bs)) (flat w.shared vs bs)) t vs bs z
spreads w u s vs bs t ts a h [] z q k small =
    record { bs2 = bs; out = refl; cells = refl; long = h.long; words = small; pairs = of_equal _ _ (rw k (omega arith)); cover = tt }
spreads w u s vs bs t ts a h (o ∷ os) z q k small =
    let one = one_spreads w u s vs bs t ts a h o k.0 q.0 k.2 small in
    let more = spreads w u s vs one.bs2 t ts a (scene_with w u s vs bs one.bs2 h one.long) os k.1 q.1 k.3 one.words in
    rw (bind (one_increment w a o (local w.shared t vs bs)) (increments w a os) (flat w.shared vs bs)) (rw (one.out, one.cells) (record {
      bs2 = more.bs2;
      out = more.out;
      cells = more.cells;
      long = more.long;
      words = more.words;
      pairs = more.pairs ∙ (same_sum _ _ k.1 k.1 one.pairs refl ∙ of_equal _ _ (let e = k.4 in omega arith));
      cover = cover_both w ts _ _ one.cover more.cover;
    }))
