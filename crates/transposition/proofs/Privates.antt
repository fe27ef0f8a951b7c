-- Private scalars: unset at an iteration's start, popped and cleared at the start of its reverse.
use Rattle.std.proofs.Common.{◌≡◌, ◌≢◌, ℕ, zero, suc, ◌+◌, ◌*◌, ◌<◌, ◌==◌, List, [], ◌∷◌, refl, ap, sym, ◌∙◌, subst, arith, length, take, map, Bool, true, false, ◌&&◌, ◌||◌, cond, Option, Some, None}
use Rattle.std.specs.Prelude.{slice_index, slice_set, bytes_eq}
use Rattle.std.proofs.lemmas.Bool.{eqb-true, eq-eqb}
use Rattle.std.proofs.lemmas.Slice.Eq.{bytes_eq-Decides}
use Rattle.std.proofs.lemmas.List.{length-set, get_or-set_same, get_or-set_other}
use Rattle.pairing.specs.Pair.{pair, live}
use Rattle.fl_ast.specs.Tree.{Statements}
use Rattle.fl_types.specs.Sharing.{has_name, assigns_in}
use Rattle.meaning.specs.declared.value.Value.{Value}
use Rattle.meaning.specs.Sites.{Key, Cells, Site, place_of, word_of}
use Rattle.meaning.specs.Expressions.{content}
use Rattle.meaning.specs.Statements.{set_at, with_all_unset, content_at, private_words}
use Rattle.meaning.specs.Adjoints.{tangent_of}
use Rattle.transposition.specs.Tapes.{Tape, word, tape_after}
use Rattle.transposition.specs.Worlds.{World, with_own_value, with_own_adjoint, name_at}
use Rattle.transposition.specs.Back.{after_private_pops, with_clear_privates}
use Rattle.transposition.specs.Law.{Use, local, tangents}
use Rattle.transposition.specs.Sound.{AllOwn}
use Rattle.meaning.specs.Sites.{with_tangent}
use Rattle.transposition.proofs.Plain.{word_plain}
use Rattle.transposition.proofs.Split.{own_value_set, own_adjoint_set, cells_kept}
use Rattle.transposition.proofs.Keys.{Stands, stands}
use Rattle.transposition.proofs.Places.{content_set_same, content_set_other, tangent_here}

different : (x y : List ℕ) → bytes_eq x y ≡ false → x ≢ y
different x y h e = let k : true ≡ false = sym ((bytes_eq-Decides x y).1 e) ∙ h in cc

apart : (p q : ℕ) → (p == q) ≡ false → p ≢ q
apart p q h e = let k : true ≡ false = sym (eq-eqb p q e) ∙ h in cc

or_true : (a b : Bool) → (a || b) ≡ true → a ≡ false → b ≡ true
or_true true b h k = cc
or_true false b h k = h

or_left : (a b : Bool) → (a || b) ≡ false → a ≡ false
or_left true b h = cc
or_left false b h = refl

or_right : (a b : Bool) → (a || b) ≡ false → b ≡ false
or_right true b h = cc
or_right false b h = h

still_below : (s : Cells) (q p : ℕ) → p < length s → p < length (slice_set s q None)
still_below s q p h = subst (λ (m : ℕ). p < m) (sym (length-set s q None)) h

-- ---- unset

set_at_is : (site : Site) (x : List ℕ) (q : ℕ) (v : Option Value) (s : Cells) → place_of site x [] ≡ Some q → set_at (place_of site x []) v s ≡ slice_set s q v
set_at_is site x q v s h = ap (λ (o : Option ℕ). set_at o v s) h

pub unset_long : (w : World) (xs : List (List ℕ)) (s : Cells) → AllOwn w xs → length (with_all_unset w.site xs s) ≡ length s
unset_long w [] s h = refl
unset_long w (x ∷ xs) s h = unset_long w xs (set_at (place_of w.site x []) None s) h.1 ∙ (ap length (set_at_is w.site x h.0.q None s h.0.place) ∙ length-set s h.0.q None)

pub unset_other : (w : World) (xs : List (List ℕ)) (s : Cells) (p : ℕ) → AllOwn w xs → has_name (name_at w.site.keys p) xs ≡ false → content (with_all_unset w.site xs s) p ≡ content s p
unset_other w [] s p h e = refl
unset_other w (x ∷ xs) s p h e =
    let st = stands w.site.keys x [] h.0.q h.0.place in
    unset_other w xs (set_at (place_of w.site x []) None s) p h.1 (or_right (bytes_eq (name_at w.site.keys p) x) (has_name (name_at w.site.keys p) xs) e)
    ∙ (ap (λ (c : Cells). content c p) (set_at_is w.site x h.0.q None s h.0.place) ∙ content_set_other s h.0.q p None (λ f. different (name_at w.site.keys p) x (or_left (bytes_eq (name_at w.site.keys p) x) (has_name (name_at w.site.keys p) xs) e) (ap (name_at w.site.keys) f ∙ st.named)))

unset_stays : (w : World) (xs : List (List ℕ)) (s : Cells) (p : ℕ) → AllOwn w xs → p < length s → content s p ≡ None → content (with_all_unset w.site xs s) p ≡ None
unset_stays w [] s p h l e = e
unset_stays w (x ∷ xs) s p h l e =
    unset_stays w xs (set_at (place_of w.site x []) None s) p h.1 (subst (λ (c : Cells). p < length c) (sym (set_at_is w.site x h.0.q None s h.0.place)) (still_below s h.0.q p l)) (ap (λ (c : Cells). content c p) (set_at_is w.site x h.0.q None s h.0.place) ∙ by_place (p == h.0.q) refl)
  where
    by_place : (b : Bool) → (p == h.0.q) ≡ b → content (slice_set s h.0.q None) p ≡ None
    by_place true f = let g : p ≡ h.0.q = eqb-true p h.0.q f in ap (content (slice_set s h.0.q None)) g ∙ content_set_same s h.0.q None (subst (λ (m : ℕ). m < length s) g l)
    by_place false f = content_set_other s h.0.q p None (apart p h.0.q f) ∙ e

pub unset_here : (w : World) (xs : List (List ℕ)) (s : Cells) (p : ℕ) → AllOwn w xs → p < length s → has_name (name_at w.site.keys p) xs ≡ true → content (with_all_unset w.site xs s) p ≡ None
unset_here w [] s p h l e = cc
unset_here w (x ∷ xs) s p h l e = by_name (bytes_eq (name_at w.site.keys p) x) refl (λ f. unset_here w xs (slice_set s h.0.q None) p h.1 (still_below s h.0.q p l) f)
  where
    by_name : (b : Bool) → bytes_eq (name_at w.site.keys p) x ≡ b → (has_name (name_at w.site.keys p) xs ≡ true → content (with_all_unset w.site xs (slice_set s h.0.q None)) p ≡ None) → content (with_all_unset w.site (x ∷ xs) s) p ≡ None
    by_name true f k =
        let g : p ≡ h.0.q = h.0.only p ((bytes_eq-Decides (name_at w.site.keys p) x).0 f) in
        ap (λ (c : Cells). content (with_all_unset w.site xs c) p) (set_at_is w.site x h.0.q None s h.0.place)
        ∙ unset_stays w xs (slice_set s h.0.q None) p h.1 (still_below s h.0.q p l) (ap (content (slice_set s h.0.q None)) g ∙ content_set_same s h.0.q None (subst (λ (m : ℕ). m < length s) g l))
    by_name false f k = ap (λ (c : Cells). content (with_all_unset w.site xs c) p) (set_at_is w.site x h.0.q None s h.0.place) ∙ k (or_true (bytes_eq (name_at w.site.keys p) x) (has_name (name_at w.site.keys p) xs) e f)

-- ---- cleared adjoints

pub record Cleared (w : World) (xs : List (List ℕ)) (t : Tape) (vs bs : List ℕ) : Type 0 where
  pub bs1 : List ℕ
  pub out : with_clear_privates w xs (local w.shared t vs bs) ≡ local w.shared t vs bs1
  pub cells : take w.shared bs1 ≡ take w.shared bs
  pub long : length bs1 ≡ length bs
  pub here : (p : ℕ) → has_name (name_at w.site.keys p) xs ≡ true → slice_index bs1 p ≡ 0
  pub other : (p : ℕ) → has_name (name_at w.site.keys p) xs ≡ false → slice_index bs1 p ≡ slice_index bs p
  pub stays : (p : ℕ) → slice_index bs p ≡ 0 → slice_index bs1 p ≡ 0

set_none : (bs : List ℕ) (q : ℕ) → slice_index (slice_set bs q 0) q ≡ 0
set_none [] q = refl
set_none (b ∷ bs) zero = refl
set_none (b ∷ bs) (suc q) = set_none bs q

pub cleared : (w : World) (xs : List (List ℕ)) (t : Tape) (vs bs : List ℕ) → AllOwn w xs → Cleared w xs t vs bs
cleared w [] t vs bs h = record { bs1 = bs; out = refl; cells = refl; long = refl; here = λ p e. cc; other = λ p e. refl; stays = λ p e. e }
cleared w (x ∷ xs) t vs bs h =
    let q = h.0.q in
    let st = stands w.site.keys x [] q h.0.place in
    let k = cleared w xs t vs (slice_set bs q 0) h.1 in
    let first : with_own_adjoint w (place_of w.site x []) 0 (local w.shared t vs bs) ≡ local w.shared t vs (slice_set bs q 0) =
    own_adjoint_set w (place_of w.site x []) q 0 t vs bs h.0.place h.0.own in
    record {
      bs1 = k.bs1;
      out = ap (with_clear_privates w xs) first ∙ k.out;
      cells = k.cells ∙ sym (cells_kept w.shared q 0 bs h.0.own);
      long = k.long ∙ length-set bs q 0;
      here = λ p e. here_by k.bs1 p e (bytes_eq (name_at w.site.keys p) x) refl k.stays k.here;
      other = λ p e. k.other p (or_right (bytes_eq (name_at w.site.keys p) x) (has_name (name_at w.site.keys p) xs) e)
          ∙ get_or-set_other bs q p 0 0 (λ f. different (name_at w.site.keys p) x (or_left (bytes_eq (name_at w.site.keys p) x) (has_name (name_at w.site.keys p) xs) e) (ap (name_at w.site.keys) f ∙ st.named));
      stays = λ p e. k.stays p (stays_by p e (p == q) refl);
    }
  where
    stays_by : (p : ℕ) → slice_index bs p ≡ 0 → (b : Bool) → (p == h.0.q) ≡ b → slice_index (slice_set bs h.0.q 0) p ≡ 0
    stays_by p e true f = ap (λ (m : ℕ). slice_index (slice_set bs h.0.q 0) m) (eqb-true p h.0.q f) ∙ set_none bs h.0.q
    stays_by p e false f = get_or-set_other bs h.0.q p 0 0 (apart p h.0.q f) ∙ e

    here_by : (bs1 : List ℕ) (p : ℕ) → has_name (name_at w.site.keys p) (x ∷ xs) ≡ true → (b : Bool) → bytes_eq (name_at w.site.keys p) x ≡ b → ((p : ℕ) → slice_index (slice_set bs h.0.q 0) p ≡ 0 → slice_index bs1 p ≡ 0)
        → ((p : ℕ) → has_name (name_at w.site.keys p) xs ≡ true → slice_index bs1 p ≡ 0) → slice_index bs1 p ≡ 0
    here_by bs1 p e true f s g = s p (ap (λ (m : ℕ). slice_index (slice_set bs h.0.q 0) m) (h.0.only p ((bytes_eq-Decides (name_at w.site.keys p) x).0 f)) ∙ set_none bs h.0.q)
    here_by bs1 p e false f s g = g p (or_true (bytes_eq (name_at w.site.keys p) x) (has_name (name_at w.site.keys p) xs) e f)

-- ---- popped values

pub record Refilled (w : World) (tree : Statements) (xs : List (List ℕ)) (s : Cells) (t : Tape) (vs bs : List ℕ) : Type 0 where
  pub vs1 : List ℕ
  pub out : after_private_pops w tree xs (local w.shared (tape_after (private_words w.site tree xs s) t) vs bs) ≡ local w.shared t vs1 bs
  pub cells : take w.shared vs1 ≡ take w.shared vs
  pub long : length vs1 ≡ length vs
  pub here : (p : ℕ) → p < length vs → has_name (name_at w.site.keys p) xs ≡ true → assigns_in (name_at w.site.keys p) tree ≡ true → w.site.pushed (name_at w.site.keys p) ≡ true → slice_index vs1 p ≡ word_of (content s p)
  pub other : (p : ℕ) → has_name (name_at w.site.keys p) xs ≡ false → slice_index vs1 p ≡ slice_index vs p

pub refilled : (w : World) (tree : Statements) (xs : List (List ℕ)) (s : Cells) (t : Tape) (vs bs : List ℕ) → AllOwn w xs → Refilled w tree xs s t vs bs
refilled w tree [] s t vs bs h = record { vs1 = vs; out = refl; cells = refl; long = refl; here = λ p l e a b. cc; other = λ p e. refl }
refilled w tree (x ∷ xs) s t vs bs h = by_test (assigns_in x tree && w.site.pushed x) refl (refilled w tree xs s t vs bs h.1) (λ n. refilled w tree xs s (word n t) vs bs h.1)
  where
    q : ℕ
    q = h.0.q

    st : Stands w.site.keys x q
    st = stands w.site.keys x [] q h.0.place

    both_true : (y : List ℕ) → y ≡ x → assigns_in y tree ≡ true → w.site.pushed y ≡ true → (assigns_in x tree && w.site.pushed x) ≡ true
    both_true y e a b = rw (← e) (rw (a, b) refl)

    old : ℕ
    old = word_of (with_tangent 0 (content_at s (place_of w.site x [])))

    old_is : old ≡ word_of (content s q)
    old_is = word_plain (content_at s (place_of w.site x [])) ∙ ap (λ (o : Option ℕ). word_of (content_at s o)) h.0.place

    by_test : (b : Bool) → (assigns_in x tree && w.site.pushed x) ≡ b → Refilled w tree xs s t vs bs → ((n : ℕ) → Refilled w tree xs s (word n t) vs bs) → Refilled w tree (x ∷ xs) s t vs bs
    by_test true e _ more =
        let k = more old in
        let set-one : with_own_value w (place_of w.site x []) old (local w.shared t k.vs1 bs) ≡ local w.shared t (slice_set k.vs1 q old) bs =
        own_value_set w (place_of w.site x []) q old t k.vs1 bs h.0.place h.0.own in
        record {
          vs1 = slice_set k.vs1 q old;
          out = rw e (rw k.out set-one);
          cells = sym (cells_kept w.shared q old k.vs1 h.0.own) ∙ k.cells;
          long = length-set k.vs1 q old ∙ k.long;
          here = λ p l f a b. here_by k.vs1 k.long k.here p l f a b (bytes_eq (name_at w.site.keys p) x) refl;
          other = λ p f. get_or-set_other k.vs1 q p old 0 (λ g. different (name_at w.site.keys p) x (or_left (bytes_eq (name_at w.site.keys p) x) (has_name (name_at w.site.keys p) xs) f) (ap (name_at w.site.keys) g ∙ st.named))
              ∙ k.other p (or_right (bytes_eq (name_at w.site.keys p) x) (has_name (name_at w.site.keys p) xs) f);
        }
      where
        here_by : (ys : List ℕ) → length ys ≡ length vs → ((p : ℕ) → p < length vs → has_name (name_at w.site.keys p) xs ≡ true → assigns_in (name_at w.site.keys p) tree ≡ true → w.site.pushed (name_at w.site.keys p) ≡ true → slice_index ys p ≡ word_of (content s p))
            → (p : ℕ) → p < length vs → has_name (name_at w.site.keys p) (x ∷ xs) ≡ true → assigns_in (name_at w.site.keys p) tree ≡ true → w.site.pushed (name_at w.site.keys p) ≡ true → (b : Bool) → bytes_eq (name_at w.site.keys p) x ≡ b
            → slice_index (slice_set ys q old) p ≡ word_of (content s p)
        here_by ys size g p l f a b true i =
            let j : p ≡ q = h.0.only p ((bytes_eq-Decides (name_at w.site.keys p) x).0 i) in
            ap (λ (m : ℕ). slice_index (slice_set ys q old) m) j ∙ (get_or-set_same ys q old 0 (subst (λ (m : ℕ). m < length ys) j (omega arith)) ∙ (old_is ∙ ap (λ (m : ℕ). word_of (content s m)) (sym j)))
        here_by ys size g p l f a b false i =
            get_or-set_other ys q p old 0 (λ j. different (name_at w.site.keys p) x i (ap (name_at w.site.keys) j ∙ st.named)) ∙ g p l (or_true (bytes_eq (name_at w.site.keys p) x) (has_name (name_at w.site.keys p) xs) f i) a b
    by_test false e k _ = record {
      vs1 = k.vs1;
      out = rw e (k.out);
      cells = k.cells;
      long = k.long;
      here = λ p l f a b. here_by p l f a b (bytes_eq (name_at w.site.keys p) x) refl;
      other = λ p f. k.other p (or_right (bytes_eq (name_at w.site.keys p) x) (has_name (name_at w.site.keys p) xs) f);
    }
      where
        here_by : (p : ℕ) → p < length vs → has_name (name_at w.site.keys p) (x ∷ xs) ≡ true → assigns_in (name_at w.site.keys p) tree ≡ true → w.site.pushed (name_at w.site.keys p) ≡ true → (b : Bool) → bytes_eq (name_at w.site.keys p) x ≡ b
            → slice_index k.vs1 p ≡ word_of (content s p)
        here_by p l f a b true i = absurd (let j : true ≡ false = sym (both_true (name_at w.site.keys p) ((bytes_eq-Decides (name_at w.site.keys p) x).0 i) a b) ∙ e in cc)
        here_by p l f a b false i = k.here p l (or_true (bytes_eq (name_at w.site.keys p) x) (has_name (name_at w.site.keys p) xs) f i) a b

-- ---- pairings, place by place

pub pair_by : (bs cs ds es : List ℕ) → length bs ≡ length ds → length cs ≡ length es → length bs ≡ length cs → ((p : ℕ) → slice_index bs p * slice_index ds p ≡ slice_index cs p * slice_index es p) → pair bs ds ≡ pair cs es
pair_by [] [] [] [] h k i f = refl
pair_by (b ∷ bs) (c ∷ cs) (d ∷ ds) (e ∷ es) h k i f =
    let first : b * d ≡ c * e = f 0 in
    omega (arith, first, pair_by bs cs ds es (omega arith) (omega arith) (omega arith) (λ p. f (suc p)))
pair_by [] cs (d ∷ ds) es h k i f = absurd (omega arith)
pair_by (b ∷ bs) cs [] es h k i f = absurd (omega arith)
pair_by bs [] ds (e ∷ es) h k i f = absurd (omega arith)
pair_by bs (c ∷ cs) ds [] h k i f = absurd (omega arith)
pair_by [] (c ∷ cs) ds es h k i f = absurd (omega arith)
pair_by (b ∷ bs) [] ds es h k i f = absurd (omega arith)

live_off : (test : ℕ → Bool) (at p : ℕ) (ds : List ℕ) → test (at + p) ≡ false → slice_index (live test at ds) p ≡ 0
live_off test at p [] h = refl
live_off test at zero (d ∷ ds) h = let e : test at ≡ false = ap test (omega arith) ∙ h in rw e refl
live_off test at (suc p) (d ∷ ds) h = live_off test (at + 1) p ds (ap test (omega arith) ∙ h)

live_on : (test : ℕ → Bool) (at p : ℕ) (ds : List ℕ) → test (at + p) ≡ true → slice_index (live test at ds) p ≡ slice_index ds p
live_on test at p [] h = refl
live_on test at zero (d ∷ ds) h = let e : test at ≡ true = ap test (omega arith) ∙ h in rw e refl
live_on test at (suc p) (d ∷ ds) h = live_on test (at + 1) p ds (ap test (omega arith) ∙ h)

-- the tangent that counts at a place
pub counts : (u : Use) (keys : List Key) (s : Cells) (p : ℕ) → slice_index (tangents u keys s) p ≡ cond (u.live (name_at keys p)) (tangent_of (content s p)) 0
counts u keys s p = by_test (u.live (name_at keys p)) refl
  where
    by_test : (b : Bool) → u.live (name_at keys p) ≡ b → slice_index (tangents u keys s) p ≡ cond b (tangent_of (content s p)) 0
    by_test true e = live_on (λ p. u.live (name_at keys p)) 0 p (map tangent_of s) (ap (λ (m : ℕ). u.live (name_at keys m)) (omega arith) ∙ e) ∙ tangent_here s p
    by_test false e = live_off (λ p. u.live (name_at keys p)) 0 p (map tangent_of s) (ap (λ (m : ℕ). u.live (name_at keys m)) (omega arith) ∙ e)
