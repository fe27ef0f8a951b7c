-- The adjoint that the reverse part leaves at a place is the seed-weighted sum of the tangents of the unit direction.
use Rattle.std.proofs.Common.{◌≡◌, ◌^◌, ◌<◌, ℕ, zero, suc, ◌+◌, ◌*◌, List, [], ◌∷◌, refl, ap, sym, ◌∙◌, subst, arith, length, map, Bool, true, false, cond, Option, Some, None, Result, Ok, Err}
use Rattle.std.specs.Prelude.{slice_index}
use Rattle.ring_core.specs.Ring.{ring_mul}
use Rattle.pairing.specs.Ring.{big, Same}
use Rattle.pairing.specs.Pair.{pair, live}
use Rattle.pairing.proofs.Sames.{of_equal, same_sum, same_product, strip_add, strip_mul}
use Rattle.operations.specs.Tree.{Played, play}
use Rattle.meaning.specs.declared.value.Dual.{Dual}
use Rattle.meaning.specs.declared.value.Value.{Value}
use Rattle.meaning.specs.declared.value.Value.TheVariants.{Index, Ring}
use Rattle.meaning.specs.declared.value.TrapAt.{TrapAt}
use Rattle.meaning.specs.Logs.{Log}
use Rattle.meaning.specs.Sites.{Key, Cells, word_of}
use Rattle.meaning.specs.Expressions.{content}
use Rattle.meaning.specs.Statements.{run_all}
use Rattle.meaning.specs.Adjoints.{cells_along, unit, tangent_of, pairing_of, pairing_after, adjoint_at}
use Rattle.meaning.specs.Sites.{with_tangent}
use Rattle.meaning.specs.Laws.{values_out}
use Rattle.meaning.proofs.LawProofs.{unseen as tangents_are_unseen}
use Rattle.transposition.specs.Tapes.{empty, tape_after}
use Rattle.transposition.specs.Worlds.{World, Local, name_at}
use Rattle.transposition.specs.Back.{back_all}
use Rattle.transposition.specs.Law.{Use, flat, local, Like, Fit, tangents}
use Rattle.transposition.specs.Answer.{reverse_run, ReverseIsTransposed}
use Rattle.transposition.proofs.Fits.{still_pointed, unit_fit}
use Rattle.transposition.proofs.Words.{zero_word, sum_word}
use Rattle.transposition.proofs.Split.{adjoint_cell}
use Rattle.transposition.proofs.Places.{content_later, tangent_here}
use Rattle.transposition.proofs.Whole.{kept_all}
use Rattle.transposition.proofs.Whole.{undone_all}

keep_zero : (b : Bool) (x : ℕ) → x ≡ 0 → cond b x 0 ≡ 0
keep_zero true x h = h
keep_zero false x h = refl

pair_still : (test : ℕ → Bool) (at : ℕ) (bs : List ℕ) (s : Cells) → pair bs (live test at (map tangent_of (cells_along [] s))) ≡ 0
pair_still test at [] s = refl
pair_still test at (b ∷ bs) [] = refl
pair_still test at (b ∷ bs) (c ∷ s) = rw (keep_zero (test at) (tangent_of (with_tangent 0 c)) (still_pointed c)) (let e = pair_still test (at + 1) bs s in omega arith)

ring_pointed : (c : Option Value) (d : Dual) → c ≡ Some (Ring d) → tangent_of (with_tangent 1 c) ≡ 1
ring_pointed None d h = cc
ring_pointed (Some (Index z)) d h = cc
ring_pointed (Some (Ring x)) d h = refl

-- the pairing with the unit direction
pair_unit : (test : ℕ → Bool) (at j : ℕ) (bs : List ℕ) (s : Cells) (d : Dual) → content s j ≡ Some (Ring d) → test (at + j) ≡ true → length bs ≡ length s → pair bs (live test at (map tangent_of (cells_along (unit j) s))) ≡ slice_index bs j
pair_unit test at j [] [] d h t l = refl
pair_unit test at j (b ∷ bs) [] d h t l = absurd (omega arith)
pair_unit test at j [] (c ∷ s) d h t l = absurd (omega arith)
pair_unit test at zero (b ∷ bs) (c ∷ s) d h t l =
    let e : test at ≡ true = ap test (omega arith) ∙ t in
    rw (e, ring_pointed c d h) (let f = pair_still test (at + 1) bs s in omega arith)
pair_unit test at (suc j) (b ∷ bs) (c ∷ s) d h t l =
    let f = pair_unit test (at + 1) j bs s d (sym (content_later c s j) ∙ h) (ap test (omega arith) ∙ t) (omega arith) in
    rw (keep_zero (test at) (tangent_of (with_tangent 0 c)) (still_pointed c)) (omega arith)

-- a seed without adjoint meets no tangent
pair_live : (test : ℕ → Bool) (at : ℕ) (bs ds : List ℕ) → ((p : ℕ) → test (at + p) ≡ false → Same (slice_index bs p * slice_index ds p) 0) → Same (pair bs (live test at ds)) (pair bs ds)
pair_live test at [] ds h = refl
pair_live test at (b ∷ bs) [] h = refl
pair_live test at (b ∷ bs) (d ∷ ds) h =
    same_sum (b * cond (test at) d 0) (b * d) _ _ (first (test at) refl) (pair_live test (at + 1) bs ds (λ p e. h (suc p) (ap test (omega arith) ∙ e)))
  where
    first : (t : Bool) → test at ≡ t → Same (b * cond t d 0) (b * d)
    first true e = refl
    first false e = of_equal (b * 0) 0 (omega arith) ∙ sym (h 0 (ap test (omega arith) ∙ e))

paired_is : (ws : List ℕ) (s : Cells) → Same (pairing_of ws s) (pair ws (map tangent_of s))
paired_is [] s = refl
paired_is (w ∷ ws) [] = refl
paired_is (w ∷ ws) (c ∷ s) = strip_add (ring_mul w (tangent_of c)) (pairing_of ws s) ∙ same_sum (ring_mul w (tangent_of c)) (w * tangent_of c) (pairing_of ws s) _ (strip_mul w (tangent_of c)) (paired_is ws s)

-- ---- words don't depend on tangents

word_pointed : (t : ℕ) (c : Option Value) → word_of (with_tangent t c) ≡ word_of c
word_pointed t None = refl
word_pointed t (Some (Index z)) = refl
word_pointed t (Some (Ring d)) = refl

content_along : (s : Cells) (p : ℕ) → content (cells_along [] s) p ≡ with_tangent 0 (content s p)
content_along [] p = refl
content_along (c ∷ s) zero = refl
content_along (c ∷ s) (suc p) = content_later (with_tangent 0 c) (cells_along [] s) p ∙ (content_along s p ∙ ap (with_tangent 0) (sym (content_later c s p)))

pointed_some : (c : Option Value) (v : Value) → with_tangent 0 c ≡ with_tangent 0 (Some v) → (y : Value) → c ≡ Some y → word_of (Some y) ≡ word_of (Some v)
pointed_some c v e y h = sym (ap word_of h) ∙ (sym (word_pointed 0 c) ∙ (ap word_of e ∙ word_pointed 0 (Some v)))

some_of : (c : Option Value) (v : Value) → with_tangent 0 c ≡ with_tangent 0 (Some v) → (y : Value) × (c ≡ Some y)
some_of None (Index z) e = cc
some_of None (Ring d) e = cc
some_of (Some y) v e = (y, refl)

like_along : (u : Use) (keys : List Key) (vs : List ℕ) (s t : Cells) → cells_along [] s ≡ cells_along [] t → Like u keys vs s → Like u keys vs t
like_along u keys vs s t e l = record { read = read; held = l.held }
  where
    read : (p : ℕ) (v : Value) → content t p ≡ Some v → u.needed (name_at keys p) ≡ true → slice_index vs p ≡ word_of (Some v)
    read p v h n =
        let same : with_tangent 0 (content s p) ≡ with_tangent 0 (Some v) = sym (content_along s p) ∙ (ap (λ (c : Cells). content c p) e ∙ (content_along t p ∙ ap (with_tangent 0) h)) in
        let y = some_of (content s p) v same in
        l.read p y.0 y.1 n ∙ pointed_some (content s p) v same y.0 y.1

pub along_along : (ts : List ℕ) (s : Cells) → cells_along [] (cells_along ts s) ≡ cells_along [] s
along_along ts [] = refl
along_along [] (c ∷ s) = rw (twice 0 c, along_along [] s) refl
  where
    twice : (t : ℕ) (c : Option Value) → with_tangent 0 (with_tangent t c) ≡ with_tangent 0 c
    twice t None = refl
    twice t (Some (Index z)) = refl
    twice t (Some (Ring d)) = refl
along_along (t ∷ ts) (c ∷ s) = rw (twice t c, along_along ts s) refl
  where
    twice : (t : ℕ) (c : Option Value) → with_tangent 0 (with_tangent t c) ≡ with_tangent 0 c
    twice t None = refl
    twice t (Some (Index z)) = refl
    twice t (Some (Ring d)) = refl

-- a run in another direction ends, too
pub record Turned (r : Result Cells TrapAt) (s2 : Cells) : Type 0 where
  pub s3 : Cells
  pub out : r ≡ Ok s3
  pub same : cells_along [] s2 ≡ cells_along [] s3

pub turned : (r q : Result Cells TrapAt) (s2 : Cells) → q ≡ Ok s2 → values_out q ≡ values_out r → Turned r s2
turned (Ok c) q s2 e h = let f : values_out (Ok s2) ≡ values_out (Ok c) = ap values_out (sym e) ∙ h in record { s3 = c; out = refl; same = (let g : cells_along [] s2 ≡ cells_along [] c = cc in g) }
turned (Err x) q s2 e h = let f : values_out (Ok s2) ≡ values_out (Err x) = ap values_out (sym e) ∙ h in cc

long_along : (ts : List ℕ) (s : Cells) → length (cells_along ts s) ≡ length s
long_along ts [] = refl
long_along [] (c ∷ s) = ap suc (long_along [] s)
long_along (t ∷ ts) (c ∷ s) = ap suc (long_along ts s)

pairing_word : (ws : List ℕ) (s : Cells) → pairing_of ws s < 2 ^ 64
pairing_word [] s = zero_word
pairing_word (w ∷ ws) [] = zero_word
pairing_word (w ∷ ws) (c ∷ s) = sum_word (ring_mul w (tangent_of c)) (pairing_of ws s)

adjoint_word : (seed : List ℕ) (r : Result Cells TrapAt) → pairing_after seed r < 2 ^ 64
adjoint_word seed (Ok s) = pairing_word seed s
adjoint_word seed (Err t) = zero_word

exact : (a b : ℕ) → a < 2 ^ 64 → b < 2 ^ 64 → Same a b → a ≡ b
unfolding big
exact a b h k e = omega arith

pub answered : ReverseIsTransposed
answered w u xs s s2 vs seed j d sound unheld calm fits room moved h like wide long small ring alive dead =
    let sj = cells_along (unit j) s in
    let fit = unit_fit w u s j fits room moved unheld in
    let unseen = tangents_are_unseen xs w.site s sj (sym (along_along (unit j) s)) in
    let t = turned (run_all xs w.site sj).out (run_all xs w.site s).out s2 h unseen.1 in
    let kept = kept_all xs w u sj t.s3 fit sound t.out in
    let like3 = like_along u w.site.keys vs s2 t.s3 t.same like in
    let e = undone_all xs w u (run_all xs w.site sj).log sj t.s3 empty fit sound calm (record { touches = λ k p i. i; differentiated = λ p i. i }) t.out vs seed like3 wide long small in
    let same-tree : play (back_all xs w (local w.shared (tape_after (run_all xs w.site sj).log empty) vs seed)) (flat w.shared vs seed) ≡ reverse_run w xs s vs seed =
    ap (λ (l : Log). play (back_all xs w (local w.shared (tape_after l empty) vs seed)) (flat w.shared vs seed)) (sym unseen.0) in
    let unit-pair : pair e.bs2 (tangents u w.site.keys sj) ≡ slice_index e.bs2 j =
    pair_unit (λ p. u.live (name_at w.site.keys p)) 0 j e.bs2 s d ring (ap (λ (m : ℕ). u.live (name_at w.site.keys m)) (omega arith) ∙ alive) (e.long ∙ (sym fit.long ∙ long_along (unit j) s)) in
    let seen : Same (pair seed (tangents u w.site.keys t.s3)) (pair seed (map tangent_of t.s3)) =
    pair_live (λ p. u.live (name_at w.site.keys p)) 0 seed (map tangent_of t.s3) (λ p o. unmet w u t.s3 seed p kept.fit dead (ap (λ (m : ℕ). u.live (name_at w.site.keys m)) (omega arith) ∙ o)) in
    let the-adjoint : slice_index e.bs2 j ≡ adjoint_at (run_all xs w.site) s seed j =
    exact (slice_index e.bs2 j) (adjoint_at (run_all xs w.site) s seed j) (e.words j) (adjoint_word seed (run_all xs w.site sj).out)
    (of_equal _ _ (sym unit-pair) ∙ (e.pairs ∙ (seen ∙ (sym (paired_is seed t.s3) ∙ of_equal _ _ (ap (pairing_after seed) (sym t.out)))))) in
    record {
      vs2 = e.vs2;
      bs2 = e.bs2;
      out = ap (λ (r : Played Local). r.out) (sym same-tree) ∙ e.out;
      cells = ap (λ (r : Played Local). r.cells) (sym same-tree) ∙ e.cells;
      wide = e.wide;
      long = e.long;
      words = e.words;
      adjoint = the-adjoint;
      cell = λ i. ap (λ (r : Played Local). slice_index r.cells (w.shared + j)) (sym same-tree) ∙ (ap (λ (c : List ℕ). slice_index c (w.shared + j)) e.cells
          ∙ (adjoint_cell w.shared j e.vs2 e.bs2 (let a = e.wide in let b = fit.room in omega arith) i ∙ the-adjoint));
      values = like_along u w.site.keys e.vs2 sj s (along_along (unit j) s) e.like;
    }
  where
    unmet : (w : World) (u : Use) (c : Cells) (seed : List ℕ) (p : ℕ) → Fit w u c → ((p : ℕ) → u.live (name_at w.site.keys p) ≡ false → u.moved (name_at w.site.keys p) ≡ true → slice_index seed p ≡ 0) → u.live (name_at w.site.keys p) ≡ false
        → Same (slice_index seed p * slice_index (map tangent_of c) p) 0
    unmet w u c seed p fit dead off = by_moved (u.moved (name_at w.site.keys p)) refl
      where
        by_moved : (b : Bool) → u.moved (name_at w.site.keys p) ≡ b → Same (slice_index seed p * slice_index (map tangent_of c) p) 0
        by_moved true e = of_equal _ _ (let f = dead p off e in rw f (omega arith))
        by_moved false e = same_product (slice_index seed p) (slice_index seed p) _ 0 refl (subst (λ (m : ℕ). Same m 0) (sym (tangent_here c p)) (fit.still p e)) ∙ of_equal (slice_index seed p * 0) 0 (omega arith)
