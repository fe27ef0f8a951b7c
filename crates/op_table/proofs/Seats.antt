-- Seats that are split and join_of, the opening and the close.
use Rattle.std.proofs.Common.{◌≡◌, ◌≢◌, ℕ, zero, suc, ◌+◌, ◌<◌, ◌==◌, ◌||◌, Bool, true, false, List, [], ◌∷◌, ◌++◌, length, set, if◌then◌else◌, ◌⊎◌, inl, inr, ⊎_elim, refl, sym, ap, ◌∙◌, subst, arith, true≢false, eq-eqb, ne_eqb}
use Rattle.std.specs.Prelude.{slice_index}
use mathlib.Core.Option.{some, some-injective, some-ne-none}
use mathlib.Core.Logic.{dite}
use native.Mathlib.Decide.{ℕ_discrete}
use lib.ListN.{get_elem?}
use Rattle.atomic_table.proofs.Lists.{at_set, at_snoc, set_here, set_else}
use Rattle.op_table.specs.declared.view.View.{View}
use Rattle.op_table.specs.Rule.{view, lists, position_of, is_in, parts_of, Work, IsSound, claim_word, IsSeated, IsKept}
use Rattle.std.specs.Prelude.{replicate}
use Rattle.std.proofs.Common.{length-append, get_or-append-add}
use Rattle.std.proofs.lemmas.List.{length-replicate}
use Rattle.atomic_table.specs.Table.{opening, Final, Seen, Splits, Joins}
use Rattle.atomic_table.proofs.Lists.{at_longer}
use Rattle.operations.specs.Ops.{acts_all}
use Rattle.operations.specs.Order.{in_order}
use Rattle.operations.proofs.Orders.{joint_start, joint_end}
use Rattle.operations.proofs.Dues.{length_acts_all}
use Rattle.std.proofs.lemmas.List.{ext_get_or}
use Rattle.op_table.proofs.Claims.{or_here, or_there, or_either}
use Rattle.op_table.specs.Plays.{join_of, spent_view, IsFinished}
use Rattle.op_table.proofs.Rule.{parts_set, get_length, views_set}

or_left : (a b : Bool) → (a || b) ≡ false → a ≡ false
or_left a b e = grind arith

or_right : (a b : Bool) → (a || b) ≡ false → b ≡ false
or_right a b e = grind arith

parts_snoc : (views : List View) (w : View) → parts_of (views ++ w ∷ []) ≡ parts_of views + w.parts
parts_snoc [] w = omega arith
parts_snoc (v ∷ vs) w = let t = parts_snoc vs w in omega arith

none_listed : (v : View) (k : ℕ) → v.held ≡ [] → lists k v.held ≡ true → ⊥
none_listed v k e l = true≢false (sym l ∙ ap (lists k) e)

-- a seat that lists nothing gives parts to a new one
pub splits : {S : Type 0} (d : Work) (id : ℕ) (v left right : View) → v.held ≡ [] → left ≡ view [] v.found left.parts → right ≡ view [] [] right.parts → left.parts + right.parts ≡ v.parts
    → Splits {S = S} (IsKept d) id v left right
splits d id v left right empty l r sum s h me =
    record {
      at = h.at;
      who = h.who;
      sized = h.sized;
      sound = h.sound;
      cells = h.cells;
      claims = λ j lt. ⊎_elim
          (λ (z : (claim_word d s.words j ≡ 0) × (h.at j ≡ 0)). inl z)
          (λ (z : (claim_word d s.words j ≡ 1) × ((u : View) × (get_elem? s.views (h.who j) ≡ some u) × (lists j u.held ≡ true))).
          inr (z.0, (z.1.0, at_longer (set s.views id left) (right ∷ []) (h.who j) z.1.0 (set_else s.views id (h.who j) left (λ e. none_listed v j empty (subst (λ (u : View). lists j u.held ≡ true) (some-injective z.1.0 v (sym z.1.1 ∙ (ap (get_elem? s.views) e ∙ me))) z.1.2)) ∙ z.1.1), z.1.2)))
          (h.claims j lt);
      within = h.within;
      seated = λ j u e. ⊎_elim
          (λ (old : get_elem? (set s.views id left) j ≡ some u). views_set (λ j u. IsSeated d s.words h.at h.who j u) s.views id left (λ j u ne e. h.seated j u e)
          (subst (λ (y : View). IsSeated d s.words h.at h.who id y) (sym l) (record {
            held = λ m lm. absurd (true≢false (sym lm));
            found = (h.seated id v me).found;
            idle = λ _. refl;
          })) j u old)
          (λ (new : right ≡ u). subst (λ (y : View). IsSeated d s.words h.at h.who j y) (sym r ∙ new) (record {
            held = λ m lm. absurd (true≢false (sym lm));
            found = λ m lm. absurd (true≢false (sym lm));
            idle = λ _. refl;
          }))
          (at_snoc (set s.views id left) right u j e);
      parts = let t = parts_set s.views id v left me in let q = parts_snoc (set s.views id left) right in let p = h.parts in omega arith;
    }

pub lists-append : (k : ℕ) (xs ys : List (ℕ × ℕ)) → lists k (xs ++ ys) ≡ (lists k xs || lists k ys)
lists-append k [] ys = refl
lists-append k (x ∷ xs) ys = ap (λ (b : Bool). (k == x.0) || b) (lists-append k xs ys) ∙ or_assoc (k == x.0) (lists k xs) (lists k ys)
  where
    or_assoc : (a b c : Bool) → (a || (b || c)) ≡ ((a || b) || c)
    or_assoc a b c = grind arith

pub position_first : (k : ℕ) (xs ys : List (ℕ × ℕ)) → lists k xs ≡ true → position_of k (xs ++ ys) ≡ position_of k xs
position_first k [] ys l = absurd (true≢false (sym l))
position_first k (x ∷ xs) ys l = first_case (k == x.0) (position_of k (xs ++ ys)) (position_of k xs) x.1 (λ f. position_first k xs ys (or_second (k == x.0) (lists k xs) f l))
  where
    first_case : (b : Bool) (m n y : ℕ) → (b ≡ false → m ≡ n) → (if b then y else m) ≡ (if b then y else n)
    first_case true m n y f = refl
    first_case false m n y f = f refl

    or_second : (a b : Bool) → a ≡ false → (a || b) ≡ true → b ≡ true
    or_second a b f h = grind arith

pub position_second : (k : ℕ) (xs ys : List (ℕ × ℕ)) → lists k xs ≡ false → position_of k (xs ++ ys) ≡ position_of k ys
position_second k [] ys l = refl
position_second k (x ∷ xs) ys l = let f : (k == x.0) ≡ false = or_left (k == x.0) (lists k xs) l in rw f (position_second k xs ys (or_right (k == x.0) (lists k xs) l))

is_in-append : (k : ℕ) (xs ys : List ℕ) → is_in k (xs ++ ys) ≡ true → (is_in k xs ≡ true) ⊎ (is_in k ys ≡ true)
is_in-append k [] ys e = inr e
is_in-append k (x ∷ xs) ys e = ⊎_elim
    (λ (t : (k == x) ≡ true). inl (or_here (k == x) (is_in k xs) t))
    (λ (t : ((k == x) ≡ false) × (is_in k (xs ++ ys) ≡ true)). ⊎_elim (λ (q : is_in k xs ≡ true). inl (or_there (k == x) (is_in k xs) q)) (λ (q : is_in k ys ≡ true). inr q) (is_in-append k xs ys t.1))
    (or_either (k == x) (is_in k (xs ++ ys)) e)

-- where other had a chunk, id has it
abbrev handed : (ℕ → ℕ) → ℕ → ℕ → ℕ → ℕ
handed who other id j = if who j == other then id else who j

handed_over : (who : ℕ → ℕ) (other id j : ℕ) → who j ≡ other → handed who other id j ≡ id
handed_over who other id j e = rw (eq-eqb (who j) other e) refl

handed_else : (who : ℕ → ℕ) (other id j : ℕ) → who j ≢ other → handed who other id j ≡ who j
handed_else who other id j ne = rw (ne_eqb (who j) other ne) refl

pub joins : {S : Type 0} (d : Work) (id : ℕ) (v : View) (other : ℕ) (w : View) → Joins {S = S} (IsKept d) id v other w (join_of v w) spent_view
joins d id v other w s h me apart there' =
    let there : get_elem? s.views other ≡ some w = sym (set_else s.views id other (join_of v w) apart) ∙ there' in
    let both = join_of v w in
    let views' = set (set s.views id both) other spent_view in
    let has_both : get_elem? views' id ≡ some both = set_else (set s.views id both) other id spent_view (λ e. apart (sym e)) ∙ set_here s.views id both (get_length s.views id v me) in
    let a = parts_set s.views id v both me in
    let b = parts_set (set s.views id both) other w spent_view there' in
    let p = h.parts in
    record {
      at = h.at;
      who = handed h.who other id;
      sized = h.sized;
      sound = h.sound;
      cells = h.cells;
      claims = λ j lt. ⊎_elim
          (λ (z : (claim_word d s.words j ≡ 0) × (h.at j ≡ 0)). inl z)
          (λ (z : (claim_word d s.words j ≡ 1) × ((u : View) × (get_elem? s.views (h.who j) ≡ some u) × (lists j u.held ≡ true))).
          inr (
            z.0,
            dite (ℕ_discrete (h.who j) other)
                (λ e. (
                  both,
                  subst (λ (m : ℕ). get_elem? views' m ≡ some both) (sym (handed_over h.who other id j e)) has_both,
                  lists-append j v.held w.held ∙ or_there (lists j v.held) (lists j w.held) (subst (λ (u : View). lists j u.held ≡ true) (some-injective z.1.0 w (sym z.1.1 ∙ (ap (get_elem? s.views) e ∙ there))) z.1.2),
                ))
                (λ ne. dite (ℕ_discrete (h.who j) id)
                (λ e. (
                  both,
                  subst (λ (m : ℕ). get_elem? views' m ≡ some both) (sym (handed_else h.who other id j ne ∙ e)) has_both,
                  lists-append j v.held w.held ∙ or_here (lists j v.held) (lists j w.held) (subst (λ (u : View). lists j u.held ≡ true) (some-injective z.1.0 v (sym z.1.1 ∙ (ap (get_elem? s.views) e ∙ me))) z.1.2),
                ))
                (λ far. (z.1.0, ap (get_elem? views') (handed_else h.who other id j ne) ∙ (set_else (set s.views id both) other (h.who j) spent_view ne ∙ (set_else s.views id (h.who j) both far ∙ z.1.1)), z.1.2))),
          ))
          (h.claims j lt);
      within = h.within;
      seated = views_set (λ j u. IsSeated d s.words h.at (handed h.who other id) j u) (set s.views id both) other spent_view
          (λ j u far e. ⊎_elim
          (λ (t : (j ≡ id) × (both ≡ u)). subst (λ (y : ℕ × View). IsSeated d s.words h.at (handed h.who other id) y.0 y.1) (λ i. (sym t.0 i, t.1 i)) (record {
            held = λ m lm. ⊎_elim
                (λ (x : lists m v.held ≡ true). let old = (h.seated id v me).held m x in
                (old.0, handed_else h.who other id m (λ e. apart (sym e ∙ old.1)) ∙ old.1, old.2 ∙ sym (position_first m v.held w.held x), old.3))
                (λ (x : (lists m v.held ≡ false) × (lists m w.held ≡ true)). let old = (h.seated other w there).held m x.1 in
                (old.0, handed_over h.who other id m old.1, old.2 ∙ sym (position_second m v.held w.held x.0), old.3))
                (or_either (lists m v.held) (lists m w.held) (sym (lists-append m v.held w.held) ∙ lm));
            found = λ m lm. ⊎_elim (λ (x : is_in m v.found ≡ true). (h.seated id v me).found m x) (λ (x : is_in m w.found ≡ true). (h.seated other w there).found m x) (is_in-append m v.found w.found lm);
            idle = λ none. let none_v : v.parts ≡ 0 = omega arith in let none_w : w.parts ≡ 0 = omega arith in
                ap (λ (xs : List (ℕ × ℕ)). xs ++ w.held) ((h.seated id v me).idle none_v) ∙ (h.seated other w there).idle none_w;
          }))
          (λ (t : (j ≢ id) × (get_elem? s.views j ≡ some u)). let old = h.seated j u t.1 in record {
            held = λ m lm. let x = old.held m lm in (x.0, handed_else h.who other id m (λ e. far (sym x.1 ∙ e)) ∙ x.1, x.2, x.3);
            found = old.found;
            idle = old.idle;
          })
          (at_set s.views id j both u e))
          (record {
            held = λ m lm. absurd (true≢false (sym lm));
            found = λ m lm. absurd (true≢false (sym lm));
            idle = λ _. refl;
          });
      parts = omega arith;
    }

-- the table at its opening
pub begins : {S : Type 0} (d : Work) (ws : List ℕ) (xs : List S) → 0 < d.parts → IsSound d.ops d.chunks (length d.opening) → length ws ≡ suc (length d.opening + d.chunks)
    → ((p : ℕ) → p < length d.opening → slice_index ws (suc p) ≡ slice_index d.opening p)
    → ((k : ℕ) → k < d.chunks → slice_index ws (suc (length d.opening + k)) ≡ 0)
    → IsKept d (opening ws xs (view [] [] d.parts))
begins d ws xs some_part sound sized cells claims = record {
  at = λ _. 0;
  who = λ _. 0;
  sized = sized;
  sound = sound;
  cells = λ p lt. cells p lt ∙ ap (λ l. slice_index l p) (sym (joint_start d.ops d.chunks d.opening));
  claims = λ k lt. inl (claims k lt, refl);
  within = λ k lt. omega arith;
  seated = one;
  parts = omega arith;
}
  where
    one : (id : ℕ) (v : View) → get_elem? (view [] [] d.parts ∷ []) id ≡ some v → IsSeated d ws (λ _. 0) (λ _. 0) id v
    one zero v e = subst (IsSeated d ws (λ _. 0) (λ _. 0) 0) (some-injective (view [] [] d.parts) v e) (record {
      held = λ m lm. absurd (true≢false (sym lm));
      found = λ m lm. absurd (true≢false (sym lm));
      idle = λ _. refl;
    })
    one (suc id) v e = absurd (some-ne-none v (sym e))

-- the cells at the close are the opening words after all operations of all chunks, one after another
pub closes : {S : Type 0} (d : Work) (id : ℕ) (v : View) (ws : List ℕ) (xs : List S) → Final (Seen (IsKept d) id v) ws xs → IsFinished d v
    → (length ws ≡ suc (length d.opening + d.chunks)) × ((p : ℕ) → p < length d.opening → slice_index ws (suc p) ≡ slice_index (acts_all (in_order d.ops d.chunks) d.opening) p)
closes d id v ws xs final done =
    let s = final.0 in
    let h = final.1.0 in
    let me = final.1.1 in
    let same : s.words ≡ ws = final.2 in (
      ap length (sym same) ∙ h.sized,
      λ p lt. ap (λ (l : List ℕ). slice_index l (suc p)) (sym same) ∙ (h.cells p lt
          ∙ ap (λ l. slice_index l p) (joint_end d.ops h.at d.chunks d.opening (λ k l. let t = done k l in let e = ((h.seated id v me).held k t.0).2 in let u = t.1 in omega arith))),
    )

-- the words that make lays out
pub laid : {S : Type 0} (d : Work) (ws : List ℕ) (xs : List S) → ws ≡ 0 ∷ d.opening ++ replicate d.chunks 0 → 0 < d.parts → IsSound d.ops d.chunks (length d.opening) → IsKept d (opening ws xs (view [] [] d.parts))
laid d ws xs e some_part sound = begins d ws xs some_part sound
    (ap length e ∙ ap suc (length-append d.opening (replicate d.chunks 0) ∙ ap (λ (n : ℕ). length d.opening + n) (length-replicate d.chunks 0)))
    (λ p lt. ap (λ (l : List ℕ). slice_index l (suc p)) e ∙ left_of d.opening (replicate d.chunks 0) p lt)
    (λ k lt. ap (λ (l : List ℕ). slice_index l (suc (length d.opening + k))) e ∙ (get_or-append-add d.opening (replicate d.chunks 0) k 0 ∙ zeros d.chunks k))
  where
    left_of : (xs ys : List ℕ) (p : ℕ) → p < length xs → slice_index (xs ++ ys) p ≡ slice_index xs p
    left_of [] ys p lt = absurd (omega arith)
    left_of (x ∷ xs) ys zero lt = refl
    left_of (x ∷ xs) ys (suc p) lt = left_of xs ys p (omega arith)

    zeros : (n k : ℕ) → slice_index (replicate n 0) k ≡ 0
    zeros zero k = refl
    zeros (suc n) zero = refl
    zeros (suc n) (suc k) = zeros n k

index_at : (l : List ℕ) (i a : ℕ) → get_elem? l i ≡ some a → slice_index l i ≡ a
index_at [] i a e = absurd (some-ne-none a (sym e))
index_at (x ∷ xs) zero a e = some-injective x a e
index_at (x ∷ xs) (suc i) a e = index_at xs i a e

-- the words that close takes out
pub taken_out : {S : Type 0} (d : Work) (id : ℕ) (v : View) (ws : List ℕ) (xs : List S) (out : List ℕ) → Final (Seen (IsKept d) id v) ws xs → IsFinished d v → length out ≡ length d.opening
    → ((p : ℕ) → p < length out → get_elem? ws (1 + p) ≡ some (slice_index out p)) → out ≡ acts_all (in_order d.ops d.chunks) d.opening
taken_out d id v ws xs out final done len each = ext_get_or 0 out (acts_all (in_order d.ops d.chunks) d.opening) (len ∙ sym (length_acts_all (in_order d.ops d.chunks) d.opening))
    (λ p lt. let one : suc p ≡ 1 + p = omega arith in
    sym (index_at ws (1 + p) (slice_index out p) (each p lt)) ∙ (ap (slice_index ws) (sym one) ∙ (closes d id v ws xs final done).1 p (omega arith)))
