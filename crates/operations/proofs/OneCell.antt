-- Single cells, and races.
use Rattle.std.proofs.Common.{◌≡◌, ◌≢◌, ℕ, zero, suc, ◌+◌, ◌%◌, ◌^◌, ◌<◌, ◌==◌, ◌||◌, if◌then◌else◌, Bool, true, false, true≢false, eq-eqb, ne_eqb, eqb-true, List, [], ◌∷◌, length, take, refl, ap, sym, ◌∙◌, subst, arith, ◌⊎◌, inl, inr, ⊎_elim, Option, Some, None}
use Rattle.std.specs.Prelude.{slice_index, slice_index_or}
use Rattle.std.proofs.lemmas.List.{get_or-set_same}
use Rattle.operations.specs.declared.op.Op.{Op}
use Rattle.operations.specs.declared.op.Op.TheVariants.{Load, Store, Bump, Add}
use Rattle.operations.specs.Ops.{cell_of, acts, acts_all, Clear, ClearAll, Apart}
use Rattle.ring_core.specs.Ring.{ring_add}
use Rattle.operations.specs.Cell.{word_by, word_after, joint_word, stores_to, is_stored, amounts, joint_amounts}
use mathlib.Core.Logic.{dite}
use native.Mathlib.Decide.{ℕ_discrete}
use Rattle.operations.specs.Order.{IsDisciplined, joint_cells}
use Rattle.operations.specs.Race.{Races, IsToldRace, ComesFirst}
use Rattle.operations.proofs.OpLaws.{acts_is, read_other}
use Rattle.operations.proofs.Dues.{length_acts_all}

pub own_cell : (o : Op) (c : List ℕ) → cell_of o < length c → slice_index (acts o c) (cell_of o) ≡ word_by o (slice_index c (cell_of o))
own_cell o c lt = ap (λ l. slice_index l (cell_of o)) (acts_is o c) ∙ get_or-set_same c (cell_of o) (word_by o (slice_index c (cell_of o))) 0 lt

pub length_joint : (ops : ℕ → List Op) (at : ℕ → ℕ) (n : ℕ) (c : List ℕ) → length (joint_cells ops at n c) ≡ length c
length_joint ops at zero c = refl
length_joint ops at (suc n) c = length_acts_all (take (at n) (ops n)) (joint_cells ops at n c) ∙ length_joint ops at n c

cell_after : (o : Op) (p : ℕ) (c : List ℕ) → p < length c → slice_index (acts o c) p ≡ (if p == cell_of o then word_by o (slice_index c p) else slice_index c p)
cell_after o p c lt = dite (ℕ_discrete p (cell_of o))
    (λ e. rw (eq-eqb p (cell_of o) e) (subst (λ q. slice_index (acts o c) q ≡ word_by o (slice_index c q)) (sym e) (own_cell o c (subst (λ q. q < length c) e lt))))
    (λ ne. rw (ne_eqb p (cell_of o) ne) (read_other o p c ne))

pub cell_after_all : (os : List Op) (p : ℕ) (c : List ℕ) → p < length c → slice_index (acts_all os c) p ≡ word_after p os (slice_index c p)
cell_after_all [] p c lt = refl
cell_after_all (o ∷ os) p c lt = cell_after_all os p (acts o c) (let e = length_acts_all (o ∷ []) c in omega arith) ∙ ap (word_after p os) (cell_after o p c lt)

pub joint_cell : (ops : ℕ → List Op) (at : ℕ → ℕ) (n p : ℕ) (c : List ℕ) → p < length c → slice_index (joint_cells ops at n c) p ≡ joint_word p ops at n (slice_index c p)
joint_cell ops at zero p c lt = refl
joint_cell ops at (suc n) p c lt = cell_after_all (take (at n) (ops n)) p (joint_cells ops at n c) (let e = length_joint ops at n c in omega arith) ∙ ap (word_after p (take (at n) (ops n))) (joint_cell ops at n p c lt)

-- ---- a cell that one list stores

or_cases : (a b : Bool) → (a || b) ≡ true → (a ≡ true) ⊎ (b ≡ true)
or_cases true b e = inl refl
or_cases false b e = inr e

or_left : (a b : Bool) → (a || b) ≡ false → a ≡ false
or_left a b e = grind arith

or_right : (a b : Bool) → (a || b) ≡ false → b ≡ false
or_right a b e = grind arith

store_clear : (p : ℕ) (o u : Op) → stores_to p o ≡ true → Clear o u → p ≢ cell_of u
store_clear p (Load q) u s h e = true≢false (sym s)
store_clear p (Store q v) u s h e = h refl (sym (eqb-true p q s) ∙ e)
store_clear p (Bump q a) u s h e = h refl (sym (eqb-true p q s) ∙ e)
store_clear p (Add q a) u s h e = true≢false (sym s)

stored_clear : (p : ℕ) (os : List Op) (u : Op) → is_stored p os ≡ true → ClearAll os u → p ≢ cell_of u
stored_clear p [] u s h = absurd (true≢false (sym s))
stored_clear p (o ∷ os) u s h = ⊎_elim (λ a. store_clear p o u a h.0) (λ b. stored_clear p os u b h.1) (or_cases (stores_to p o) (is_stored p os) s)

-- operations that are apart from a store leave its cell
left_alone : (p : ℕ) (os us : List Op) (i x : ℕ) → is_stored p os ≡ true → Apart os us → word_after p (take i us) x ≡ x
left_alone p os us zero x s h = refl
left_alone p os [] (suc i) x s h = refl
left_alone p os (u ∷ us) (suc i) x s h =
    let e : (if p == cell_of u then word_by u x else x) ≡ x = rw (ne_eqb p (cell_of u) (stored_clear p os u s h.0)) refl in
    ap (word_after p (take i us)) e ∙ left_alone p os us i x s h.1

joint_none : (p : ℕ) (ops : ℕ → List Op) (at : ℕ → ℕ) (n x : ℕ) → ((j y : ℕ) → j < n → word_after p (take (at j) (ops j)) y ≡ y) → joint_word p ops at n x ≡ x
joint_none p ops at zero x h = refl
joint_none p ops at (suc n) x h = h n (joint_word p ops at n x) (omega arith) ∙ joint_none p ops at n x (λ j y lt. h j y (omega arith))

joint_one : (p : ℕ) (ops : ℕ → List Op) (at : ℕ → ℕ) (k n x : ℕ) → k < n → ((j y : ℕ) → j < n → j ≢ k → word_after p (take (at j) (ops j)) y ≡ y) → joint_word p ops at n x ≡ word_after p (take (at k) (ops k)) x
joint_one p ops at k zero x lt h = absurd (omega arith)
joint_one p ops at k (suc n) x lt h = dite (ℕ_discrete k n)
    (λ e. subst (λ m. word_after p (take (at n) (ops n)) (joint_word p ops at n x) ≡ word_after p (take (at m) (ops m)) x) (sym e) (ap (word_after p (take (at n) (ops n))) (joint_none p ops at n x (λ j y l. h j y (omega arith) (omega arith)))))
    (λ ne. let ne' : n ≢ k = λ e. ne (sym e) in h n (joint_word p ops at n x) (omega arith) ne' ∙ joint_one p ops at k n x (omega arith) (λ j y l. h j y (omega arith)))

pub stored_cell : (ops : ℕ → List Op) (n : ℕ) (at : ℕ → ℕ) (k p : ℕ) (c : List ℕ) → IsDisciplined ops n → k < n → p < length c → is_stored p (ops k) ≡ true
    → slice_index (joint_cells ops at n c) p ≡ word_after p (take (at k) (ops k)) (slice_index c p)
stored_cell ops n at k p c d lt inside s = joint_cell ops at n p c inside
    ∙ joint_one p ops at k n (slice_index c p) lt (λ j y l ne. let ne' : k ≢ j = (λ e. ne (sym e)) in left_alone p (ops k) (ops j) (at j) y s (d k j lt l ne'))

-- ---- a cell that no list stores

added_word : (p : ℕ) (os : List Op) (i x : ℕ) → is_stored p os ≡ false → word_after p (take i os) (x % 2 ^ 64) ≡ (x + amounts p (take i os)) % 2 ^ 64
added_word p os zero x s = ap (λ y. y % 2 ^ 64) (omega arith)
added_word p [] (suc i) x s = ap (λ y. y % 2 ^ 64) (omega arith)
added_word p (Load q ∷ os) (suc i) x s = loaded (p == q) (added_word p os i x s)
  where
    loaded : (b : Bool) → word_after p (take i os) (x % 2 ^ 64) ≡ (x + amounts p (take i os)) % 2 ^ 64 → word_after p (take i os) (if b then x % 2 ^ 64 else x % 2 ^ 64) ≡ (x + amounts p (take i os)) % 2 ^ 64
    loaded true h = h
    loaded false h = h
added_word p (Store q v ∷ os) (suc i) x s =
    let e : (if p == q then v else x % 2 ^ 64) ≡ x % 2 ^ 64 = rw (or_left (p == q) (is_stored p os) s) refl in
    ap (word_after p (take i os)) e ∙ added_word p os i x (or_right (p == q) (is_stored p os) s)
added_word p (Bump q a ∷ os) (suc i) x s =
    let e : (if p == q then ring_add (x % 2 ^ 64) a else x % 2 ^ 64) ≡ x % 2 ^ 64 = rw (or_left (p == q) (is_stored p os) s) refl in
    ap (word_after p (take i os)) e ∙ added_word p os i x (or_right (p == q) (is_stored p os) s)
added_word p (Add q a ∷ os) (suc i) x s = one_added (p == q) (λ y. added_word p os i y s)
  where
    one_added : (b : Bool) → ((y : ℕ) → word_after p (take i os) (y % 2 ^ 64) ≡ (y + amounts p (take i os)) % 2 ^ 64)
        → word_after p (take i os) (if b then ring_add (x % 2 ^ 64) a else x % 2 ^ 64) ≡ (x + ((if b then a else 0) + amounts p (take i os))) % 2 ^ 64
    one_added true h = let m : ring_add (x % 2 ^ 64) a ≡ (x + a) % 2 ^ 64 = omega arith in ap (word_after p (take i os)) m ∙ (h (x + a) ∙ ap (λ y. y % 2 ^ 64) (omega arith))
    one_added false h = h x ∙ ap (λ y. y % 2 ^ 64) (omega arith)

added_joint : (p : ℕ) (ops : ℕ → List Op) (at : ℕ → ℕ) (n x : ℕ) → ((k : ℕ) → k < n → is_stored p (ops k) ≡ false) → joint_word p ops at n (x % 2 ^ 64) ≡ (x + joint_amounts p ops at n) % 2 ^ 64
added_joint p ops at zero x h = ap (λ y. y % 2 ^ 64) (omega arith)
added_joint p ops at (suc n) x h = ap (word_after p (take (at n) (ops n))) (added_joint p ops at n x (λ k l. h k (omega arith)))
    ∙ (added_word p (ops n) (at n) (x + joint_amounts p ops at n) (h n (omega arith)) ∙ ap (λ y. y % 2 ^ 64) (omega arith))

pub added_cell : (ops : ℕ → List Op) (n : ℕ) (at : ℕ → ℕ) (p : ℕ) (c : List ℕ) → p < length c → slice_index c p < 2 ^ 64 → ((k : ℕ) → k < n → is_stored p (ops k) ≡ false)
    → slice_index (joint_cells ops at n c) p ≡ (slice_index c p + joint_amounts p ops at n) % 2 ^ 64
added_cell ops n at p c inside small h =
    let whole : slice_index c p ≡ slice_index c p % 2 ^ 64 = omega arith in
    joint_cell ops at n p c inside ∙ (ap (joint_word p ops at n) whole ∙ added_joint p ops at n (slice_index c p) h)

-- ---- races

-- an operation that a list has, also where it is told by its index
clear_at : (os : List Op) (u o : Op) (k : ℕ) → ClearAll os u → k < length os → slice_index_or os k o ≡ o → Clear o u
clear_at [] u o k h lt e = absurd (omega arith)
clear_at (x ∷ os) u o zero h lt e = let f : x ≡ o = e in subst (λ y. Clear y u) f h.0
clear_at (x ∷ os) u o (suc k) h lt e = clear_at os u o k h.1 (omega arith) e

clear_both : (os us : List Op) (o u : Op) (k l : ℕ) → Apart os us → k < length os → slice_index_or os k o ≡ o → l < length us → slice_index_or us l u ≡ u → Clear o u
clear_both os [] o u k l h a e b f = absurd (omega arith)
clear_both os (x ∷ us) o u k zero h a e b f = let g : x ≡ u = f in subst (λ y. Clear o y) g (clear_at os x o k h.0 a e)
clear_both os (x ∷ us) o u k (suc l) h a e b f = clear_both os us o u k l h.1 a e (omega arith) f

-- what the first operations have, the list has
in_take : (os : List Op) (i k : ℕ) (o : Op) → k < length (take i os) → slice_index_or (take i os) k o ≡ o → (k < length os) × (slice_index_or os k o ≡ o)
in_take os zero k o a e = absurd (omega arith)
in_take [] (suc i) k o a e = absurd (omega arith)
in_take (x ∷ os) (suc i) zero o a e = (omega arith, e)
in_take (x ∷ os) (suc i) (suc k) o a e = let t = in_take os i k o (omega arith) e in (let l = t.0 in omega arith, t.1)

pub no_races : (its : ℕ → List Op) (n : ℕ) (made : ℕ → ℕ) → IsDisciplined its n → (q k l : ℕ) → Races (λ i. take (made i) (its i)) n q k l → ⊥
no_races its n made d q k l r =
    let a = in_take (its k) (made k) r.first_made.0 r.first r.first_made.1 r.first_made.2 in
    let b = in_take (its l) (made l) r.second_made.0 r.second r.second_made.1 r.second_made.2 in
    let ne : k ≢ l = (let o = r.order in omega arith) in
    let below : k < n = (let o = r.order in let w = r.below in omega arith) in
    clear_both (its k) (its l) r.first r.second r.first_made.0 r.second_made.0 (d k l below r.below ne) a.0 a.1 b.0 b.1 r.meet (r.first_cell ∙ sym r.second_cell)

same_three : (p i j q k l : ℕ) → ComesFirst p i j q k l → ComesFirst q k l p i j → (p ≡ q) × (i ≡ k) × (j ≡ l)
same_three p i j q k l a b = (
  ⊎_elim (λ x. ⊎_elim (λ y. absurd (omega arith)) (λ y. sym y.0) b) (λ x. x.0) a,
  ⊎_elim (λ x. absurd (⊎_elim (λ y. omega arith) (λ y. let e = y.0 in omega arith) b))
      (λ x. ⊎_elim (λ u. absurd (⊎_elim (λ y. let e = x.0 in omega arith) (λ y. ⊎_elim (λ v. omega arith) (λ v. let e = v.0 in omega arith) y.1) b)) (λ u. u.0) x.1) a,
  ⊎_elim (λ x. absurd (⊎_elim (λ y. omega arith) (λ y. let e = y.0 in omega arith) b))
      (λ x. ⊎_elim (λ u. absurd (⊎_elim (λ y. let e = x.0 in omega arith) (λ y. ⊎_elim (λ v. omega arith) (λ v. let e = v.0 in omega arith) y.1) b))
      (λ u. ⊎_elim (λ y. absurd (let e = x.0 in omega arith)) (λ y. ⊎_elim (λ v. absurd (let e = u.0 in omega arith)) (λ v. let s = u.1 in let t = v.1 in omega arith) y.1) b) x.1) a,
)

pub one_race : (made : ℕ → List Op) (n : ℕ) (r s : Option (ℕ × ℕ × ℕ)) → IsToldRace made n r → IsToldRace made n s → r ≡ s
one_race made n None None a b = refl
one_race made n None (Some s) a b = absurd (a s.0 s.1 s.2 b.0)
one_race made n (Some r) None a b = absurd (b r.0 r.1 r.2 a.0)
one_race made n (Some r) (Some s) a b =
    let e = same_three r.0 r.1 r.2 s.0 s.1 s.2 (a.1 s.0 s.1 s.2 b.0) (b.1 r.0 r.1 r.2 a.0) in
    λ i. Some (e.0 i, e.1 i, e.2 i)
