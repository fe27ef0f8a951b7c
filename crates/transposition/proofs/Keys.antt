-- The name of a place that was found for a name is that name.
use Rattle.std.proofs.Common.{◌≡◌, ℕ, suc, ◌<◌, length, Bool, true, false, cond, List, [], ◌∷◌, Option, Some, None, refl, sym, subst, arith, ℤ}
use Rattle.std.specs.Prelude.{option_map, bytes_eq, slice_get}
use Rattle.std.proofs.lemmas.Slice.Eq.{bytes_eq-Decides}
use Rattle.std.proofs.lemmas.Bool.{and_parts}
use Rattle.store_core.specs.Keys.{same_key, same_subscripts, first_at}
use Rattle.meaning.specs.Sites.{Key}
use Rattle.transposition.specs.Worlds.{name_at}

pub record Stands (keys : List Key) (x : List ℕ) (p : ℕ) : Type 0 where
  pub named : name_at keys p ≡ x
  pub there : p < length keys

later : (k : Key) (keys : List Key) (x : List ℕ) (p : ℕ) (o : Option ℕ) → ((q : ℕ) → o ≡ Some q → Stands keys x q) → option_map suc o ≡ Some p → Stands (k ∷ keys) x p
later k keys x p None f e = cc
later k keys x p (Some q) f e =
    let h : suc q ≡ p = cc in
    let g = f q refl in
    subst (λ (n : ℕ). Stands (k ∷ keys) x n) h (record { named = g.named; there = let i = g.there in omega arith })

stands_by : (k : Key) (keys : List Key) (x : List ℕ) (ss : List ℤ) (p : ℕ) (b : Bool) → same_key (x, ss) k ≡ b → ((q : ℕ) → first_at (same_key (x, ss)) keys ≡ Some q → Stands keys x q)
    → cond b (Some 0) (option_map suc (first_at (same_key (x, ss)) keys)) ≡ Some p → Stands (k ∷ keys) x p
stands_by k keys x ss p true t f e =
    let h : 0 ≡ p = cc in
    subst (λ (n : ℕ). Stands (k ∷ keys) x n) h (record { named = sym ((bytes_eq-Decides x k.0).0 (and_parts (bytes_eq x k.0) (same_subscripts ss k.1) t).0); there = omega arith })
stands_by k keys x ss p false t f e = later k keys x p (first_at (same_key (x, ss)) keys) f e

pub stands : (keys : List Key) (x : List ℕ) (ss : List ℤ) (p : ℕ) → first_at (same_key (x, ss)) keys ≡ Some p → Stands keys x p
stands [] x ss p e = cc
stands (k ∷ keys) x ss p e = stands_by k keys x ss p (same_key (x, ss) k) refl (λ q f. stands keys x ss q f) e

pub name_later : (k : Key) (keys : List Key) (p : ℕ) → name_at (k ∷ keys) (suc p) ≡ name_at keys p
name_later k keys p = by_key (slice_get keys p) refl
  where
    by_key : (o : Option Key) → slice_get keys p ≡ o → name_at (k ∷ keys) (suc p) ≡ name_at keys p
    by_key None e = rw e refl
    by_key (Some x) e = rw e refl
