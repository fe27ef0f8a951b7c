-- One place is of one list of subscripts.
use Rattle.std.proofs.Common.{◌≡◌, ℕ, zero, suc, Bool, true, false, ℤ, List, [], ◌∷◌, refl, sym, ◌∙◌, subst, Option, Some, None}
use Rattle.std.specs.Prelude.{cond, option_map, bytes_eq}
use Rattle.std.specs.Ordering.{int_eq}
use Rattle.std.proofs.lemmas.Bool.{and_parts}
use Rattle.std.proofs.lemmas.Bool.Decides.{Decides-int_eq}
use Rattle.store_core.specs.Keys.{same_key, same_subscripts, first_at}
use Rattle.meaning.specs.Sites.{Key}

subscripts_are : (ss ts : List ℤ) → same_subscripts ss ts ≡ true → ss ≡ ts
subscripts_are [] [] e = refl
subscripts_are [] (t ∷ ts) e = cc
subscripts_are (s ∷ ss) [] e = cc
subscripts_are (s ∷ ss) (t ∷ ts) e =
    let p = and_parts (int_eq s t) (same_subscripts ss ts) e in
    let q : s ≡ t = (Decides-int_eq s t).0 p.0 in
    let r : ss ≡ ts = subscripts_are ss ts p.1 in
    cc

abbrev At : List Key → List ℤ → ℕ → Type 0
At [] ss p = ⊥
At (k ∷ keys) ss zero = ss ≡ k.1
At (k ∷ keys) ss (suc p) = At keys ss p

found_at : (keys : List Key) (x : List ℕ) (ss : List ℤ) (p : ℕ) → first_at (same_key (x, ss)) keys ≡ Some p → At keys ss p
found_at [] x ss p e = cc
found_at (k ∷ keys) x ss p e = by_test (same_key (x, ss) k) refl (λ q f. found_at keys x ss q f) e
  where
    later : (o : Option ℕ) → ((q : ℕ) → o ≡ Some q → At keys ss q) → option_map suc o ≡ Some p → At (k ∷ keys) ss p
    later None f g = cc
    later (Some q) f g = let i : suc q ≡ p = cc in subst (λ (n : ℕ). At (k ∷ keys) ss n) i (f q refl)

    by_test : (b : Bool) → same_key (x, ss) k ≡ b → ((q : ℕ) → first_at (same_key (x, ss)) keys ≡ Some q → At keys ss q) → cond b (Some 0) (option_map suc (first_at (same_key (x, ss)) keys)) ≡ Some p → At (k ∷ keys) ss p
    by_test true t f g = let i : 0 ≡ p = cc in subst (λ (n : ℕ). At (k ∷ keys) ss n) i (subscripts_are ss k.1 (and_parts (bytes_eq x k.0) (same_subscripts ss k.1) t).1)
    by_test false t f g = later (first_at (same_key (x, ss)) keys) f g

at_once : (keys : List Key) (ss ts : List ℤ) (p : ℕ) → At keys ss p → At keys ts p → ss ≡ ts
at_once [] ss ts p h g = absurd h
at_once (k ∷ keys) ss ts zero h g = h ∙ sym g
at_once (k ∷ keys) ss ts (suc p) h g = at_once keys ss ts p h g

pub subscripts_at : (keys : List Key) (x y : List ℕ) (ss ts : List ℤ) (p : ℕ) → first_at (same_key (x, ss)) keys ≡ Some p → first_at (same_key (y, ts)) keys ≡ Some p → ss ≡ ts
subscripts_at keys x y ss ts p e f = at_once keys ss ts p (found_at keys x ss p e) (found_at keys y ts p f)
