-- Contents of cells past a store, and the names of places.
use Rattle.std.specs.Prelude.{◌≡◌, ◌≢◌, ℕ, zero, suc, ◌<◌, ℤ, Bool, true, false, cond, bytes_eq, List, [], ◌∷◌, length, Option, Some, None, option_map, slice_set, refl}
use Rattle.std.proofs.Common.{ap, sym, ◌∙◌, subst, arith}
use Rattle.std.proofs.lemmas.Bool.{and_parts}
use Rattle.std.proofs.lemmas.Slice.Eq.{bytes_eq-Decides}
use Rattle.store_core.specs.Keys.{same_key, same_subscripts, first_at}
use Rattle.meaning.specs.declared.value.Value.{Value}
use Rattle.meaning.specs.Sites.{Key, Cells}
use Rattle.meaning.specs.Expressions.{content}

pub content_set_same : (c : Cells) (p : ℕ) (v : Option Value) → p < length c → content (slice_set c p v) p ≡ v
content_set_same [] p v h = absurd (omega arith)
content_set_same (w ∷ c) zero v h = refl
content_set_same (w ∷ c) (suc p) v h = content_set_same c p v (omega arith)

pub content_set_other : (c : Cells) (p q : ℕ) (v : Option Value) → q ≢ p → content (slice_set c p v) q ≡ content c q
content_set_other [] p q v h = refl
content_set_other (w ∷ c) zero zero v h = absurd (h refl)
content_set_other (w ∷ c) zero (suc q) v h = refl
content_set_other (w ∷ c) (suc p) zero v h = refl
content_set_other (w ∷ c) (suc p) (suc q) v h = content_set_other c p q v (λ e. h (ap suc e))

-- the key at a place that was found for a name is one of the name
abbrev NamedAt : List Key → List ℕ → ℕ → Type 0
NamedAt [] x p = ⊥
NamedAt (k ∷ keys) x zero = x ≡ k.0
NamedAt (k ∷ keys) x (suc p) = NamedAt keys x p

found_named : (keys : List Key) (x : List ℕ) (ss : List ℤ) (p : ℕ) → first_at (same_key (x, ss)) keys ≡ Some p → NamedAt keys x p
found_named [] x ss p e = cc
found_named (k ∷ keys) x ss p e = by_test (same_key (x, ss) k) refl (λ q f. found_named keys x ss q f) e
  where
    later : (o : Option ℕ) → ((q : ℕ) → o ≡ Some q → NamedAt keys x q) → option_map suc o ≡ Some p → NamedAt (k ∷ keys) x p
    later None f g = cc
    later (Some q) f g = let i : suc q ≡ p = cc in subst (λ (n : ℕ). NamedAt (k ∷ keys) x n) i (f q refl)

    by_test : (b : Bool) → same_key (x, ss) k ≡ b → ((q : ℕ) → first_at (same_key (x, ss)) keys ≡ Some q → NamedAt keys x q) → cond b (Some 0) (option_map suc (first_at (same_key (x, ss)) keys)) ≡ Some p → NamedAt (k ∷ keys) x p
    by_test true t f g = let i : 0 ≡ p = cc in subst (λ (n : ℕ). NamedAt (k ∷ keys) x n) i ((bytes_eq-Decides x k.0).0 (and_parts (bytes_eq x k.0) (same_subscripts ss k.1) t).0)
    by_test false t f g = later (first_at (same_key (x, ss)) keys) f g

named_once : (keys : List Key) (x y : List ℕ) (p : ℕ) → NamedAt keys x p → NamedAt keys y p → x ≡ y
named_once [] x y p h g = absurd h
named_once (k ∷ keys) x y zero h g = h ∙ sym g
named_once (k ∷ keys) x y (suc p) h g = named_once keys x y p h g

-- one place is of one name
pub place_named : (keys : List Key) (x y : List ℕ) (ss ts : List ℤ) (p q : ℕ) → p ≡ q → first_at (same_key (x, ss)) keys ≡ Some p → first_at (same_key (y, ts)) keys ≡ Some q → x ≡ y
place_named keys x y ss ts p q i e f = named_once keys x y q (subst (λ (n : ℕ). NamedAt keys x n) i (found_named keys x ss p e)) (found_named keys y ts q f)
