-- Sets of names as lists.
use Rattle.std.proofs.Common.{◌≡◌, ℕ, Bool, true, false, ◌||◌, List, [], ◌∷◌, map, refl, sym, ap, ◌∙◌, bytes_eq}
use Rattle.std.specs.List.{list_any}
use Rattle.std.specs.Ordering.{is_eq, nat_cmp, match_ordering}
use Rattle.std.specs.declared.cmp.Ordering.{Ordering}
use Rattle.std.specs.declared.cmp.Ordering.TheVariants.{Less, Equal, Greater}
use Rattle.std.specs.Cmp.Lexicographic.{slice_cmp}
use Rattle.std.specs.BTreeSet.{insert_key}
use Rattle.std.specs.BTreeMap.{is_at}
use Rattle.std.proofs.lemmas.Slice.Eq.{bytes_eq-Decides}
use Rattle.std.proofs.lemmas.Map.Text.{is_eq-slice_cmp}

module _ {K : Type 0} (bytes : K → List ℕ) where
  -- a look-up in the tree
  pub any_at : (x : List ℕ) (ks : List K) → list_any (is_at (λ k. slice_cmp nat_cmp x (bytes k))) ks ≡ list_any (bytes_eq x) (map bytes ks)
  any_at x [] = refl
  any_at x (k ∷ ks) = ap (λ b. b || list_any (is_at (λ k. slice_cmp nat_cmp x (bytes k))) ks) (is_eq-slice_cmp x (bytes k)) ∙ ap (λ b. bytes_eq x (bytes k) || b) (any_at x ks)

  swapped : (a b c : Bool) → (a || (b || c)) ≡ (b || (a || c))
  swapped true true c = refl
  swapped true false c = refl
  swapped false b c = refl

  doubled : (a c : Bool) → (a || c) ≡ (a || (a || c))
  doubled true c = refl
  doubled false c = refl

  same_test : (x : List ℕ) (k j : K) → is_eq (slice_cmp nat_cmp (bytes k) (bytes j)) ≡ true → bytes_eq x (bytes k) ≡ bytes_eq x (bytes j)
  same_test x k j e = ap (bytes_eq x) ((bytes_eq-Decides (bytes k) (bytes j)).0 (sym (is_eq-slice_cmp (bytes k) (bytes j)) ∙ e))

  -- and an insertion
  pub any_insert : (x : List ℕ) (k : K) (ks : List K) →
      list_any (bytes_eq x) (map bytes (insert_key (λ a b. slice_cmp nat_cmp (bytes a) (bytes b)) ks k)) ≡ (bytes_eq x (bytes k) || list_any (bytes_eq x) (map bytes ks))
  any_insert x k [] = refl
  any_insert x k (j ∷ ks) = by (slice_cmp nat_cmp (bytes k) (bytes j)) refl (any_insert x k ks)
    where
      by : (o : Ordering) → slice_cmp nat_cmp (bytes k) (bytes j) ≡ o →
          list_any (bytes_eq x) (map bytes (insert_key (λ a b. slice_cmp nat_cmp (bytes a) (bytes b)) ks k)) ≡ (bytes_eq x (bytes k) || list_any (bytes_eq x) (map bytes ks)) →
          list_any (bytes_eq x) (map bytes (match_ordering o (k ∷ j ∷ ks) (j ∷ ks) (j ∷ insert_key (λ a b. slice_cmp nat_cmp (bytes a) (bytes b)) ks k)))
          ≡ (bytes_eq x (bytes k) || (bytes_eq x (bytes j) || list_any (bytes_eq x) (map bytes ks)))
      by Less e rest = refl
      by Equal e rest =
          doubled (bytes_eq x (bytes j)) (list_any (bytes_eq x) (map bytes ks))
          ∙ ap (λ b. b || (bytes_eq x (bytes j) || list_any (bytes_eq x) (map bytes ks))) (sym (same_test x k j (ap is_eq e)))
      by Greater e rest = ap (λ b. bytes_eq x (bytes j) || b) rest ∙ swapped (bytes_eq x (bytes j)) (bytes_eq x (bytes k)) (list_any (bytes_eq x) (map bytes ks))
