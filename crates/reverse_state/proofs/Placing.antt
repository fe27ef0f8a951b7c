-- Evaluations over places are those of the reverse machine, with what is around beside them.
use Rattle.std.specs.Prelude.{◌≡◌, ℕ, ℤ, Bool, false, not, ◌&&◌, ◌||◌, List, [], ◌∷◌, Option, Some, None, Result, Ok, Err, neg_ℤ, refl}
use Rattle.std.specs.Int.{int_pow}
use Rattle.std.proofs.Common.{ap, sym, subst, ◌∙◌}
use Rattle.ring_core.specs.declared.index.IndexTrap.{IndexTrap}
use Rattle.ring_core.specs.Index.{exact_index, index_rem}
use Rattle.ring_core.specs.Ring.{ring_neg, ring_pow, signed_at}
use Rattle.store_core.specs.Keys.{place_in_slot}
use Rattle.meaning.specs.Values.{compares}
use Rattle.resolved.specs.SlotTables.{Names}
use Rattle.sweep_trees.specs.Split.{SpotTree, scalar, element, elements, IndexTree, number, index_get, index_minus, index_binary, index_power, index_larger, index_smaller, index_remainder, index_absolute, IndexTrees, no_indices, index, RingTree, word, ring_get, widened, ring_minus, ring_binary, ring_power, ring_larger, ring_smaller, ring_absolute, TestTree, index_test, ring_test, not_test, and_test, or_test}
use Rattle.sweep_evaluation.specs.Machine.{Ran, ran, ◌to◌, Does, exactly, index_found, larger_index, smaller_index, absolute_index, narrow, widen, ring_found, larger_word, smaller_word, absolute_word, load_at, spot_slot, is_accessed, spot_place, index_value, index_values, ring_value, test_value}
use Rattle.reverse_sweep.specs.Reversing.{Reversing, reversing, told}
use Rattle.reverse_state.specs.Holding.{Held, Home, home_of, local_of, Stands, Gives, Placed, placed, told_placed, PlacedStands}

-- where places stand beside what they are of: their number, and the loop's entry
pub record Around : Type 0 where
  pub shared : ℕ
  pub home : Option Home

abbrev up : {A : Type 0} → Around → Ran Reversing A → Ran Placed A
up c r = record { out = r.out; state = placed c.shared c.home r.state }

-- the same run, with what is around it and without
abbrev SameAt : {A : Type 0} → Around → (Placed → Ran Placed A) → (Reversing → Ran Reversing A) → Type 0
SameAt c M m = (k : Reversing) → M (placed c.shared c.home k) ≡ up c (m k)

same_ran : {A : Type 0} (c : Around) (a : A) → SameAt c (ran a) (ran a)
same_ran c a k = refl

same_to : {A B : Type 0} (c : Around) (M : Placed → Ran Placed A) (m : Reversing → Ran Reversing A) (F : A → Placed → Ran Placed B) (f : A → Reversing → Ran Reversing B)
    → SameAt c M m → ((a : A) → SameAt c (F a) (f a)) → SameAt c (λ s. M s to F) (λ k. m k to f)
same_to c M m F f e h k = ap (λ (r : Ran Placed _). F r.out r.state) (e k) ∙ h (m k).out (m k).state

same_two : {A B C : Type 0} (c : Around) (M : Placed → Ran Placed A) (m : Reversing → Ran Reversing A) (N : Placed → Ran Placed B) (n : Reversing → Ran Reversing B) (F : A → B → Placed → Ran Placed C) (f : A → B → Reversing → Ran Reversing C)
    → SameAt c M m → SameAt c N n → ((a : A) (b : B) → SameAt c (F a b) (f a b)) → SameAt c (λ s. M s to (λ a t. N t to F a)) (λ k. m k to (λ a t. n t to f a))
same_two c M m N n F f e g h = same_to c M m (λ a t. N t to F a) (λ a t. n t to f a) e (λ a. same_to c N n (F a) (f a) g (h a))

same_exactly : (c : Around) (r : Result ℤ IndexTrap) → SameAt c (exactly told_placed r) (exactly (told c.shared) r)
same_exactly c (Ok z) k = refl
same_exactly c (Err x) k = refl

same_load : (c : Around) (slot : ℕ) (accessed : Bool) (o : Option ℕ) → SameAt c (load_at told_placed slot accessed o) (load_at (told c.shared) slot accessed o)
same_load c slot accessed None k = refl
same_load c slot accessed (Some p) k = refl

mutual
  same_spot : (c : Around) (names : Names) (p : SpotTree) → SameAt c (spot_place told_placed names p) (spot_place (told c.shared) names p)
  same_spot c names (scalar slot place accessed) = same_ran c (Some place)
  same_spot c names (element slot accessed i) =
      same_to c (index_value told_placed names i) (index_value (told c.shared) names i) (λ z. ran (place_in_slot names.0 slot (z ∷ []))) (λ z. ran (place_in_slot names.0 slot (z ∷ []))) (same_index c names i) (λ z. same_ran c (place_in_slot names.0 slot (z ∷ [])))
  same_spot c names (elements slot accessed is) =
      same_to c (index_values told_placed names is) (index_values (told c.shared) names is) (λ zs. ran (place_in_slot names.0 slot zs)) (λ zs. ran (place_in_slot names.0 slot zs)) (same_indices c names is) (λ zs. same_ran c (place_in_slot names.0 slot zs))

  same_index : (c : Around) (names : Names) (i : IndexTree) → SameAt c (index_value told_placed names i) (index_value (told c.shared) names i)
  same_index c names (number z) = same_ran c z
  same_index c names (index_get p) =
      same_to c (spot_place told_placed names p) (spot_place (told c.shared) names p) (λ place t. load_at told_placed (spot_slot p) (is_accessed p) place t to (λ x. ran (narrow x)))
      (λ place t. load_at (told c.shared) (spot_slot p) (is_accessed p) place t to (λ x. ran (narrow x))) (same_spot c names p)
      (λ place. same_to c (load_at told_placed (spot_slot p) (is_accessed p) place) (load_at (told c.shared) (spot_slot p) (is_accessed p) place) (λ x. ran (narrow x)) (λ x. ran (narrow x)) (same_load c (spot_slot p) (is_accessed p) place) (λ x. same_ran c (narrow x)))
  same_index c names (index_minus a) =
      same_to c (index_value told_placed names a) (index_value (told c.shared) names a) (λ x. exactly told_placed (exact_index (neg_ℤ x))) (λ x. exactly (told c.shared) (exact_index (neg_ℤ x))) (same_index c names a) (λ x. same_exactly c (exact_index (neg_ℤ x)))
  same_index c names (index_binary o a b) =
      same_two c (index_value told_placed names a) (index_value (told c.shared) names a) (index_value told_placed names b) (index_value (told c.shared) names b) (λ x y. exactly told_placed (index_found o x y)) (λ x y. exactly (told c.shared) (index_found o x y))
      (same_index c names a) (same_index c names b) (λ x y. same_exactly c (index_found o x y))
  same_index c names (index_power a n) =
      same_to c (index_value told_placed names a) (index_value (told c.shared) names a) (λ x. exactly told_placed (exact_index (int_pow x n))) (λ x. exactly (told c.shared) (exact_index (int_pow x n))) (same_index c names a) (λ x. same_exactly c (exact_index (int_pow x n)))
  same_index c names (index_larger a b) =
      same_two c (index_value told_placed names a) (index_value (told c.shared) names a) (index_value told_placed names b) (index_value (told c.shared) names b) (λ x y. ran (larger_index x y)) (λ x y. ran (larger_index x y))
      (same_index c names a) (same_index c names b) (λ x y. same_ran c (larger_index x y))
  same_index c names (index_smaller a b) =
      same_two c (index_value told_placed names a) (index_value (told c.shared) names a) (index_value told_placed names b) (index_value (told c.shared) names b) (λ x y. ran (smaller_index x y)) (λ x y. ran (smaller_index x y))
      (same_index c names a) (same_index c names b) (λ x y. same_ran c (smaller_index x y))
  same_index c names (index_remainder a b) =
      same_two c (index_value told_placed names a) (index_value (told c.shared) names a) (index_value told_placed names b) (index_value (told c.shared) names b) (λ x y. exactly told_placed (index_rem x y)) (λ x y. exactly (told c.shared) (index_rem x y))
      (same_index c names a) (same_index c names b) (λ x y. same_exactly c (index_rem x y))
  same_index c names (index_absolute a) =
      same_to c (index_value told_placed names a) (index_value (told c.shared) names a) (λ x. exactly told_placed (absolute_index x)) (λ x. exactly (told c.shared) (absolute_index x)) (same_index c names a) (λ x. same_exactly c (absolute_index x))

  same_indices : (c : Around) (names : Names) (is : IndexTrees) → SameAt c (index_values told_placed names is) (index_values (told c.shared) names is)
  same_indices c names no_indices = same_ran {A = List ℤ} c []
  same_indices c names (index i is) =
      same_two c (index_value told_placed names i) (index_value (told c.shared) names i) (index_values told_placed names is) (index_values (told c.shared) names is) (λ z zs. ran (z ∷ zs)) (λ z zs. ran (z ∷ zs))
      (same_index c names i) (same_indices c names is) (λ z zs. same_ran c (z ∷ zs))

same_ring : (c : Around) (names : Names) (a : RingTree) → SameAt c (ring_value told_placed names a) (ring_value (told c.shared) names a)
same_ring c names (word x) = same_ran c x
same_ring c names (ring_get p) =
    same_to c (spot_place told_placed names p) (spot_place (told c.shared) names p) (load_at told_placed (spot_slot p) (is_accessed p)) (load_at (told c.shared) (spot_slot p) (is_accessed p)) (same_spot c names p) (same_load c (spot_slot p) (is_accessed p))
same_ring c names (widened i) = same_to c (index_value told_placed names i) (index_value (told c.shared) names i) (λ z. ran (widen z)) (λ z. ran (widen z)) (same_index c names i) (λ z. same_ran c (widen z))
same_ring c names (ring_minus a) = same_to c (ring_value told_placed names a) (ring_value (told c.shared) names a) (λ x. ran (ring_neg x)) (λ x. ran (ring_neg x)) (same_ring c names a) (λ x. same_ran c (ring_neg x))
same_ring c names (ring_binary o a b) =
    same_two c (ring_value told_placed names a) (ring_value (told c.shared) names a) (ring_value told_placed names b) (ring_value (told c.shared) names b) (λ x y. ran (ring_found o x y)) (λ x y. ran (ring_found o x y)) (same_ring c names a) (same_ring c names b) (λ x y. same_ran c (ring_found o x y))
same_ring c names (ring_power a n) = same_to c (ring_value told_placed names a) (ring_value (told c.shared) names a) (λ x. ran (ring_pow x n)) (λ x. ran (ring_pow x n)) (same_ring c names a) (λ x. same_ran c (ring_pow x n))
same_ring c names (ring_larger a b) =
    same_two c (ring_value told_placed names a) (ring_value (told c.shared) names a) (ring_value told_placed names b) (ring_value (told c.shared) names b) (λ x y. ran (larger_word names.2 x y)) (λ x y. ran (larger_word names.2 x y)) (same_ring c names a) (same_ring c names b) (λ x y. same_ran c (larger_word names.2 x y))
same_ring c names (ring_smaller a b) =
    same_two c (ring_value told_placed names a) (ring_value (told c.shared) names a) (ring_value told_placed names b) (ring_value (told c.shared) names b) (λ x y. ran (smaller_word names.2 x y)) (λ x y. ran (smaller_word names.2 x y)) (same_ring c names a) (same_ring c names b) (λ x y. same_ran c (smaller_word names.2 x y))
same_ring c names (ring_absolute a) = same_to c (ring_value told_placed names a) (ring_value (told c.shared) names a) (λ x. ran (absolute_word names.2 x)) (λ x. ran (absolute_word names.2 x)) (same_ring c names a) (λ x. same_ran c (absolute_word names.2 x))

same_test : (c : Around) (names : Names) (a : TestTree) → SameAt c (test_value told_placed names a) (test_value (told c.shared) names a)
same_test c names (index_test o a b) =
    same_two c (index_value told_placed names a) (index_value (told c.shared) names a) (index_value told_placed names b) (index_value (told c.shared) names b) (λ x y. ran (compares o x y)) (λ x y. ran (compares o x y)) (same_index c names a) (same_index c names b) (λ x y. same_ran c (compares o x y))
same_test c names (ring_test o a b) =
    same_two c (ring_value told_placed names a) (ring_value (told c.shared) names a) (ring_value told_placed names b) (ring_value (told c.shared) names b) (λ x y. ran (compares o (signed_at names.2 x) (signed_at names.2 y))) (λ x y. ran (compares o (signed_at names.2 x) (signed_at names.2 y)))
    (same_ring c names a) (same_ring c names b) (λ x y. same_ran c (compares o (signed_at names.2 x) (signed_at names.2 y)))
same_test c names (not_test a) = same_to c (test_value told_placed names a) (test_value (told c.shared) names a) (λ p. ran (not p)) (λ p. ran (not p)) (same_test c names a) (λ p. same_ran c (not p))
same_test c names (and_test a b) =
    same_two c (test_value told_placed names a) (test_value (told c.shared) names a) (test_value told_placed names b) (test_value (told c.shared) names b) (λ p q. ran (p && q)) (λ p q. ran (p && q)) (same_test c names a) (same_test c names b) (λ p q. same_ran c (p && q))
same_test c names (or_test a b) =
    same_two c (test_value told_placed names a) (test_value (told c.shared) names a) (test_value told_placed names b) (test_value (told c.shared) names b) (λ p q. ran (p || q)) (λ p q. ran (p || q)) (same_test c names a) (same_test c names b) (λ p q. same_ran c (p || q))

-- what is so over places is so of the machine
gives : {A : Type 0} (u v : Held) (a : A) (M : Placed → Ran Placed A) (m : Reversing → Ran Reversing A) → SameAt (record { shared = u.shared; home = home_of u }) M m
    → Does PlacedStands (λ h. h.lost) u v a M → Gives u v a m
gives u v a M m e d =
    let c : Around = record { shared = u.shared; home = home_of u } in
    let s : Reversing = reversing (local_of u) (record { cells = u.cells; sums = u.sums; ops = []; adds = u.adds }) in
    let at : (t : Reversing) → Stands u t → PlacedStands u (placed u.shared (home_of u) t) = λ t h. record { run = h; shared = refl; home = refl } in
    let ends : v.lost ≡ false → (t : Reversing) → Stands u t → (a ≡ (m t).out) × PlacedStands v (placed u.shared (home_of u) (m t).state) = λ l t h.
    let r = d.runs l (placed u.shared (home_of u) t) (at t h) in
    (r.0 ∙ ap (λ (x : Ran Placed _). x.out) (e t), subst (λ (x : Ran Placed _). PlacedStands v x.state) (e t) r.1)
    in
    record {
      before = d.before;
      keeps = λ l. let r = (ends l s (record { local = refl; stage = record { cells = refl; sums = refl; adds = refl } })).1 in record { shared = sym r.shared; home = sym r.home };
      runs = λ l t h. let r = ends l t h in (r.0, r.1.run);
    }

pub gives_place : (u v : Held) (a : Option ℕ) (names : Names) (p : SpotTree) → Does PlacedStands (λ h. h.lost) u v a (spot_place told_placed names p) → Gives u v a (spot_place (told u.shared) names p)
gives_place u v a names p d = gives u v a (spot_place told_placed names p) (spot_place (told u.shared) names p) (same_spot (record { shared = u.shared; home = home_of u }) names p) d

pub gives_ring : (u v : Held) (a : ℕ) (names : Names) (t : RingTree) → Does PlacedStands (λ h. h.lost) u v a (ring_value told_placed names t) → Gives u v a (ring_value (told u.shared) names t)
gives_ring u v a names t d = gives u v a (ring_value told_placed names t) (ring_value (told u.shared) names t) (same_ring (record { shared = u.shared; home = home_of u }) names t) d

pub gives_test : (u v : Held) (a : Bool) (names : Names) (t : TestTree) → Does PlacedStands (λ h. h.lost) u v a (test_value told_placed names t) → Gives u v a (test_value (told u.shared) names t)
gives_test u v a names t d = gives u v a (test_value told_placed names t) (test_value (told u.shared) names t) (same_test (record { shared = u.shared; home = home_of u }) names t) d
