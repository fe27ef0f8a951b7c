-- Where the scene stands beside what is kept, an evaluation does the same.
use Rattle.std.specs.Prelude.{◌≡◌, ℕ, ℤ, Bool, true, not, ◌&&◌, ◌||◌, List, [], ◌∷◌, Option, Some, None, Result, Ok, Err, neg_ℤ, refl}
use Rattle.std.specs.Int.{int_pow}
use Rattle.std.proofs.Common.{ap, sym, subst, ◌∙◌}
use Rattle.ring_core.specs.declared.index.IndexTrap.{IndexTrap}
use Rattle.ring_core.specs.Index.{exact_index, index_rem}
use Rattle.ring_core.specs.Ring.{ring_neg, ring_pow, signed_at}
use Rattle.store_core.specs.Keys.{place_in_slot}
use Rattle.meaning.specs.declared.value.Cause.{Cause}
use Rattle.meaning.specs.Values.{compares}
use Rattle.meaning.specs.Logs.{Traced}
use Rattle.first_stops.specs.Kept.{Kept}
use Rattle.resolved.specs.SlotTables.{Names}
use Rattle.sweep_trees.specs.Split.{SpotTree, scalar, element, elements, IndexTree, number, index_get, index_minus, index_binary, index_power, index_larger, index_smaller, index_remainder, index_absolute, IndexTrees, no_indices, index, RingTree, word, ring_get, widened, ring_minus, ring_binary, ring_power, ring_larger, ring_smaller, ring_absolute, TestTree, index_test, ring_test, not_test, and_test, or_test}
use Rattle.sweep_evaluation.specs.Machine.{Ran, ran, ◌to◌, exactly, index_found, larger_index, smaller_index, absolute_index, narrow, widen, ring_found, larger_word, smaller_word, absolute_word, load_at, spot_slot, is_accessed, spot_place, spot_word, index_value, index_values, ring_value, test_value}
use Rattle.sweep_law.specs.Telling.{Scene, ForwardTape, Standing, standing, told, EvaluationsAreTold}
use Rattle.sweep_law.specs.Telling.{Comes as StandingComes}
use Rattle.sweep_law.proofs.Combining.{told_by, Comes}
use Rattle.sweep_law.proofs.Evaluated.{evaluated_at}

abbrev up : {A : Type 0} → Scene → ForwardTape → Ran Kept A → Ran Standing A
up c t r = record { out = r.out; state = standing c t r.state }

-- the same run, with the scene beside it and without
abbrev SameAt : {A : Type 0} → Scene → (Standing → Ran Standing A) → (Kept → Ran Kept A) → Type 0
SameAt c M m = (t : ForwardTape) (k : Kept) → M (standing c t k) ≡ up c t (m k)

same_ran : {A : Type 0} (c : Scene) (a : A) → SameAt c (ran a) (ran a)
same_ran c a t k = refl

same_to : {A B : Type 0} (c : Scene) (M : Standing → Ran Standing A) (m : Kept → Ran Kept A) (F : A → Standing → Ran Standing B) (f : A → Kept → Ran Kept B)
    → SameAt c M m → ((a : A) → SameAt c (F a) (f a)) → SameAt c (λ s. M s to F) (λ k. m k to f)
same_to c M m F f e h t k = ap (λ (r : Ran Standing _). F r.out r.state) (e t k) ∙ h (m k).out t (m k).state

same_two : {A B C : Type 0} (c : Scene) (M : Standing → Ran Standing A) (m : Kept → Ran Kept A) (N : Standing → Ran Standing B) (n : Kept → Ran Kept B) (F : A → B → Standing → Ran Standing C) (f : A → B → Kept → Ran Kept C)
    → SameAt c M m → SameAt c N n → ((a : A) (b : B) → SameAt c (F a b) (f a b)) → SameAt c (λ s. M s to (λ a t. N t to F a)) (λ k. m k to (λ a t. n t to f a))
same_two c M m N n F f e g h = same_to c M m (λ a t. N t to F a) (λ a t. n t to f a) e (λ a. same_to c N n (F a) (f a) g (h a))

same_exactly : (c : Scene) (r : Result ℤ IndexTrap) → SameAt c (exactly told r) (exactly (told_by c) r)
same_exactly c (Ok z) t k = refl
same_exactly c (Err x) t k = refl

same_load : (c : Scene) (slot : ℕ) (accessed : Bool) (o : Option ℕ) → SameAt c (load_at told slot accessed o) (load_at (told_by c) slot accessed o)
same_load c slot accessed None t k = refl
same_load c slot accessed (Some p) t k = refl

mutual
  same_spot : (c : Scene) (names : Names) (p : SpotTree) → SameAt c (spot_place told names p) (spot_place (told_by c) names p)
  same_spot c names (scalar slot place accessed) = same_ran c (Some place)
  same_spot c names (element slot accessed i) =
      same_to c (index_value told names i) (index_value (told_by c) names i) (λ z. ran (place_in_slot names.0 slot (z ∷ []))) (λ z. ran (place_in_slot names.0 slot (z ∷ []))) (same_index c names i) (λ z. same_ran c (place_in_slot names.0 slot (z ∷ [])))
  same_spot c names (elements slot accessed is) =
      same_to c (index_values told names is) (index_values (told_by c) names is) (λ zs. ran (place_in_slot names.0 slot zs)) (λ zs. ran (place_in_slot names.0 slot zs)) (same_indices c names is) (λ zs. same_ran c (place_in_slot names.0 slot zs))

  same_index : (c : Scene) (names : Names) (i : IndexTree) → SameAt c (index_value told names i) (index_value (told_by c) names i)
  same_index c names (number z) = same_ran c z
  same_index c names (index_get p) =
      same_to c (spot_place told names p) (spot_place (told_by c) names p) (λ place t. load_at told (spot_slot p) (is_accessed p) place t to (λ x. ran (narrow x)))
      (λ place t. load_at (told_by c) (spot_slot p) (is_accessed p) place t to (λ x. ran (narrow x))) (same_spot c names p)
      (λ place. same_to c (load_at told (spot_slot p) (is_accessed p) place) (load_at (told_by c) (spot_slot p) (is_accessed p) place) (λ x. ran (narrow x)) (λ x. ran (narrow x)) (same_load c (spot_slot p) (is_accessed p) place) (λ x. same_ran c (narrow x)))
  same_index c names (index_minus a) =
      same_to c (index_value told names a) (index_value (told_by c) names a) (λ x. exactly told (exact_index (neg_ℤ x))) (λ x. exactly (told_by c) (exact_index (neg_ℤ x))) (same_index c names a) (λ x. same_exactly c (exact_index (neg_ℤ x)))
  same_index c names (index_binary o a b) =
      same_two c (index_value told names a) (index_value (told_by c) names a) (index_value told names b) (index_value (told_by c) names b) (λ x y. exactly told (index_found o x y)) (λ x y. exactly (told_by c) (index_found o x y))
      (same_index c names a) (same_index c names b) (λ x y. same_exactly c (index_found o x y))
  same_index c names (index_power a n) =
      same_to c (index_value told names a) (index_value (told_by c) names a) (λ x. exactly told (exact_index (int_pow x n))) (λ x. exactly (told_by c) (exact_index (int_pow x n))) (same_index c names a) (λ x. same_exactly c (exact_index (int_pow x n)))
  same_index c names (index_larger a b) =
      same_two c (index_value told names a) (index_value (told_by c) names a) (index_value told names b) (index_value (told_by c) names b) (λ x y. ran (larger_index x y)) (λ x y. ran (larger_index x y))
      (same_index c names a) (same_index c names b) (λ x y. same_ran c (larger_index x y))
  same_index c names (index_smaller a b) =
      same_two c (index_value told names a) (index_value (told_by c) names a) (index_value told names b) (index_value (told_by c) names b) (λ x y. ran (smaller_index x y)) (λ x y. ran (smaller_index x y))
      (same_index c names a) (same_index c names b) (λ x y. same_ran c (smaller_index x y))
  same_index c names (index_remainder a b) =
      same_two c (index_value told names a) (index_value (told_by c) names a) (index_value told names b) (index_value (told_by c) names b) (λ x y. exactly told (index_rem x y)) (λ x y. exactly (told_by c) (index_rem x y))
      (same_index c names a) (same_index c names b) (λ x y. same_exactly c (index_rem x y))
  same_index c names (index_absolute a) =
      same_to c (index_value told names a) (index_value (told_by c) names a) (λ x. exactly told (absolute_index x)) (λ x. exactly (told_by c) (absolute_index x)) (same_index c names a) (λ x. same_exactly c (absolute_index x))

  same_indices : (c : Scene) (names : Names) (is : IndexTrees) → SameAt c (index_values told names is) (index_values (told_by c) names is)
  same_indices c names no_indices = same_ran {A = List ℤ} c []
  same_indices c names (index i is) =
      same_two c (index_value told names i) (index_value (told_by c) names i) (index_values told names is) (index_values (told_by c) names is) (λ z zs. ran (z ∷ zs)) (λ z zs. ran (z ∷ zs))
      (same_index c names i) (same_indices c names is) (λ z zs. same_ran c (z ∷ zs))

same_ring : (c : Scene) (names : Names) (a : RingTree) → SameAt c (ring_value told names a) (ring_value (told_by c) names a)
same_ring c names (word x) = same_ran c x
same_ring c names (ring_get p) =
    same_to c (spot_place told names p) (spot_place (told_by c) names p) (load_at told (spot_slot p) (is_accessed p)) (load_at (told_by c) (spot_slot p) (is_accessed p)) (same_spot c names p) (same_load c (spot_slot p) (is_accessed p))
same_ring c names (widened i) = same_to c (index_value told names i) (index_value (told_by c) names i) (λ z. ran (widen z)) (λ z. ran (widen z)) (same_index c names i) (λ z. same_ran c (widen z))
same_ring c names (ring_minus a) = same_to c (ring_value told names a) (ring_value (told_by c) names a) (λ x. ran (ring_neg x)) (λ x. ran (ring_neg x)) (same_ring c names a) (λ x. same_ran c (ring_neg x))
same_ring c names (ring_binary o a b) =
    same_two c (ring_value told names a) (ring_value (told_by c) names a) (ring_value told names b) (ring_value (told_by c) names b) (λ x y. ran (ring_found o x y)) (λ x y. ran (ring_found o x y)) (same_ring c names a) (same_ring c names b) (λ x y. same_ran c (ring_found o x y))
same_ring c names (ring_power a n) = same_to c (ring_value told names a) (ring_value (told_by c) names a) (λ x. ran (ring_pow x n)) (λ x. ran (ring_pow x n)) (same_ring c names a) (λ x. same_ran c (ring_pow x n))
same_ring c names (ring_larger a b) =
    same_two c (ring_value told names a) (ring_value (told_by c) names a) (ring_value told names b) (ring_value (told_by c) names b) (λ x y. ran (larger_word names.2 x y)) (λ x y. ran (larger_word names.2 x y)) (same_ring c names a) (same_ring c names b) (λ x y. same_ran c (larger_word names.2 x y))
same_ring c names (ring_smaller a b) =
    same_two c (ring_value told names a) (ring_value (told_by c) names a) (ring_value told names b) (ring_value (told_by c) names b) (λ x y. ran (smaller_word names.2 x y)) (λ x y. ran (smaller_word names.2 x y)) (same_ring c names a) (same_ring c names b) (λ x y. same_ran c (smaller_word names.2 x y))
same_ring c names (ring_absolute a) = same_to c (ring_value told names a) (ring_value (told_by c) names a) (λ x. ran (absolute_word names.2 x)) (λ x. ran (absolute_word names.2 x)) (same_ring c names a) (λ x. same_ran c (absolute_word names.2 x))

same_test : (c : Scene) (names : Names) (a : TestTree) → SameAt c (test_value told names a) (test_value (told_by c) names a)
same_test c names (index_test o a b) =
    same_two c (index_value told names a) (index_value (told_by c) names a) (index_value told names b) (index_value (told_by c) names b) (λ x y. ran (compares o x y)) (λ x y. ran (compares o x y)) (same_index c names a) (same_index c names b) (λ x y. same_ran c (compares o x y))
same_test c names (ring_test o a b) =
    same_two c (ring_value told names a) (ring_value (told_by c) names a) (ring_value told names b) (ring_value (told_by c) names b) (λ x y. ran (compares o (signed_at names.2 x) (signed_at names.2 y))) (λ x y. ran (compares o (signed_at names.2 x) (signed_at names.2 y)))
    (same_ring c names a) (same_ring c names b) (λ x y. same_ran c (compares o (signed_at names.2 x) (signed_at names.2 y)))
same_test c names (not_test a) = same_to c (test_value told names a) (test_value (told_by c) names a) (λ p. ran (not p)) (λ p. ran (not p)) (same_test c names a) (λ p. same_ran c (not p))
same_test c names (and_test a b) =
    same_two c (test_value told names a) (test_value (told_by c) names a) (test_value told names b) (test_value (told_by c) names b) (λ p q. ran (p && q)) (λ p q. ran (p && q)) (same_test c names a) (same_test c names b) (λ p q. same_ran c (p && q))
same_test c names (or_test a b) =
    same_two c (test_value told names a) (test_value (told_by c) names a) (test_value told names b) (test_value (told_by c) names b) (λ p q. ran (p || q)) (λ p q. ran (p || q)) (same_test c names a) (same_test c names b) (λ p q. same_ran c (p || q))

-- what holds without the scene holds with it
raised : {X A : Type 0} (c : Scene) (tape : ForwardTape) (k : Kept) (t : Traced Cause X) (R : X → A → Type 0) (M : Standing → Ran Standing A) (m : Kept → Ran Kept A) → SameAt c M m → Comes c k t R (m k) → StandingComes c tape k t R (M (standing c tape k))
raised c tape k t R M m e d = rw (e tape k) record { state = ap (standing c tape) d.told; cells = d.cells; value = d.value }

pub evaluated : EvaluationsAreTold
evaluated = λ c site flags s tape k f.
    let d = evaluated_at c site flags s k f in
    record {
      of_spot = λ of_kind p h. raised c tape k _ _ (spot_place told c.names p) (spot_place (told_by c) c.names p) (same_spot c c.names p) (d.of_spot of_kind p h);
      of_index = λ i h. raised c tape k _ _ (index_value told c.names i) (index_value (told_by c) c.names i) (same_index c c.names i) (d.of_index i h);
      of_ring = λ a h. raised c tape k _ _ (ring_value told c.names a) (ring_value (told_by c) c.names a) (same_ring c c.names a) (d.of_ring a h);
      of_test = λ a h. raised c tape k _ _ (test_value told c.names a) (test_value (told_by c) c.names a) (same_test c c.names a) (d.of_test a h);
    }
