-- By induction on split trees: what evaluations keep, and the values that their numbers stand for.
use Rattle.std.specs.Prelude.{◌≡◌, ℕ, zero, suc, ◌<◌, ◌^◌, ◌%◌, ℤ, pos, negsuc, Bool, true, false, not, ◌&&◌, ◌||◌, if◌then◌else◌, nat_lt, nat_eq, List, [], ◌∷◌, length, Option, Some, None, is_some, Result, Ok, Err, int_lt, int_le, neg_ℤ, refl}
use Rattle.std.specs.Int.{w32, w64, cast_signed, cast_unsigned, int_pow}
use Rattle.std.proofs.Common.{ap, sym, subst, ◌∙◌, arith}
use Rattle.std.proofs.lemmas.Bool.{and_parts}
use Rattle.std.proofs.lemmas.Int.{to_z-of_z}
use mir.Val.{SFits}
use Rattle.std.proofs.lemmas.Bool.Decides.{nat_tests}
use Rattle.ring_core.specs.Index.{IsIndex, exact_index, index_rem}
use Rattle.ring_core.specs.declared.ring.Width.{Width}
use Rattle.ring_core.specs.Ring.{ring_neg, ring_pow, signed_at}
use Rattle.fl_ast.specs.declared.kind.Kind.{Kind}
use Rattle.fl_ast.specs.declared.kind.Kind.TheVariants as kind
use Rattle.fl_ast.specs.declared.kind.BinOp.{BinOp}
use Rattle.fl_ast.specs.declared.kind.BinOp.TheVariants as op
use Rattle.fl_ast.specs.declared.kind.Fun.{Fun}
use Rattle.fl_ast.specs.declared.kind.Fun.TheVariants.{Max, Min, Abs, Mod}
use Rattle.fl_ast.specs.Tree.{Expression, call, Expressions, no_expressions, expression}
use Rattle.fl_types.specs.Kinds.{is_index_kind}
use Rattle.fl_types.specs.Sharing.{is_ring_kind}
use Rattle.store_core.specs.declared.layout.Shape.{Shape}
use Rattle.store_core.specs.Keys.{place_in_slot, first_at, same_key}
use Rattle.meaning.specs.declared.value.Value.{Value}
use Rattle.meaning.specs.declared.value.Value.TheVariants.{Index, Ring}
use Rattle.meaning.specs.declared.value.Cause.{Cause}
use Rattle.meaning.specs.declared.value.Dual.{Dual}
use Rattle.meaning.specs.Values.{dual_add, dual_sub, dual_mul, dual_neg, dual_pow, as_dual, relates, ring_result, of_index, whole_numbers, Found, index_result, binary_result, negation_result, power_result, larger_result, smaller_result, absolute_result, call_result, compares}
use Rattle.meaning.specs.Logs.{silence, Traced, pure, lift, ◌>>=◌}
use Rattle.meaning.specs.Sites.{Cells, Site, place_of, kind_of, word_of}
use Rattle.meaning.specs.Expressions.{content, read, value_of, values_of, holds}
use Rattle.meaning.specs.Fitting.{HasKind, Fits}
use Rattle.meaning.proofs.Powers.{value_of_pow}
use Rattle.meaning.proofs.Placing.{HoldsKind, fits_at}
use Rattle.first_stops.specs.Kept.{Kept}
use Rattle.resolved.specs.SlotTables.{Names, kind_at}
use Rattle.resolved.specs.ResolvedExprs.{slot_name}
use Rattle.dual_evaluation.specs.Answers.{location_of}
use Rattle.dual_evaluation.proofs.Located.{place_by_slot}
use Rattle.fl_ast.specs.declared.kind.RelOp.{RelOp}
use Rattle.sweep_trees.specs.declared.code.RingOp.{RingOp}
use Rattle.sweep_trees.specs.declared.code.RingOp.TheVariants.{Add, Sub, Mul}
use Rattle.sweep_trees.specs.Split.{SpotTree, scalar, element, elements, IndexTree, number, index_get, index_minus, index_binary, index_power, index_larger, index_smaller, index_remainder, index_absolute, IndexTrees, no_indices, index, RingTree, word, ring_get, widened, ring_minus, ring_binary, ring_power, ring_larger, ring_smaller, ring_absolute, TestTree, index_test, ring_test, not_test, and_test, or_test}
use Rattle.sweep_trees.specs.Standing.{one, two, op_back, is_accessed_at, same_flag, is_place, is_slot, is_number, spot_back, index_back, indices_back, ring_back, test_back, is_spot_fit, is_index_fit, are_indices_fit, is_widened, is_ring_fit, is_test_fit}
use Rattle.sweep_evaluation.specs.Machine.{Ran, ran, ◌to◌, Told, exactly, index_found, larger_index, smaller_index, absolute_index, narrow, widen, ring_found, larger_word, smaller_word, absolute_word, load_at, spot_slot, is_accessed, spot_place, spot_word, index_value, index_values, ring_value, test_value}
use Rattle.sweep_law.specs.Telling.{Scene, IsSite, IsNumber, IsRing, IsWord, IsSame}
use Rattle.sweep_law.proofs.Combining.{told_by, Comes, Still, still_ran, still_to, still_two, still_exactly, still_load, comes_ran, comes_exactly, IsRead, comes_load, comes_by}

-- ---- after a stop nothing changes

mutual
  still_spot : (c : Scene) (names : Names) (p : SpotTree) → Still (spot_place (told_by c) names p)
  still_spot c names (scalar slot place accessed) = still_ran (Some place)
  still_spot c names (element slot accessed i) = still_to (index_value (told_by c) names i) (λ z. ran (place_in_slot names.0 slot (z ∷ []))) (still_index c names i) (λ z. still_ran (place_in_slot names.0 slot (z ∷ [])))
  still_spot c names (elements slot accessed is) = still_to (index_values (told_by c) names is) (λ zs. ran (place_in_slot names.0 slot zs)) (still_indices c names is) (λ zs. still_ran (place_in_slot names.0 slot zs))

  still_index : (c : Scene) (names : Names) (i : IndexTree) → Still (index_value (told_by c) names i)
  still_index c names (number z) = still_ran z
  still_index c names (index_get p) =
      still_to (spot_place (told_by c) names p) (λ place t. load_at (told_by c) (spot_slot p) (is_accessed p) place t to (λ x. ran (narrow x))) (still_spot c names p)
      (λ place. still_to (load_at (told_by c) (spot_slot p) (is_accessed p) place) (λ x. ran (narrow x)) (still_load c (spot_slot p) (is_accessed p) place) (λ x. still_ran (narrow x)))
  still_index c names (index_minus a) = still_to (index_value (told_by c) names a) (λ x. exactly (told_by c) (exact_index (neg_ℤ x))) (still_index c names a) (λ x. still_exactly c (exact_index (neg_ℤ x)))
  still_index c names (index_binary o a b) =
      still_two (index_value (told_by c) names a) (index_value (told_by c) names b) (λ x y. exactly (told_by c) (index_found o x y)) (still_index c names a) (still_index c names b) (λ x y. still_exactly c (index_found o x y))
  still_index c names (index_power a n) = still_to (index_value (told_by c) names a) (λ x. exactly (told_by c) (exact_index (int_pow x n))) (still_index c names a) (λ x. still_exactly c (exact_index (int_pow x n)))
  still_index c names (index_larger a b) =
      still_two (index_value (told_by c) names a) (index_value (told_by c) names b) (λ x y. ran (larger_index x y)) (still_index c names a) (still_index c names b) (λ x y. still_ran (larger_index x y))
  still_index c names (index_smaller a b) =
      still_two (index_value (told_by c) names a) (index_value (told_by c) names b) (λ x y. ran (smaller_index x y)) (still_index c names a) (still_index c names b) (λ x y. still_ran (smaller_index x y))
  still_index c names (index_remainder a b) =
      still_two (index_value (told_by c) names a) (index_value (told_by c) names b) (λ x y. exactly (told_by c) (index_rem x y)) (still_index c names a) (still_index c names b) (λ x y. still_exactly c (index_rem x y))
  still_index c names (index_absolute a) = still_to (index_value (told_by c) names a) (λ x. exactly (told_by c) (absolute_index x)) (still_index c names a) (λ x. still_exactly c (absolute_index x))

  still_indices : (c : Scene) (names : Names) (is : IndexTrees) → Still (index_values (told_by c) names is)
  still_indices c names no_indices = still_ran {A = List ℤ} []
  still_indices c names (index i is) =
      still_two (index_value (told_by c) names i) (index_values (told_by c) names is) (λ z zs. ran (z ∷ zs)) (still_index c names i) (still_indices c names is) (λ z zs. still_ran (z ∷ zs))

still_ring : (c : Scene) (names : Names) (a : RingTree) → Still (ring_value (told_by c) names a)
still_ring c names (word x) = still_ran x
still_ring c names (ring_get p) =
    still_to (spot_place (told_by c) names p) (load_at (told_by c) (spot_slot p) (is_accessed p)) (still_spot c names p) (still_load c (spot_slot p) (is_accessed p))
still_ring c names (widened i) = still_to (index_value (told_by c) names i) (λ z. ran (widen z)) (still_index c names i) (λ z. still_ran (widen z))
still_ring c names (ring_minus a) = still_to (ring_value (told_by c) names a) (λ x. ran (ring_neg x)) (still_ring c names a) (λ x. still_ran (ring_neg x))
still_ring c names (ring_binary o a b) =
    still_two (ring_value (told_by c) names a) (ring_value (told_by c) names b) (λ x y. ran (ring_found o x y)) (still_ring c names a) (still_ring c names b) (λ x y. still_ran (ring_found o x y))
still_ring c names (ring_power a n) = still_to (ring_value (told_by c) names a) (λ x. ran (ring_pow x n)) (still_ring c names a) (λ x. still_ran (ring_pow x n))
still_ring c names (ring_larger a b) =
    still_two (ring_value (told_by c) names a) (ring_value (told_by c) names b) (λ x y. ran (larger_word names.2 x y)) (still_ring c names a) (still_ring c names b) (λ x y. still_ran (larger_word names.2 x y))
still_ring c names (ring_smaller a b) =
    still_two (ring_value (told_by c) names a) (ring_value (told_by c) names b) (λ x y. ran (smaller_word names.2 x y)) (still_ring c names a) (still_ring c names b) (λ x y. still_ran (smaller_word names.2 x y))
still_ring c names (ring_absolute a) = still_to (ring_value (told_by c) names a) (λ x. ran (absolute_word names.2 x)) (still_ring c names a) (λ x. still_ran (absolute_word names.2 x))

still_test : (c : Scene) (names : Names) (a : TestTree) → Still (test_value (told_by c) names a)
still_test c names (index_test o a b) =
    still_two (index_value (told_by c) names a) (index_value (told_by c) names b) (λ x y. ran (compares o x y)) (still_index c names a) (still_index c names b) (λ x y. still_ran (compares o x y))
still_test c names (ring_test o a b) =
    still_two (ring_value (told_by c) names a) (ring_value (told_by c) names b) (λ x y. ran (compares o (signed_at names.2 x) (signed_at names.2 y))) (still_ring c names a) (still_ring c names b)
    (λ x y. still_ran (compares o (signed_at names.2 x) (signed_at names.2 y)))
still_test c names (not_test a) = still_to (test_value (told_by c) names a) (λ p. ran (not p)) (still_test c names a) (λ p. still_ran (not p))
still_test c names (and_test a b) =
    still_two (test_value (told_by c) names a) (test_value (told_by c) names b) (λ p q. ran (p && q)) (still_test c names a) (still_test c names b) (λ p q. still_ran (p && q))
still_test c names (or_test a b) =
    still_two (test_value (told_by c) names a) (test_value (told_by c) names b) (λ p q. ran (p || q)) (still_test c names a) (still_test c names b) (λ p q. still_ran (p || q))

-- ---- numbers

pub low_bits : (z : ℤ) → IsIndex z → cast_unsigned w64 z % 2 ^ 32 ≡ cast_unsigned w32 z
low_bits (pos n) e = let b : n < 2147483648 = grind (arith, nat_tests) in omega arith
low_bits (negsuc n) e = let b : n < 2147483648 = grind (arith, nat_tests) in omega arith

fits_half : (z : ℤ) → IsIndex z → SFits w32 z
fits_half (pos n) e = let b : n < 2 ^ 31 = grind (arith, nat_tests) in record { sfits = b }
fits_half (negsuc n) e = let b : n < 2 ^ 31 = grind (arith, nat_tests) in record { sfits = b }

pub narrow_widen : (z : ℤ) → IsIndex z → narrow (widen z) ≡ z
narrow_widen z h = ap (cast_signed w32) (low_bits z h) ∙ to_z-of_z w32 z (fits_half z h)

exact_number : (z : ℤ) → IsIndex z → exact_index z ≡ Ok z
unfolding exact_index
exact_number z h = rw h refl

-- ---- what is known of an occurrence

record IsAt (c : Scene) (site : Site) (of_kind : Kind → Bool) (slot : ℕ) (accessed : Bool) : Type 0 where
  below : slot < length c.names.0
  kinded : of_kind (kind_of site (slot_name c.names.0 slot)) ≡ true
  access : site.accessed (slot_name c.names.0 slot) ≡ (accessed && is_some c.around)

same_flags : (a b : Bool) → same_flag a b ≡ true → b ≡ a
same_flags true true h = refl
same_flags true false h = cc
same_flags false true h = cc
same_flags false false h = refl

slot_below : (a b : ℕ) → nat_lt a b ≡ true → a < b
slot_below a b h = grind (arith, nat_tests)

is_at : (c : Scene) (site : Site) (flags : List Bool) → IsSite site c.names flags (is_some c.around) → (of_kind : Kind → Bool) (slot : ℕ) (accessed : Bool) → is_slot c.names flags of_kind slot accessed ≡ true → IsAt c site of_kind slot accessed
is_at c site flags s of_kind slot accessed h =
    let p = and_parts (nat_lt slot (length c.names.0)) (of_kind (kind_at c.names.1 slot) && same_flag accessed (is_accessed_at flags slot)) h in
    let q = and_parts (of_kind (kind_at c.names.1 slot)) (same_flag accessed (is_accessed_at flags slot)) p.1 in
    let b = slot_below slot (length c.names.0) p.0 in
    record {
      below = b;
      kinded = ap of_kind (s.kinds slot b) ∙ q.0;
      access = s.accesses slot b ∙ ap (λ (f : Bool). f && is_some c.around) (same_flags accessed (is_accessed_at flags slot) q.1);
    }

place_found : (o : Option ℕ) (p : ℕ) → is_place o p ≡ true → o ≡ Some p
place_found None p h = cc
place_found (Some q) p h = let e : q ≡ p = grind (arith, nat_tests) in ap Some e

placed : (c : Scene) (site : Site) (flags : List Bool) → IsSite site c.names flags (is_some c.around) → (slot : ℕ) → slot < length c.names.0 → (zs : List ℤ)
    → place_in_slot c.names.0 slot zs ≡ place_of site (slot_name c.names.0 slot) zs
placed c site flags s slot b zs = place_by_slot c.names slot zs b ∙ ap (λ ks. first_at (same_key (slot_name c.names.0 slot, zs)) ks) (sym s.keys)

-- ---- values

abbrev AreNumbers : List Value → List ℤ → Type 0
AreNumbers vs zs = whole_numbers vs ≡ zs

comes_map : {X A B : Type 0} {c : Scene} {k : Kept} {t : Traced Cause X} {R : X → A → Type 0} (Q : X → B → Type 0) (h : A → B) (m : Ran Kept A) → Comes c k t R m → ((x : X) (a : A) → R x a → Q x (h a)) → Comes c k t Q (m to (λ a. ran (h a)))
comes_map Q h m d f = record { told = d.told; cells = d.cells; value = λ g. let v = d.value g in (v.0, (v.1.0, f v.0 m.out v.1.1)) }

-- a run over these cells, whatever was kept
abbrev ComesOver : {X A : Type 0} → Scene → Cells → Traced Cause X → (X → A → Type 0) → (Kept → Ran Kept A) → Type 0
ComesOver c cells t R m = (k : Kept) → k.cells ≡ cells → Comes c k t R (m k)

over_one : {X Y A B : Type 0} (c : Scene) (cells : Cells) (t : Traced Cause X) (f : X → Traced Cause Y) (R : X → A → Type 0) (Q : Y → B → Type 0) (m : Kept → Ran Kept A) (g : A → Kept → Ran Kept B)
    → ComesOver c cells t R m → ((a : A) → Still (g a)) → ((x : X) (a : A) → R x a → ComesOver c cells (f x) Q (g a)) → ComesOver c cells (t >>= f) Q (λ k. m k to g)
over_one c cells t f R Q m g d s h = λ k e. comes_by c k t.log t.out f R Q (m k) g (d k e) s (λ x r. h x (m k).out r (m k).state ((d k e).cells ∙ e))

over_two : {X Y Z A B C : Type 0} (c : Scene) (cells : Cells) (t : Traced Cause X) (u : Traced Cause Y) (f : X → Y → Traced Cause Z) (R : X → A → Type 0) (Q : Y → B → Type 0) (W : Z → C → Type 0)
    (m : Kept → Ran Kept A) (n : Kept → Ran Kept B) (g : A → B → Kept → Ran Kept C)
    → ComesOver c cells t R m → ComesOver c cells u Q n → Still n → ((a : A) (b : B) → Still (g a b))
    → ((x : X) (y : Y) (a : A) (b : B) → R x a → Q y b → ComesOver c cells (f x y) W (g a b))
    → ComesOver c cells (t >>= (λ x. u >>= f x)) W (λ k. m k to (λ a s. n s to g a))
over_two c cells t u f R Q W m n g d e sn sg h =
    over_one c cells t (λ x. u >>= f x) R W m (λ a s. n s to g a) d (λ a. still_to n (g a) sn (sg a))
    (λ x a r. over_one c cells u (f x) Q W n (g a) e (sg a) (λ y b q. h x y a b r q))

over_ran : {X A : Type 0} (c : Scene) (cells : Cells) (R : X → A → Type 0) (x : X) (a : A) → R x a → ComesOver c cells (pure {X = Cause} x) R (ran a)
over_ran c cells R x a h = λ k e. comes_ran c k R x a h

index_op : (o : BinOp) (x y : ℤ) → index_result o x y ≡ of_index (index_found o x y)
index_op op.Add x y = refl
index_op op.Sub x y = refl
index_op op.Mul x y = refl
index_op op.Div x y = refl

over_exactly : (c : Scene) (cells : Cells) (found : _) (r : _) → found ≡ of_index r → ComesOver c cells (lift found) IsNumber (exactly (told_by c) r)
over_exactly c cells found r q = λ k e. rw q (comes_exactly c k r)

absolute_found : (w : Width) (z : ℤ) → absolute_result w (Index z) ≡ of_index (absolute_index z)
absolute_found w z = by_sign (int_lt z (pos 0))
  where
    by_sign : (b : Bool) → (if b then negation_result (Index z) else Ok (Index z)) ≡ of_index (if b then exact_index (neg_ℤ z) else Ok z)
    by_sign true = refl
    by_sign false = refl

chosen : (b : Bool) (x y : ℤ) → (if b then Index x else Index y) ≡ Index (if b then x else y)
chosen true x y = refl
chosen false x y = refl

number_read : (kd : Kind) (v : Value) (w : ℕ) → is_index_kind kd ≡ true → IsRead kd v w → IsNumber v (narrow w)
number_read kind.Index (Index z) w i r = ap Index (sym (narrow_widen z r.1)) ∙ ap (λ x. Index (narrow x)) (sym r.0)
number_read kind.Index (Ring d) w i r = absurd r.1
number_read kind.Ring v w i r = cc

-- a value that is given without a stop
over_given : {A : Type 0} (c : Scene) (cells : Cells) (found : Found) (R : Value → A → Type 0) (v : Value) (a : A) → found ≡ Ok v → R v a → ComesOver c cells (lift found) R (ran a)
over_given c cells found R v a e h = λ k q. rw e (comes_ran c k R v a h)

-- ---- calls of intrinsic functions

over_argument : {A B : Type 0} (c : Scene) (site : Site) (cells : Cells) (a : Expression) (f : Fun) (R : Value → A → Type 0) (Q : Value → B → Type 0) (m : Kept → Ran Kept A) (g : A → Kept → Ran Kept B)
    → ComesOver c cells (value_of a site cells) R m → ((x : A) → Still (g x))
    → ((v : Value) (x : A) → R v x → ComesOver c cells (lift (call_result site.width f (v ∷ []))) Q (g x)) → ComesOver c cells (value_of (call f (one a)) site cells) Q (λ k. m k to g)
over_argument c site cells a f R Q m g d s h =
    over_one c cells (values_of (one a) site cells) (λ vs. lift (call_result site.width f vs)) (λ vs x. (v : Value) × ((vs ≡ v ∷ []) × R v x)) Q m g
    (over_one c cells (value_of a site cells) (λ v. values_of no_expressions site cells >>= (λ vs. pure (v ∷ vs))) R (λ vs x. (v : Value) × ((vs ≡ v ∷ []) × R v x)) m (λ x. ran x) d (λ x. still_ran x)
    (λ v x r k e. record { told = refl; cells = refl; value = λ g. (v ∷ [], (refl, (v, (refl, r)))) }))
    s (λ vs x r. rw r.1.0 (h r.0 x r.1.1))

over_arguments : {A B C : Type 0} (c : Scene) (site : Site) (cells : Cells) (a b : Expression) (f : Fun) (R : Value → A → Type 0) (S : Value → B → Type 0) (Q : Value → C → Type 0)
    (m : Kept → Ran Kept A) (n : Kept → Ran Kept B) (g : A → B → Kept → Ran Kept C)
    → ComesOver c cells (value_of a site cells) R m → ComesOver c cells (value_of b site cells) S n → Still n → ((x : A) (y : B) → Still (g x y))
    → ((v w : Value) (x : A) (y : B) → R v x → S w y → ComesOver c cells (lift (call_result site.width f (v ∷ w ∷ []))) Q (g x y))
    → ComesOver c cells (value_of (call f (two a b)) site cells) Q (λ k. m k to (λ x t. n t to g x))
over_arguments {A = A} {B = B} c site cells a b f R S Q m n g d e sn s h =
    over_one c cells (values_of (two a b) site cells) (λ vs. lift (call_result site.width f vs)) Both Q (λ k. m k to (λ x t. n t to (λ y. ran (x, y)))) (λ (p : A × B). g p.0 p.1)
    (over_one c cells (value_of a site cells) (λ v. values_of (one b) site cells >>= (λ vs. pure (v ∷ vs))) R Both m (λ x t. n t to (λ y. ran (x, y))) d (λ x. still_to {B = A × B} n (λ y. ran (x, y)) sn (λ y. still_ran {A = A × B} (x, y)))
    (λ v x r. over_one c cells (values_of (one b) site cells) (λ vs. pure (v ∷ vs)) (λ vs y. (w : Value) × ((vs ≡ w ∷ []) × S w y)) Both n (λ y. ran (x, y))
    (over_one c cells (value_of b site cells) (λ w. values_of no_expressions site cells >>= (λ vs. pure (w ∷ vs))) S (λ vs y. (w : Value) × ((vs ≡ w ∷ []) × S w y)) n (λ y. ran y) e (λ y. still_ran y)
    (λ w y q k i. record { told = refl; cells = refl; value = λ g. (w ∷ [], (refl, (w, (refl, q)))) }))
    (λ y. still_ran {A = A × B} (x, y)) (λ vs y q. over_ran c cells Both (v ∷ vs) (x, y) (v, q.0, ap (λ ws. v ∷ ws) q.1.0, r, q.1.1))))
    (λ p. s p.0 p.1) (λ vs p r. rw r.2 (h r.0 r.1 p.0 p.1 r.3 r.4))
  where
    Both : List Value → A × B → Type 0
    Both vs p = (v : Value) × (w : Value) × (vs ≡ v ∷ w ∷ []) × R v p.0 × S w p.1

-- ---- a tree over fitting cells

record Over (c : Scene) (site : Site) (flags : List Bool) (cells : Cells) : Type 0 where
  site_is : IsSite site c.names flags (is_some c.around)
  fits : Fits site cells

abbrev OverIndex : Scene → Site → Cells → IndexTree → Type 0
OverIndex c site cells i = ComesOver c cells (value_of (index_back c.names.0 i) site cells) IsNumber (index_value (told_by c) c.names i)

abbrev OverIndices : Scene → Site → Cells → IndexTrees → Type 0
OverIndices c site cells is = ComesOver c cells (values_of (indices_back c.names.0 is) site cells) AreNumbers (index_values (told_by c) c.names is)

-- what comes after the subscripts of an occurrence, by its place
abbrev OverSpot : Scene → Site → Cells → SpotTree → Type 1
OverSpot c site cells p =
    (Y B : Type 0) (f : List Value → Traced Cause Y) (Q : Y → B → Type 0) (g : Option ℕ → Kept → Ran Kept B) → ((o : Option ℕ) → Still (g o))
    → ((vs : List Value) → ComesOver c cells (f vs) Q (g (place_of site (spot_back c.names.0 p).name (whole_numbers vs))))
    → ComesOver c cells (values_of (spot_back c.names.0 p).subscripts site cells >>= f) Q (λ k. spot_place (told_by c) c.names p k to g)

over_one_index : (c : Scene) (site : Site) (cells : Cells) (i : IndexTree) → OverIndex c site cells i
    → ComesOver c cells (values_of (one (index_back c.names.0 i)) site cells) AreNumbers (λ k. index_value (told_by c) c.names i k to (λ z. ran (z ∷ [])))
over_one_index c site cells i d =
    over_one c cells (value_of (index_back c.names.0 i) site cells) (λ v. values_of no_expressions site cells >>= (λ vs. pure (v ∷ vs))) IsNumber AreNumbers (index_value (told_by c) c.names i) (λ z. ran (z ∷ [])) d (λ z. still_ran (z ∷ []))
    (λ v z r k e. record { told = refl; cells = refl; value = λ g. (v ∷ [], (refl, rw r refl)) })

over_scalar : (c : Scene) (site : Site) (flags : List Bool) (cells : Cells) → Over c site flags cells → (of_kind : Kind → Bool) (slot place : ℕ) (accessed : Bool)
    → is_spot_fit c.names flags of_kind (scalar slot place accessed) ≡ true → OverSpot c site cells (scalar slot place accessed)
over_scalar c site flags cells o of_kind slot place accessed h Y B f Q g s d =
    let p = and_parts (is_slot c.names flags of_kind slot accessed) (is_place (place_in_slot c.names.0 slot []) place) h in
    let b = is_at c site flags o.site_is of_kind slot accessed p.0 in
    let q : place_of site (slot_name c.names.0 slot) [] ≡ Some place = sym (placed c site flags o.site_is slot b.below []) ∙ place_found (place_in_slot c.names.0 slot []) place p.1 in
    λ k e. comes_by c k silence (Ok []) f (λ (vs : List Value) (zs : List ℤ). vs ≡ []) Q (ran {A = List ℤ} [] k) (λ zs. g (Some place)) (comes_ran c k (λ vs zs. vs ≡ []) [] [] refl) (λ zs. s (Some place))
    (λ vs r. subst (λ (x : Option ℕ). Comes c k (f vs) Q (g x k)) (ap (λ (ws : List Value). place_of site (slot_name c.names.0 slot) (whole_numbers ws)) r ∙ q) (d vs k e))

over_subscripts : (c : Scene) (site : Site) (flags : List Bool) (cells : Cells) → Over c site flags cells → (slot : ℕ) → slot < length c.names.0 → (ss : Expressions) (m : Kept → Ran Kept (List ℤ))
    → ComesOver c cells (values_of ss site cells) AreNumbers m
    → {Y B : Type 0} (f : List Value → Traced Cause Y) (Q : Y → B → Type 0) (g : Option ℕ → Kept → Ran Kept B) → ((o : Option ℕ) → Still (g o))
    → ((vs : List Value) → ComesOver c cells (f vs) Q (g (place_of site (slot_name c.names.0 slot) (whole_numbers vs))))
    → ComesOver c cells (values_of ss site cells >>= f) Q (λ k. m k to (λ zs. g (place_in_slot c.names.0 slot zs)))
over_subscripts c site flags cells o slot b ss m d f Q g s h =
    over_one c cells (values_of ss site cells) f AreNumbers Q m (λ zs. g (place_in_slot c.names.0 slot zs)) d (λ zs. s (place_in_slot c.names.0 slot zs))
    (λ vs zs r k e. subst (λ (x : Option ℕ). Comes c k (f vs) Q (g x k)) (ap (place_of site (slot_name c.names.0 slot)) r ∙ sym (placed c site flags o.site_is slot b zs)) (h vs k e))

-- a read of an occurrence, and a number from it
over_read : (c : Scene) (site : Site) (flags : List Bool) (cells : Cells) → Over c site flags cells → (of_kind : Kind → Bool) (slot : ℕ) (accessed : Bool) → IsAt c site of_kind slot accessed → (vs : List Value)
    → ComesOver c cells (read site cells (slot_name c.names.0 slot) vs) (IsRead (kind_of site (slot_name c.names.0 slot))) (load_at (told_by c) slot accessed (place_of site (slot_name c.names.0 slot) (whole_numbers vs)))
over_read c site flags cells o of_kind slot accessed b vs =
    λ k e. comes_load c k site cells (kind_of site (slot_name c.names.0 slot)) slot accessed (place_of site (slot_name c.names.0 slot) (whole_numbers vs)) e b.access
    (λ p q. fits_at site site.keys cells (slot_name c.names.0 slot) (whole_numbers vs) p o.fits q)

spot_at : (c : Scene) (site : Site) (flags : List Bool) → IsSite site c.names flags (is_some c.around) → (of_kind : Kind → Bool) (p : SpotTree) → is_spot_fit c.names flags of_kind p ≡ true → IsAt c site of_kind (spot_slot p) (is_accessed p)
spot_at c site flags s of_kind (scalar slot place accessed) h = is_at c site flags s of_kind slot accessed (and_parts (is_slot c.names flags of_kind slot accessed) (is_place (place_in_slot c.names.0 slot []) place) h).0
spot_at c site flags s of_kind (element slot accessed i) h = is_at c site flags s of_kind slot accessed (and_parts (is_slot c.names flags of_kind slot accessed) (is_index_fit c.names flags i) h).0
spot_at c site flags s of_kind (elements slot accessed is) h = is_at c site flags s of_kind slot accessed (and_parts (is_slot c.names flags of_kind slot accessed) (are_indices_fit c.names flags is) h).0

slot_named : (shapes : List Shape) (p : SpotTree) → (spot_back shapes p).name ≡ slot_name shapes (spot_slot p)
slot_named shapes (scalar slot place accessed) = refl
slot_named shapes (element slot accessed i) = refl
slot_named shapes (elements slot accessed is) = refl

-- a word read at an occurrence
over_word : (c : Scene) (site : Site) (flags : List Bool) (cells : Cells) → Over c site flags cells → (of_kind : Kind → Bool) (p : SpotTree) → is_spot_fit c.names flags of_kind p ≡ true → OverSpot c site cells p
    → ComesOver c cells (values_of (spot_back c.names.0 p).subscripts site cells >>= read site cells (spot_back c.names.0 p).name) (IsRead (kind_of site (spot_back c.names.0 p).name)) (spot_word (told_by c) c.names p)
over_word c site flags cells o of_kind p h d =
    d Value ℕ (read site cells (spot_back c.names.0 p).name) (IsRead (kind_of site (spot_back c.names.0 p).name)) (load_at (told_by c) (spot_slot p) (is_accessed p)) (still_load c (spot_slot p) (is_accessed p))
    (λ vs. rw (slot_named c.names.0 p) (over_read c site flags cells o of_kind (spot_slot p) (is_accessed p) (spot_at c site flags o.site_is of_kind p h) vs))

-- what is known of an occurrence's subscripts
abbrev SpotParts : Scene → Site → Cells → SpotTree → Type 0
SpotParts c site cells (scalar slot place accessed) = Unit {0}
SpotParts c site cells (element slot accessed i) = OverIndex c site cells i
SpotParts c site cells (elements slot accessed is) = OverIndices c site cells is

over_spot : (c : Scene) (site : Site) (flags : List Bool) (cells : Cells) → Over c site flags cells → (of_kind : Kind → Bool) (p : SpotTree) → is_spot_fit c.names flags of_kind p ≡ true → SpotParts c site cells p → OverSpot c site cells p
over_spot c site flags cells o of_kind (scalar slot place accessed) h w Y B f Q g s d = over_scalar c site flags cells o of_kind slot place accessed h Y B f Q g s d
over_spot c site flags cells o of_kind (element slot accessed i) h w Y B f Q g s d =
    let p = and_parts (is_slot c.names flags of_kind slot accessed) (is_index_fit c.names flags i) h in
    over_subscripts c site flags cells o slot (is_at c site flags o.site_is of_kind slot accessed p.0).below (one (index_back c.names.0 i)) (λ k. index_value (told_by c) c.names i k to (λ z. ran (z ∷ [])))
    (over_one_index c site cells i w) f Q g s d
over_spot c site flags cells o of_kind (elements slot accessed is) h w Y B f Q g s d =
    let p = and_parts (is_slot c.names flags of_kind slot accessed) (are_indices_fit c.names flags is) h in
    over_subscripts c site flags cells o slot (is_at c site flags o.site_is of_kind slot accessed p.0).below (indices_back c.names.0 is) (index_values (told_by c) c.names is) w f Q g s d

over_number : (c : Scene) (site : Site) (flags : List Bool) (cells : Cells) → Over c site flags cells → (p : SpotTree) → is_spot_fit c.names flags is_index_kind p ≡ true → SpotParts c site cells p → OverIndex c site cells (index_get p)
over_number c site flags cells o p h w =
    let d = over_word c site flags cells o is_index_kind p h (over_spot c site flags cells o is_index_kind p h w) in
    λ k e. comes_map IsNumber narrow (spot_word (told_by c) c.names p k) (d k e)
    (λ v x r. number_read (kind_of site (spot_back c.names.0 p).name) v x (ap (λ y. is_index_kind (kind_of site y)) (slot_named c.names.0 p) ∙ (spot_at c site flags o.site_is is_index_kind p h).kinded) r)

mutual
  over_parts : (c : Scene) (site : Site) (flags : List Bool) (cells : Cells) → Over c site flags cells → (of_kind : Kind → Bool) (p : SpotTree) → is_spot_fit c.names flags of_kind p ≡ true → SpotParts c site cells p
  over_parts c site flags cells o of_kind (scalar slot place accessed) h = tt
  over_parts c site flags cells o of_kind (element slot accessed i) h = over_index c site flags cells o i (and_parts (is_slot c.names flags of_kind slot accessed) (is_index_fit c.names flags i) h).1
  over_parts c site flags cells o of_kind (elements slot accessed is) h = over_indices c site flags cells o is (and_parts (is_slot c.names flags of_kind slot accessed) (are_indices_fit c.names flags is) h).1

  over_index : (c : Scene) (site : Site) (flags : List Bool) (cells : Cells) → Over c site flags cells → (i : IndexTree) → is_index_fit c.names flags i ≡ true → OverIndex c site cells i
  over_index c site flags cells o (number (pos n)) h = rw (exact_number (pos n) h) (over_ran c cells IsNumber (Index (pos n)) (pos n) refl)
  over_index c site flags cells o (number (negsuc n)) h = cc
  over_index c site flags cells o (index_get p) h = over_number c site flags cells o p h (over_parts c site flags cells o is_index_kind p h)
  over_index c site flags cells o (index_minus a) h =
      over_one c cells (value_of (index_back c.names.0 a) site cells) (λ v. lift (negation_result v)) IsNumber IsNumber (index_value (told_by c) c.names a) (λ x. exactly (told_by c) (exact_index (neg_ℤ x)))
      (over_index c site flags cells o a h) (λ x. still_exactly c (exact_index (neg_ℤ x))) (λ v x r. over_exactly c cells (negation_result v) (exact_index (neg_ℤ x)) (ap negation_result r))
  over_index c site flags cells o (index_binary p a b) h =
      let q = and_parts (is_index_fit c.names flags a) (is_index_fit c.names flags b) h in
      over_two c cells (value_of (index_back c.names.0 a) site cells) (value_of (index_back c.names.0 b) site cells) (λ v w. lift (binary_result p v w)) IsNumber IsNumber IsNumber
      (index_value (told_by c) c.names a) (index_value (told_by c) c.names b) (λ x y. exactly (told_by c) (index_found p x y)) (over_index c site flags cells o a q.0) (over_index c site flags cells o b q.1)
      (still_index c c.names b) (λ x y. still_exactly c (index_found p x y))
      (λ v w x y r s. over_exactly c cells (binary_result p v w) (index_found p x y) (rw (r, s) (index_op p x y)))
  over_index c site flags cells o (index_power a n) h =
      over_one c cells (value_of (index_back c.names.0 a) site cells) (λ v. lift (power_result v n)) IsNumber IsNumber (index_value (told_by c) c.names a) (λ x. exactly (told_by c) (exact_index (int_pow x n)))
      (over_index c site flags cells o a h) (λ x. still_exactly c (exact_index (int_pow x n))) (λ v x r. over_exactly c cells (power_result v n) (exact_index (int_pow x n)) (ap (λ u. power_result u n) r))
  over_index c site flags cells o (index_larger a b) h =
      let q = and_parts (is_index_fit c.names flags a) (is_index_fit c.names flags b) h in
      over_arguments c site cells (index_back c.names.0 a) (index_back c.names.0 b) Max IsNumber IsNumber IsNumber (index_value (told_by c) c.names a) (index_value (told_by c) c.names b) (λ x y. ran (larger_index x y))
      (over_index c site flags cells o a q.0) (over_index c site flags cells o b q.1) (still_index c c.names b) (λ x y. still_ran (larger_index x y))
      (λ v w x y r s. rw (r, s) (over_given c cells (larger_result site.width (Index x) (Index y)) IsNumber (Index (larger_index x y)) (larger_index x y) (ap Ok (chosen (int_le y x) x y)) refl))
  over_index c site flags cells o (index_smaller a b) h =
      let q = and_parts (is_index_fit c.names flags a) (is_index_fit c.names flags b) h in
      over_arguments c site cells (index_back c.names.0 a) (index_back c.names.0 b) Min IsNumber IsNumber IsNumber (index_value (told_by c) c.names a) (index_value (told_by c) c.names b) (λ x y. ran (smaller_index x y))
      (over_index c site flags cells o a q.0) (over_index c site flags cells o b q.1) (still_index c c.names b) (λ x y. still_ran (smaller_index x y))
      (λ v w x y r s. rw (r, s) (over_given c cells (smaller_result site.width (Index x) (Index y)) IsNumber (Index (smaller_index x y)) (smaller_index x y) (ap Ok (chosen (int_le x y) x y)) refl))
  over_index c site flags cells o (index_remainder a b) h =
      let q = and_parts (is_index_fit c.names flags a) (is_index_fit c.names flags b) h in
      over_arguments c site cells (index_back c.names.0 a) (index_back c.names.0 b) Mod IsNumber IsNumber IsNumber (index_value (told_by c) c.names a) (index_value (told_by c) c.names b) (λ x y. exactly (told_by c) (index_rem x y))
      (over_index c site flags cells o a q.0) (over_index c site flags cells o b q.1) (still_index c c.names b) (λ x y. still_exactly c (index_rem x y))
      (λ v w x y r s. over_exactly c cells (call_result site.width Mod (v ∷ w ∷ [])) (index_rem x y) (rw (r, s) refl))
  over_index c site flags cells o (index_absolute a) h =
      over_argument c site cells (index_back c.names.0 a) Abs IsNumber IsNumber (index_value (told_by c) c.names a) (λ x. exactly (told_by c) (absolute_index x))
      (over_index c site flags cells o a h) (λ x. still_exactly c (absolute_index x))
      (λ v x r. over_exactly c cells (call_result site.width Abs (v ∷ [])) (absolute_index x) (rw r (absolute_found site.width x)))

  over_indices : (c : Scene) (site : Site) (flags : List Bool) (cells : Cells) → Over c site flags cells → (is : IndexTrees) → are_indices_fit c.names flags is ≡ true → OverIndices c site cells is
  over_indices c site flags cells o no_indices h = over_ran c cells AreNumbers [] [] refl
  over_indices c site flags cells o (index i is) h =
      let q = and_parts (is_index_fit c.names flags i) (are_indices_fit c.names flags is) h in
      over_two c cells (value_of (index_back c.names.0 i) site cells) (values_of (indices_back c.names.0 is) site cells) (λ v vs. pure (v ∷ vs)) IsNumber AreNumbers AreNumbers
      (index_value (told_by c) c.names i) (index_values (told_by c) c.names is) (λ z zs. ran (z ∷ zs)) (over_index c site flags cells o i q.0) (over_indices c site flags cells o is q.1)
      (still_indices c c.names is) (λ z zs. still_ran (z ∷ zs)) (λ v vs z zs r s. over_ran c cells AreNumbers (v ∷ vs) (z ∷ zs) (rw (r, s) refl))

-- ---- values of the ring kind

word_read : (kd : Kind) (v : Value) (w : ℕ) → is_ring_kind kd ≡ true → IsRead kd v w → IsWord false v w
word_read kind.Ring (Ring d) w i r = (sym r.0, λ e. tt)
word_read kind.Ring (Index z) w i r = absurd r.1
word_read kind.Index v w i r = cc

widened_word : (v : Value) (z : ℤ) → IsNumber v z → IsWord true v (widen z)
widened_word v z r = (ap (λ (u : Value). (as_dual u).value) r, λ e. cc)

-- what an operation finds, and the word of it
abbrev Finds : Found → ℕ → Type 0
Finds found x = (v : Value) × ((found ≡ Ok v) × IsWord false v x)

over_found : (c : Scene) (cells : Cells) (found : Found) (x : ℕ) → Finds found x → ComesOver c cells (lift found) (IsWord false) (ran x)
over_found c cells found x f = over_given c cells found (IsWord false) f.0 x f.1.0 f.1.1

not_both : (a b : Bool) → not (a && b) ≡ true → (a ≡ true) → (b ≡ true) → ⊥
not_both true true h p q = cc
not_both true false h p q = cc
not_both false b h p q = cc

minus_found : (a : Bool) (v : Value) (x : ℕ) → a ≡ false → IsWord a v x → Finds (negation_result v) (ring_neg x)
minus_found a (Ring d) x e r = (Ring (dual_neg d), (refl, (ap ring_neg r.0, λ f. tt)))
minus_found a (Index z) x e r = absurd (r.1 e)

power_found : (a : Bool) (n : ℕ) (v : Value) (x : ℕ) → a ≡ false → IsWord a v x → Finds (power_result v n) (ring_pow x n)
power_found a n (Ring d) x e r = (Ring (dual_pow d n), (refl, (value_of_pow d n ∙ ap (λ y. ring_pow y n) r.0, λ f. tt)))
power_found a n (Index z) x e r = absurd (r.1 e)

sign_found : (b : Bool) (d : Dual) (x : ℕ) → d.value ≡ x → Finds (if b then negation_result (Ring d) else Ok (Ring d)) (if b then ring_neg x else x)
sign_found true d x e = (Ring (dual_neg d), (refl, (ap ring_neg e, λ f. tt)))
sign_found false d x e = (Ring d, (refl, (e, λ f. tt)))

absolute_found_word : (w : Width) (a : Bool) (v : Value) (x : ℕ) → a ≡ false → IsWord a v x → Finds (absolute_result w v) (absolute_word w x)
absolute_found_word w a (Ring d) x e r = rw (sym r.0) (sign_found (int_lt (signed_at w d.value) (pos 0)) d d.value refl)
absolute_found_word w a (Index z) x e r = absurd (r.1 e)

choice_found : (b : Bool) (d e : Dual) → Finds (Ok (if b then Ring d else Ring e)) (if b then d.value else e.value)
choice_found true d e = (Ring d, (refl, (refl, λ f. tt)))
choice_found false d e = (Ring e, (refl, (refl, λ f. tt)))

neither : (a b : Bool) → not (a || b) ≡ true → (a ≡ false) × (b ≡ false)
neither true b h = cc
neither false true h = cc
neither false false h = (refl, refl)

larger_found : (w : Width) (a b : Bool) (v u : Value) (x y : ℕ) → not (a || b) ≡ true → IsWord a v x → IsWord b u y → Finds (larger_result w v u) (larger_word w x y)
larger_found w a b (Ring d) (Ring e) x y h r s = rw (sym r.0, sym s.0) (choice_found (int_le (signed_at w e.value) (signed_at w d.value)) d e)
larger_found w a b (Index z) u x y h r s = absurd (r.1 (neither a b h).0)
larger_found w a b (Ring d) (Index z) x y h r s = absurd (s.1 (neither a b h).1)

smaller_found : (w : Width) (a b : Bool) (v u : Value) (x y : ℕ) → not (a || b) ≡ true → IsWord a v x → IsWord b u y → Finds (smaller_result w v u) (smaller_word w x y)
smaller_found w a b (Ring d) (Ring e) x y h r s = rw (sym r.0, sym s.0) (choice_found (int_le (signed_at w d.value) (signed_at w e.value)) d e)
smaller_found w a b (Index z) u x y h r s = absurd (r.1 (neither a b h).0)
smaller_found w a b (Ring d) (Index z) x y h r s = absurd (s.1 (neither a b h).1)

dual_found : (o : RingOp) (d e : Dual) (x y : ℕ) → d.value ≡ x → e.value ≡ y → Finds (ring_result (op_back o) d e) (ring_found o x y)
dual_found Add d e x y p q = (Ring (dual_add d e), (refl, (rw (p, q) refl, λ f. tt)))
dual_found Sub d e x y p q = (Ring (dual_sub d e), (refl, (rw (p, q) refl, λ f. tt)))
dual_found Mul d e x y p q = (Ring (dual_mul d e), (refl, (rw (p, q) refl, λ f. tt)))

-- of two operands one is of the ring kind
both_widened : (a b : Bool) → not (a && b) ≡ true → (a ≡ false → ⊥) → (b ≡ false → ⊥) → ⊥
both_widened true true h p q = cc
both_widened true false h p q = q refl
both_widened false b h p q = p refl

operation_found : (o : RingOp) (a b : Bool) (v u : Value) (x y : ℕ) → not (a && b) ≡ true → IsWord a v x → IsWord b u y → Finds (binary_result (op_back o) v u) (ring_found o x y)
operation_found o a b (Ring d) (Ring e) x y h r s = dual_found o d e x y r.0 s.0
operation_found o a b (Index z) (Ring e) x y h r s = dual_found o (as_dual (Index z)) e x y r.0 s.0
operation_found o a b (Ring d) (Index z) x y h r s = dual_found o d (as_dual (Index z)) x y r.0 s.0
operation_found o a b (Index z) (Index t) x y h r s = absurd (both_widened a b h r.1 s.1)

relation_found : (w : Width) (o : RelOp) (a b : Bool) (v u : Value) (x y : ℕ) → not (a && b) ≡ true → IsWord a v x → IsWord b u y → relates w o v u ≡ compares o (signed_at w x) (signed_at w y)
relation_found w o a b (Ring d) (Ring e) x y h r s = rw (r.0, s.0) refl
relation_found w o a b (Index z) (Ring e) x y h r s = rw (r.0, s.0) refl
relation_found w o a b (Ring d) (Index z) x y h r s = rw (r.0, s.0) refl
relation_found w o a b (Index z) (Index t) x y h r s = absurd (both_widened a b h r.1 s.1)

abbrev OverRing : Scene → Site → Cells → RingTree → Type 0
OverRing c site cells a = ComesOver c cells (value_of (ring_back c.names.0 a) site cells) (IsWord (is_widened a)) (ring_value (told_by c) c.names a)

not_true : (b : Bool) → not b ≡ true → b ≡ false
not_true true h = cc
not_true false h = refl

over_ring : (c : Scene) (site : Site) (flags : List Bool) (cells : Cells) → Over c site flags cells → (a : RingTree) → is_ring_fit c.names flags a ≡ true → OverRing c site cells a
over_ring c site flags cells o (word x) h = over_ran c cells (IsWord false) (Ring (record { value = x; tangent = 0 })) x (refl, λ e. tt)
over_ring c site flags cells o (ring_get p) h =
    let d = over_word c site flags cells o is_ring_kind p h (over_spot c site flags cells o is_ring_kind p h (over_parts c site flags cells o is_ring_kind p h)) in
    λ k e. comes_map (IsWord false) (λ (x : ℕ). x) (spot_word (told_by c) c.names p k) (d k e)
    (λ v x r. word_read (kind_of site (spot_back c.names.0 p).name) v x (ap (λ y. is_ring_kind (kind_of site y)) (slot_named c.names.0 p) ∙ (spot_at c site flags o.site_is is_ring_kind p h).kinded) r)
over_ring c site flags cells o (widened i) h =
    λ k e. comes_map (IsWord true) widen (index_value (told_by c) c.names i k) (over_index c site flags cells o i h k e) widened_word
over_ring c site flags cells o (ring_minus a) h =
    let q = and_parts (not (is_widened a)) (is_ring_fit c.names flags a) h in
    over_one c cells (value_of (ring_back c.names.0 a) site cells) (λ v. lift (negation_result v)) (IsWord (is_widened a)) (IsWord false) (ring_value (told_by c) c.names a) (λ x. ran (ring_neg x))
    (over_ring c site flags cells o a q.1) (λ x. still_ran (ring_neg x)) (λ v x r. over_found c cells (negation_result v) (ring_neg x) (minus_found (is_widened a) v x (not_true (is_widened a) q.0) r))
over_ring c site flags cells o (ring_binary p a b) h =
    let q = and_parts (not (is_widened a && is_widened b)) (is_ring_fit c.names flags a && is_ring_fit c.names flags b) h in
    let f = and_parts (is_ring_fit c.names flags a) (is_ring_fit c.names flags b) q.1 in
    over_two c cells (value_of (ring_back c.names.0 a) site cells) (value_of (ring_back c.names.0 b) site cells) (λ v w. lift (binary_result (op_back p) v w)) (IsWord (is_widened a)) (IsWord (is_widened b)) (IsWord false)
    (ring_value (told_by c) c.names a) (ring_value (told_by c) c.names b) (λ x y. ran (ring_found p x y)) (over_ring c site flags cells o a f.0) (over_ring c site flags cells o b f.1)
    (still_ring c c.names b) (λ x y. still_ran (ring_found p x y))
    (λ v w x y r s. over_found c cells (binary_result (op_back p) v w) (ring_found p x y) (operation_found p (is_widened a) (is_widened b) v w x y q.0 r s))
over_ring c site flags cells o (ring_power a n) h =
    let q = and_parts (not (is_widened a)) (is_ring_fit c.names flags a) h in
    over_one c cells (value_of (ring_back c.names.0 a) site cells) (λ v. lift (power_result v n)) (IsWord (is_widened a)) (IsWord false) (ring_value (told_by c) c.names a) (λ x. ran (ring_pow x n))
    (over_ring c site flags cells o a q.1) (λ x. still_ran (ring_pow x n)) (λ v x r. over_found c cells (power_result v n) (ring_pow x n) (power_found (is_widened a) n v x (not_true (is_widened a) q.0) r))
over_ring c site flags cells o (ring_larger a b) h =
    let q = and_parts (not (is_widened a || is_widened b)) (is_ring_fit c.names flags a && is_ring_fit c.names flags b) h in
    let f = and_parts (is_ring_fit c.names flags a) (is_ring_fit c.names flags b) q.1 in
    over_arguments c site cells (ring_back c.names.0 a) (ring_back c.names.0 b) Max (IsWord (is_widened a)) (IsWord (is_widened b)) (IsWord false)
    (ring_value (told_by c) c.names a) (ring_value (told_by c) c.names b) (λ x y. ran (larger_word c.names.2 x y)) (over_ring c site flags cells o a f.0) (over_ring c site flags cells o b f.1)
    (still_ring c c.names b) (λ x y. still_ran (larger_word c.names.2 x y))
    (λ v w x y r s. over_found c cells (larger_result site.width v w) (larger_word c.names.2 x y) (rw (sym o.site_is.width) (larger_found site.width (is_widened a) (is_widened b) v w x y q.0 r s)))
over_ring c site flags cells o (ring_smaller a b) h =
    let q = and_parts (not (is_widened a || is_widened b)) (is_ring_fit c.names flags a && is_ring_fit c.names flags b) h in
    let f = and_parts (is_ring_fit c.names flags a) (is_ring_fit c.names flags b) q.1 in
    over_arguments c site cells (ring_back c.names.0 a) (ring_back c.names.0 b) Min (IsWord (is_widened a)) (IsWord (is_widened b)) (IsWord false)
    (ring_value (told_by c) c.names a) (ring_value (told_by c) c.names b) (λ x y. ran (smaller_word c.names.2 x y)) (over_ring c site flags cells o a f.0) (over_ring c site flags cells o b f.1)
    (still_ring c c.names b) (λ x y. still_ran (smaller_word c.names.2 x y))
    (λ v w x y r s. over_found c cells (smaller_result site.width v w) (smaller_word c.names.2 x y) (rw (sym o.site_is.width) (smaller_found site.width (is_widened a) (is_widened b) v w x y q.0 r s)))
over_ring c site flags cells o (ring_absolute a) h =
    let q = and_parts (not (is_widened a)) (is_ring_fit c.names flags a) h in
    over_argument c site cells (ring_back c.names.0 a) Abs (IsWord (is_widened a)) (IsWord false) (ring_value (told_by c) c.names a) (λ x. ran (absolute_word c.names.2 x))
    (over_ring c site flags cells o a q.1) (λ x. still_ran (absolute_word c.names.2 x))
    (λ v x r. over_found c cells (absolute_result site.width v) (absolute_word c.names.2 x) (rw (sym o.site_is.width) (absolute_found_word site.width (is_widened a) v x (not_true (is_widened a) q.0) r)))

-- ---- conditions

over_test : (c : Scene) (site : Site) (flags : List Bool) (cells : Cells) → Over c site flags cells → (a : TestTree) → is_test_fit c.names flags a ≡ true
    → ComesOver c cells (holds (test_back c.names.0 a) site cells) IsSame (test_value (told_by c) c.names a)
over_test c site flags cells o (index_test p a b) h =
    let f = and_parts (is_index_fit c.names flags a) (is_index_fit c.names flags b) h in
    over_two c cells (value_of (index_back c.names.0 a) site cells) (value_of (index_back c.names.0 b) site cells) (λ v w. pure (relates site.width p v w)) IsNumber IsNumber IsSame
    (index_value (told_by c) c.names a) (index_value (told_by c) c.names b) (λ x y. ran (compares p x y)) (over_index c site flags cells o a f.0) (over_index c site flags cells o b f.1)
    (still_index c c.names b) (λ x y. still_ran (compares p x y)) (λ v w x y r s. over_ran c cells IsSame (relates site.width p v w) (compares p x y) (rw (r, s) refl))
over_test c site flags cells o (ring_test p a b) h =
    let q = and_parts (not (is_widened a && is_widened b)) (is_ring_fit c.names flags a && is_ring_fit c.names flags b) h in
    let f = and_parts (is_ring_fit c.names flags a) (is_ring_fit c.names flags b) q.1 in
    over_two c cells (value_of (ring_back c.names.0 a) site cells) (value_of (ring_back c.names.0 b) site cells) (λ v w. pure (relates site.width p v w)) (IsWord (is_widened a)) (IsWord (is_widened b)) IsSame
    (ring_value (told_by c) c.names a) (ring_value (told_by c) c.names b) (λ x y. ran (compares p (signed_at c.names.2 x) (signed_at c.names.2 y))) (over_ring c site flags cells o a f.0) (over_ring c site flags cells o b f.1)
    (still_ring c c.names b) (λ x y. still_ran (compares p (signed_at c.names.2 x) (signed_at c.names.2 y)))
    (λ v w x y r s. over_ran c cells IsSame (relates site.width p v w) (compares p (signed_at c.names.2 x) (signed_at c.names.2 y)) (rw (sym o.site_is.width) (relation_found site.width p (is_widened a) (is_widened b) v w x y q.0 r s)))
over_test c site flags cells o (not_test a) h =
    over_one c cells (holds (test_back c.names.0 a) site cells) (λ p. pure (not p)) IsSame IsSame (test_value (told_by c) c.names a) (λ p. ran (not p)) (over_test c site flags cells o a h) (λ p. still_ran (not p))
    (λ p q r. over_ran c cells IsSame (not p) (not q) (ap not r))
over_test c site flags cells o (and_test a b) h =
    let f = and_parts (is_test_fit c.names flags a) (is_test_fit c.names flags b) h in
    over_two c cells (holds (test_back c.names.0 a) site cells) (holds (test_back c.names.0 b) site cells) (λ p q. pure (p && q)) IsSame IsSame IsSame
    (test_value (told_by c) c.names a) (test_value (told_by c) c.names b) (λ p q. ran (p && q)) (over_test c site flags cells o a f.0) (over_test c site flags cells o b f.1)
    (still_test c c.names b) (λ p q. still_ran (p && q)) (λ p q x y r s. over_ran c cells IsSame (p && q) (x && y) (rw (r, s) refl))
over_test c site flags cells o (or_test a b) h =
    let f = and_parts (is_test_fit c.names flags a) (is_test_fit c.names flags b) h in
    over_two c cells (holds (test_back c.names.0 a) site cells) (holds (test_back c.names.0 b) site cells) (λ p q. pure (p || q)) IsSame IsSame IsSame
    (test_value (told_by c) c.names a) (test_value (told_by c) c.names b) (λ p q. ran (p || q)) (over_test c site flags cells o a f.0) (over_test c site flags cells o b f.1)
    (still_test c c.names b) (λ p q. still_ran (p || q)) (λ p q x y r s. over_ran c cells IsSame (p || q) (x || y) (rw (r, s) refl))

-- ---- all of it, at one scene

pub record ComesBy (c : Scene) (site : Site) (flags : List Bool) (k : Kept) : Type 0 where
  pub of_spot : (of_kind : Kind → Bool) (p : SpotTree) → is_spot_fit c.names flags of_kind p ≡ true
      → Comes c k (location_of site k.cells (spot_back c.names.0 p)) IsSame (spot_place (told_by c) c.names p k)
  pub of_index : (i : IndexTree) → is_index_fit c.names flags i ≡ true
      → Comes c k (value_of (index_back c.names.0 i) site k.cells) IsNumber (index_value (told_by c) c.names i k)
  pub of_ring : (a : RingTree) → is_ring_fit c.names flags a ≡ true
      → Comes c k (value_of (ring_back c.names.0 a) site k.cells) (IsWord (is_widened a)) (ring_value (told_by c) c.names a k)
  pub of_test : (a : TestTree) → is_test_fit c.names flags a ≡ true
      → Comes c k (holds (test_back c.names.0 a) site k.cells) IsSame (test_value (told_by c) c.names a k)

pub evaluated_at : (c : Scene) (site : Site) (flags : List Bool) → IsSite site c.names flags (is_some c.around) → (k : Kept) → Fits site k.cells → ComesBy c site flags k
evaluated_at c site flags s k f =
    let o : Over c site flags k.cells = record { site_is = s; fits = f } in
    record {
      of_spot = λ of_kind p h. over_spot c site flags k.cells o of_kind p h (over_parts c site flags k.cells o of_kind p h) (Option ℕ) (Option ℕ)
          (λ vs. pure (place_of site (spot_back c.names.0 p).name (whole_numbers vs))) IsSame ran (λ place. still_ran place)
          (λ vs. over_ran c k.cells IsSame (place_of site (spot_back c.names.0 p).name (whole_numbers vs)) (place_of site (spot_back c.names.0 p).name (whole_numbers vs)) refl) k refl;
      of_index = λ i h. over_index c site flags k.cells o i h k refl;
      of_ring = λ a h. over_ring c site flags k.cells o a h k refl;
      of_test = λ a h. over_test c site flags k.cells o a h k refl;
    }
