-- Split expressions as sweeps evaluate them: each operation gives a number whatever came before it, and loads and stops are told.
use Rattle.std.specs.Prelude.{◌≡◌, ℕ, ◌^◌, ◌%◌, ℤ, pos, ◌+ℤ◌, ◌-ℤ◌, ◌*ℤ◌, neg_ℤ, int_lt, int_le, Bool, true, false, not, ◌&&◌, ◌||◌, if◌then◌else◌, List, [], ◌∷◌, Option, Some, None, Result, Ok, Err}
use Rattle.std.specs.Int.{w32, w64, cast_signed, cast_unsigned, int_pow}
use Rattle.ring_core.specs.declared.index.IndexTrap.{IndexTrap}
use Rattle.ring_core.specs.declared.index.IndexTrap.TheVariants as trap
use Rattle.ring_core.specs.Index.{exact_index, index_div, index_rem}
use Rattle.ring_core.specs.declared.ring.Width.{Width}
use Rattle.ring_core.specs.Ring.{ring_add, ring_sub, ring_mul, ring_neg, ring_pow, signed_at}
use Rattle.fl_ast.specs.declared.kind.BinOp.{BinOp}
use Rattle.fl_ast.specs.declared.kind.BinOp.TheVariants as op
use Rattle.store_core.specs.declared.layout.Shape.{Shape}
use Rattle.store_core.specs.Keys.{place_in_slot}
use Rattle.meaning.specs.Values.{compares}
use Rattle.resolved.specs.SlotTables.{Names}
use Rattle.dual_evaluation.specs.declared.stop.Halt.{Halt}
use Rattle.dual_evaluation.specs.declared.stop.Halt.TheVariants.{Range, ZeroDivisor, Bounds}
use Rattle.sweep_trees.specs.declared.code.RingOp.{RingOp}
use Rattle.sweep_trees.specs.declared.code.RingOp.TheVariants.{Add, Sub, Mul}
use Rattle.sweep_trees.specs.Split.{SpotTree, scalar, element, elements, IndexTree, number, index_get, index_minus, index_binary, index_power, index_larger, index_smaller, index_remainder, index_absolute, IndexTrees, no_indices, index, RingTree, word, ring_get, widened, ring_minus, ring_binary, ring_power, ring_larger, ring_smaller, ring_absolute, TestTree, index_test, ring_test, not_test, and_test, or_test}

-- a result and a state
pub record Ran (S A : Type 0) : Type 0 where
  pub out : A
  pub state : S

abbrev pub ran : {S A : Type 0} → A → S → Ran S A
ran a s = record { out = a; state = s }

infixl 10 ◌to◌
abbrev pub ◌to◌ : {S A B : Type 0} → Ran S A → (A → S → Ran S B) → Ran S B
r to f = f r.out r.state

-- what loads give and leave, and what stops leave
pub record Told (S : Type 0) : Type 0 where
  pub word : S → (place : ℕ) → ℕ
  pub loaded : S → (slot place : ℕ) → (accessed : Bool) → S
  pub stopped : S → Halt → S

-- what a call does that runs as m, where memory wasn't wanting
pub record Does {V S A : Type 0} (stands : V → S → Type 0) (lost : V → Bool) (old new : V) (result : A) (m : S → Ran S A) : Type 0 where
  pub before : lost new ≡ false → lost old ≡ false
  pub runs : lost new ≡ false → (s : S) → stands old s → (result ≡ (m s).out) × stands new (m s).state

-- ---- numbers

abbrev pub halt_of : IndexTrap → Halt
halt_of trap.Range = Range
halt_of trap.ZeroDivisor = ZeroDivisor

abbrev pub exactly : {S : Type 0} → Told S → Result ℤ IndexTrap → S → Ran S ℤ
exactly told (Ok z) s = ran z s
exactly told (Err t) s = ran (pos 0) (told.stopped s (halt_of t))

abbrev pub index_found : BinOp → ℤ → ℤ → Result ℤ IndexTrap
index_found op.Add a b = exact_index (a +ℤ b)
index_found op.Sub a b = exact_index (a -ℤ b)
index_found op.Mul a b = exact_index (a *ℤ b)
index_found op.Div a b = index_div a b

abbrev pub larger_index : ℤ → ℤ → ℤ
larger_index a b = if int_le b a then a else b

abbrev pub smaller_index : ℤ → ℤ → ℤ
smaller_index a b = if int_le a b then a else b

abbrev pub absolute_index : ℤ → Result ℤ IndexTrap
absolute_index a = if int_lt a (pos 0) then exact_index (neg_ℤ a) else Ok a

-- the number of the index kind that a word holds
abbrev pub narrow : ℕ → ℤ
narrow x = cast_signed w32 (x % 2 ^ 32)

abbrev pub widen : ℤ → ℕ
widen z = cast_unsigned w64 z

abbrev pub ring_found : RingOp → ℕ → ℕ → ℕ
ring_found Add a b = ring_add a b
ring_found Sub a b = ring_sub a b
ring_found Mul a b = ring_mul a b

abbrev pub larger_word : Width → ℕ → ℕ → ℕ
larger_word w a b = if int_le (signed_at w b) (signed_at w a) then a else b

abbrev pub smaller_word : Width → ℕ → ℕ → ℕ
smaller_word w a b = if int_le (signed_at w a) (signed_at w b) then a else b

abbrev pub absolute_word : Width → ℕ → ℕ
absolute_word w a = if int_lt (signed_at w a) (pos 0) then ring_neg a else a

-- ---- trees

abbrev pub load_at : {S : Type 0} → Told S → (slot : ℕ) → (accessed : Bool) → Option ℕ → S → Ran S ℕ
load_at told slot accessed None s = ran 0 (told.stopped s (Bounds slot))
load_at told slot accessed (Some p) s = ran (told.word s p) (told.loaded s slot p accessed)

abbrev pub spot_slot : SpotTree → ℕ
spot_slot (scalar slot place accessed) = slot
spot_slot (element slot accessed i) = slot
spot_slot (elements slot accessed is) = slot

abbrev pub is_accessed : SpotTree → Bool
is_accessed (scalar slot place accessed) = accessed
is_accessed (element slot accessed i) = accessed
is_accessed (elements slot accessed is) = accessed

abbrev mutual
  -- the place of an occurrence, None outside its bounds
  pub spot_place : {S : Type 0} → Told S → Names → SpotTree → S → Ran S (Option ℕ)
  spot_place told names (scalar slot place accessed) s = ran (Some place) s
  spot_place told names (element slot accessed i) s = index_value told names i s to (λ z. ran (place_in_slot names.0 slot (z ∷ [])))
  spot_place told names (elements slot accessed is) s = index_values told names is s to (λ zs. ran (place_in_slot names.0 slot zs))

  pub index_value : {S : Type 0} → Told S → Names → IndexTree → S → Ran S ℤ
  index_value told names (number z) s = ran z s
  index_value told names (index_get p) s = spot_place told names p s to (λ place t. load_at told (spot_slot p) (is_accessed p) place t to (λ x. ran (narrow x)))
  index_value told names (index_minus a) s = index_value told names a s to (λ x. exactly told (exact_index (neg_ℤ x)))
  index_value told names (index_binary o a b) s = index_value told names a s to (λ x t. index_value told names b t to (λ y. exactly told (index_found o x y)))
  index_value told names (index_power a n) s = index_value told names a s to (λ x. exactly told (exact_index (int_pow x n)))
  index_value told names (index_larger a b) s = index_value told names a s to (λ x t. index_value told names b t to (λ y. ran (larger_index x y)))
  index_value told names (index_smaller a b) s = index_value told names a s to (λ x t. index_value told names b t to (λ y. ran (smaller_index x y)))
  index_value told names (index_remainder a b) s = index_value told names a s to (λ x t. index_value told names b t to (λ y. exactly told (index_rem x y)))
  index_value told names (index_absolute a) s = index_value told names a s to (λ x. exactly told (absolute_index x))

  pub index_values : {S : Type 0} → Told S → Names → IndexTrees → S → Ran S (List ℤ)
  index_values told names no_indices s = ran [] s
  index_values told names (index i is) s = index_value told names i s to (λ z t. index_values told names is t to (λ zs. ran (z ∷ zs)))

-- the word at an occurrence
abbrev pub spot_word : {S : Type 0} → Told S → Names → SpotTree → S → Ran S ℕ
spot_word told names p s = spot_place told names p s to load_at told (spot_slot p) (is_accessed p)

abbrev pub ring_value : {S : Type 0} → Told S → Names → RingTree → S → Ran S ℕ
ring_value told names (word x) s = ran x s
ring_value told names (ring_get p) s = spot_word told names p s
ring_value told names (widened i) s = index_value told names i s to (λ z. ran (widen z))
ring_value told names (ring_minus a) s = ring_value told names a s to (λ x. ran (ring_neg x))
ring_value told names (ring_binary o a b) s = ring_value told names a s to (λ x t. ring_value told names b t to (λ y. ran (ring_found o x y)))
ring_value told names (ring_power a n) s = ring_value told names a s to (λ x. ran (ring_pow x n))
ring_value told names (ring_larger a b) s = ring_value told names a s to (λ x t. ring_value told names b t to (λ y. ran (larger_word names.2 x y)))
ring_value told names (ring_smaller a b) s = ring_value told names a s to (λ x t. ring_value told names b t to (λ y. ran (smaller_word names.2 x y)))
ring_value told names (ring_absolute a) s = ring_value told names a s to (λ x. ran (absolute_word names.2 x))

abbrev pub test_value : {S : Type 0} → Told S → Names → TestTree → S → Ran S Bool
test_value told names (index_test o a b) s = index_value told names a s to (λ x t. index_value told names b t to (λ y. ran (compares o x y)))
test_value told names (ring_test o a b) s = ring_value told names a s to (λ x t. ring_value told names b t to (λ y. ran (compares o (signed_at names.2 x) (signed_at names.2 y))))
test_value told names (not_test a) s = test_value told names a s to (λ p. ran (not p))
test_value told names (and_test a b) s = test_value told names a s to (λ p t. test_value told names b t to (λ q. ran (p && q)))
test_value told names (or_test a b) s = test_value told names a s to (λ p t. test_value told names b t to (λ q. ran (p || q)))
