-- The tangent of each operation, modulo 2^64.
use Rattle.std.proofs.Common.{◌≡◌, ℕ, suc, ◌+◌, ◌*◌, ◌%◌, refl, ap, sym, ◌∙◌, subst, arith, Bool, true, false, not, Some, Result, Ok, Err, ℤ, pos}
use Rattle.std.specs.Prelude.{◌+ℤ◌, ◌-ℤ◌, ◌*ℤ◌, neg_ℤ}
use Rattle.std.specs.Int.{int_pow}
use Rattle.ring_core.specs.Index.{exact_index, index_div, index_rem}
use Rattle.fl_ast.specs.declared.kind.Kind.{Kind}
use Rattle.fl_ast.specs.declared.kind.Kind.TheVariants as kind
use Rattle.fl_ast.specs.declared.kind.BinOp.{BinOp}
use Rattle.fl_ast.specs.declared.kind.BinOp.TheVariants.{Add, Sub, Mul, Div}
use Rattle.ring_core.specs.Ring.{ring_mul, ring_pow}
use Rattle.ring_core.specs.declared.index.IndexTrap.{IndexTrap}
use Rattle.pairing.specs.Ring.{big, last, Same, factor}
use Rattle.pairing.proofs.Sames.{of_equal, same_sum, same_product, strip_add, strip_mul, strip_neg, strip_sub, sign_twice}
use Rattle.meaning.specs.declared.value.Dual.{Dual}
use Rattle.meaning.specs.declared.value.Value.{Value}
use Rattle.meaning.specs.declared.value.Value.TheVariants.{Index, Ring}
use Rattle.meaning.specs.Values.{Found, of_index, dual_pow, as_dual, literal_value, index_result, ring_result, binary_result, negation_result, power_result, remainder}
use Rattle.meaning.specs.Adjoints.{tangent_of}
use Rattle.meaning.proofs.Powers.{power_of_more}
use Rattle.transposition.specs.Spread.{with_sign}

abbrev pub worth : Value → ℕ
worth v = (as_dual v).value

abbrev pub moves : Value → ℕ
moves v = (as_dual v).tangent

pub moves_is : (v : Value) → tangent_of (Some v) ≡ moves v
moves_is (Index z) = refl
moves_is (Ring d) = refl

-- of an outcome, where there is one
abbrev pub Moves : Found → (ℕ → Type 0) → Type 0
Moves (Ok v) P = P (moves v)
Moves (Err c) P = Unit {0}

pub moves_of : (r : Found) (P : ℕ → Type 0) (v : Value) → r ≡ Ok v → Moves r P → P (moves v)
moves_of (Ok x) P v e h = let g : x ≡ v = cc in subst (λ (y : Value). P (moves y)) g h
moves_of (Err c) P v e h = cc

index_moves : (r : Result ℤ IndexTrap) (P : ℕ → Type 0) → P 0 → Moves (of_index r) P
index_moves (Ok z) P h = h
index_moves (Err t) P h = tt

abbrev pub sum_of : BinOp → Value → Value → ℕ
sum_of Add v w = moves v + moves w
sum_of Sub v w = moves v + last * moves w
sum_of Mul v w = worth v * moves w + moves v * worth w
sum_of Div v w = 0

none_moves : (op : BinOp) (a b : ℤ) → Same 0 (sum_of op (Index a) (Index b))
none_moves Add a b = refl
none_moves Sub a b = of_equal _ _ (omega arith)
none_moves Mul a b = of_equal _ _ (omega arith)
none_moves Div a b = refl

ring_moves : (op : BinOp) (v w : Value) → Moves (ring_result op (as_dual v) (as_dual w)) (λ m. Same m (sum_of op v w))
ring_moves Add v w = strip_add (moves v) (moves w)
ring_moves Sub v w = strip_sub (moves v) (moves w)
ring_moves Mul v w =
    strip_add (ring_mul (worth v) (moves w)) (ring_mul (moves v) (worth w)) ∙ same_sum _ _ _ _ (strip_mul (worth v) (moves w)) (strip_mul (moves v) (worth w))
ring_moves Div v w = tt

pub binary_moves : (op : BinOp) (v w : Value) → Moves (binary_result op v w) (λ m. Same m (sum_of op v w))
binary_moves op (Index a) (Index b) = by_op op
  where
    by_op : (op : BinOp) → Moves (index_result op a b) (λ m. Same m (sum_of op (Index a) (Index b)))
    by_op Add = index_moves (exact_index (a +ℤ b)) (λ m. Same m (sum_of Add (Index a) (Index b))) (none_moves Add a b)
    by_op Sub = index_moves (exact_index (a -ℤ b)) (λ m. Same m (sum_of Sub (Index a) (Index b))) (none_moves Sub a b)
    by_op Mul = index_moves (exact_index (a *ℤ b)) (λ m. Same m (sum_of Mul (Index a) (Index b))) (none_moves Mul a b)
    by_op Div = index_moves (index_div a b) (λ m. Same m (sum_of Div (Index a) (Index b))) (none_moves Div a b)
binary_moves op (Index a) (Ring b) = ring_moves op (Index a) (Ring b)
binary_moves op (Ring a) (Index b) = ring_moves op (Ring a) (Index b)
binary_moves op (Ring a) (Ring b) = ring_moves op (Ring a) (Ring b)

pub negated_moves : (v : Value) → Moves (negation_result v) (λ m. Same m (last * moves v))
negated_moves (Index z) = index_moves (exact_index (neg_ℤ z)) (λ m. Same m (last * 0)) (of_equal 0 (last * 0) (omega arith))
negated_moves (Ring d) = strip_neg d.tangent

pub negated_still : (z : ℤ) → Moves (negation_result (Index z)) (λ m. m ≡ 0)
negated_still z = index_moves (exact_index (neg_ℤ z)) (λ m. m ≡ 0) refl

pub remainder_moves : (v w : Value) → Moves (remainder v w) (λ m. m ≡ 0)
remainder_moves (Index a) (Index b) = index_moves (index_rem a b) (λ m. m ≡ 0) refl
remainder_moves (Index a) (Ring b) = tt
remainder_moves (Ring a) b = tt

pub literal_moves : (n : ℕ) (k : Kind) → Moves (literal_value n k) (λ m. m ≡ 0)
literal_moves n kind.Index = index_moves (exact_index (pos n)) (λ m. m ≡ 0) refl
literal_moves n kind.Ring = refl

pub power_index : (z : ℤ) (n : ℕ) → Moves (power_result (Index z) n) (λ m. m ≡ 0)
power_index z n = index_moves (exact_index (int_pow z n)) (λ m. m ≡ 0) refl

-- ---- signs and products

pub signed_is : (less : Bool) (a : ℕ) → Same (with_sign less a) (factor less * a)
signed_is true a = strip_neg a
signed_is false a = of_equal a (1 * a) (omega arith)

-- a product with one factor more
pub scaled : (less : Bool) (q v t : ℕ) → Same (with_sign less (ring_mul q v) * t) (with_sign less q * (v * t))
scaled less q v t =
    same_product _ _ t t (signed_is less (ring_mul q v) ∙ same_product (factor less) (factor less) _ _ refl (strip_mul q v)) refl
    ∙ (of_equal (factor less * (q * v) * t) (factor less * q * (v * t)) (omega arith) ∙ same_product _ _ (v * t) (v * t) (sym (signed_is less q)) refl)

pub turned : (less : Bool) (q t : ℕ) → Same (with_sign (not less) q * t) (with_sign less q * (last * t))
turned false q t = same_product _ _ t t (strip_neg q) refl ∙ of_equal (last * q * t) (q * (last * t)) (omega arith)
turned true q t =
    sym (same_product _ _ (last * t) (last * t) (strip_neg q) refl ∙ (of_equal (last * q * (last * t)) (last * (last * (q * t))) (omega arith) ∙ sign_twice (q * t)))

-- ---- powers

pub power_none : (v : Value) → Moves (power_result v 0) (λ m. m ≡ 0)
power_none (Index z) = index_moves (exact_index (int_pow z 0)) (λ m. m ≡ 0) refl
power_none (Ring d) = refl

pub power_some : (d : Dual) (n : ℕ) → Same (dual_pow d (suc n)).tangent (suc n * (ring_pow d.value n * d.tangent))
power_some d n =
    ap (λ (e : Dual). e.tangent % big) (power_of_more d n)
    ∙ (strip_mul (ring_mul (suc n) (ring_pow d.value n)) d.tangent
    ∙ (same_product _ _ d.tangent d.tangent (strip_mul (suc n) (ring_pow d.value n)) refl
    ∙ of_equal (suc n * ring_pow d.value n * d.tangent) (suc n * (ring_pow d.value n * d.tangent)) (omega arith)))
