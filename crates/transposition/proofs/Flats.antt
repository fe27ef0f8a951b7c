-- Values without their tangents: operations give the same, without tangents.
use Rattle.std.proofs.Common.{◌≡◌, ℕ, zero, suc, ◌<◌, ◌^◌, List, [], ◌∷◌, refl, ap, ◌∙◌, arith, Bool, true, false, Some, Result, Ok, Err, ℤ, pos, negsuc}
use Rattle.std.specs.Prelude.{int_le, int_lt, if◌then◌else◌, ◌%◌}
use Rattle.std.specs.Int.{w32, w64, cast_signed, cast_unsigned}
use Rattle.std.proofs.lemmas.Int.{to_z-of_z}
use Rattle.std.proofs.lemmas.Bool.Decides.{nat_tests}
use mir.Val.{SFits}
use Rattle.fl_ast.specs.declared.kind.Kind.{Kind}
use Rattle.fl_ast.specs.declared.kind.Kind.TheVariants as kind
use Rattle.fl_ast.specs.declared.kind.BinOp.{BinOp}
use Rattle.fl_ast.specs.declared.kind.BinOp.TheVariants.{Add, Sub, Mul, Div}
use Rattle.fl_ast.specs.declared.kind.RelOp.{RelOp}
use Rattle.fl_ast.specs.declared.kind.Fun.{Fun}
use Rattle.fl_ast.specs.declared.kind.Fun.TheVariants.{Max, Min, Abs, Mod}
use Rattle.ring_core.specs.declared.ring.Width.{Width}
use Rattle.ring_core.specs.Ring.{ring_mul}
use Rattle.ring_core.specs.Index.{IsIndex}
use Rattle.ring_core.specs.declared.index.IndexTrap.{IndexTrap}
use Rattle.meaning.specs.declared.value.Dual.{Dual}
use Rattle.meaning.specs.declared.value.Value.{Value}
use Rattle.meaning.specs.declared.value.Value.TheVariants.{Index, Ring}
use Rattle.meaning.specs.Values.{Found, of_index, dual_mul, dual_pow, as_dual, rank, ranks, compares, whole_numbers, literal_value, index_result, ring_result, binary_result, negation_result, power_result, larger_result, smaller_result, absolute_result, remainder, on_one, on_two, call_result, relates}
use Rattle.meaning.specs.Sites.{word_of}
use Rattle.transposition.specs.Reads.{number_in, value_from}
use Rattle.meaning.specs.Fitting.{HasKind}

abbrev pub flat_value : Value → Value
flat_value (Index z) = Index z
flat_value (Ring d) = Ring (record { value = d.value; tangent = 0 })

abbrev pub flat_values : List Value → List Value
flat_values [] = []
flat_values (v ∷ vs) = flat_value v ∷ flat_values vs

abbrev pub same : {A : Type 0} → A → A
same a = a

-- ---- a word read back

low_half : (z : ℤ) → IsIndex z → cast_unsigned w64 z % 2 ^ 32 ≡ cast_unsigned w32 z
low_half (pos n) e = let b : n < 2147483648 = grind (arith, nat_tests) in omega arith
low_half (negsuc n) e = let b : n < 2147483648 = grind (arith, nat_tests) in omega arith

fits_half : (z : ℤ) → IsIndex z → SFits w32 z
fits_half (pos n) e = let b : n < 2 ^ 31 = grind (arith, nat_tests) in record { sfits = b }
fits_half (negsuc n) e = let b : n < 2 ^ 31 = grind (arith, nat_tests) in record { sfits = b }

pub read_back : (z : ℤ) → IsIndex z → number_in (cast_unsigned w64 z) ≡ z
read_back z h = ap (cast_signed w32) (low_half z h) ∙ to_z-of_z w32 z (fits_half z h)

pub decoded : (k : Kind) (v : Value) → HasKind k v → value_from k (word_of (Some v)) ≡ flat_value v
decoded kind.Ring (Ring d) h = refl
decoded kind.Index (Index z) h = ap Index (read_back z h)
decoded kind.Ring (Index z) h = absurd h
decoded kind.Index (Ring d) h = absurd h

-- ---- operations

abbrev pub Maps : Found → Found → Type 0
Maps (Ok v) r = r ≡ Ok (flat_value v)
Maps (Err c) r = Unit {0}

pub wholes_flat : (vs : List Value) → whole_numbers (flat_values vs) ≡ whole_numbers vs
wholes_flat [] = refl
wholes_flat (Index z ∷ vs) = ap (λ l. z ∷ l) (wholes_flat vs)
wholes_flat (Ring d ∷ vs) = ap (λ l. pos 0 ∷ l) (wholes_flat vs)

pub rank_flat : (b : Width) (v : Value) → rank b (flat_value v) ≡ rank b v
rank_flat b (Index z) = refl
rank_flat b (Ring d) = refl

index_maps : (r : Result ℤ IndexTrap) → Maps (of_index r) (of_index r)
index_maps (Ok z) = refl
index_maps (Err t) = tt

times_none : (a : ℕ) → ring_mul a 0 ≡ 0
times_none a = omega arith

none_times : (a : ℕ) → ring_mul 0 a ≡ 0
none_times a = omega arith

abbrev plain : ℕ → Dual
plain v = record { value = v; tangent = 0 }

pub mul_plain : (a b : ℕ) → dual_mul (plain a) (plain b) ≡ plain (ring_mul a b)
mul_plain a b = rw (times_none a, none_times b) refl

ring_maps : (op : BinOp) (a b : Dual) → Maps (ring_result op a b) (ring_result op (plain a.value) (plain b.value))
ring_maps Add a b = refl
ring_maps Sub a b = refl
ring_maps Mul a b = ap (λ (d : Dual). Ok (Ring d)) (mul_plain a.value b.value)
ring_maps Div a b = tt

pub binary_maps : (op : BinOp) (v w : Value) → Maps (binary_result op v w) (binary_result op (flat_value v) (flat_value w))
binary_maps op (Index a) (Index b) = by_op op
  where
    by_op : (op : BinOp) → Maps (index_result op a b) (index_result op a b)
    by_op Add = index_maps _
    by_op Sub = index_maps _
    by_op Mul = index_maps _
    by_op Div = index_maps _
binary_maps op (Index a) (Ring b) = ring_maps op (as_dual (Index a)) b
binary_maps op (Ring a) (Index b) = ring_maps op a (as_dual (Index b))
binary_maps op (Ring a) (Ring b) = ring_maps op a b

pub negated_maps : (v : Value) → Maps (negation_result v) (negation_result (flat_value v))
negated_maps (Index z) = index_maps _
negated_maps (Ring d) = refl

pub pow_plain : (a : Dual) (n : ℕ) → dual_pow (plain a.value) n ≡ plain (dual_pow a n).value
pow_plain a zero = refl
pow_plain a (suc n) = ap (λ (d : Dual). dual_mul d (plain a.value)) (pow_plain a n) ∙ mul_plain (dual_pow a n).value a.value

pub power_maps : (v : Value) (n : ℕ) → Maps (power_result v n) (power_result (flat_value v) n)
power_maps (Index z) n = index_maps _
power_maps (Ring d) n = ap (λ (e : Dual). Ok (Ring e)) (pow_plain d n)

flat_if : (b : Bool) (v w : Value) → (if b then flat_value v else flat_value w) ≡ flat_value (if b then v else w)
flat_if true v w = refl
flat_if false v w = refl

larger_maps : (b : Width) (v w : Value) → Maps (larger_result b v w) (larger_result b (flat_value v) (flat_value w))
larger_maps b v w = rw (rank_flat b v, rank_flat b w) (ap (λ (x : Value). Ok x) (flat_if (int_le (rank b w) (rank b v)) v w))

smaller_maps : (b : Width) (v w : Value) → Maps (smaller_result b v w) (smaller_result b (flat_value v) (flat_value w))
smaller_maps b v w = rw (rank_flat b v, rank_flat b w) (ap (λ (x : Value). Ok x) (flat_if (int_le (rank b v) (rank b w)) v w))

absolute_maps : (b : Width) (v : Value) → Maps (absolute_result b v) (absolute_result b (flat_value v))
absolute_maps b v = rw (rank_flat b v) (by_test (int_lt (rank b v) (pos 0)))
  where
    by_test : (b : Bool) → Maps (if b then negation_result v else Ok v) (if b then negation_result (flat_value v) else Ok (flat_value v))
    by_test true = negated_maps v
    by_test false = refl

remainder_maps : (v w : Value) → Maps (remainder v w) (remainder (flat_value v) (flat_value w))
remainder_maps (Index a) (Index b) = index_maps _
remainder_maps (Index a) (Ring b) = tt
remainder_maps (Ring a) b = tt

one_maps : (f : Value → Found) → ((v : Value) → Maps (f v) (f (flat_value v))) → (vs : List Value) → Maps (on_one f vs) (on_one f (flat_values vs))
one_maps f h [] = tt
one_maps f h (v ∷ []) = h v
one_maps f h (v ∷ w ∷ vs) = tt

two_maps : (f : Value → Value → Found) → ((v w : Value) → Maps (f v w) (f (flat_value v) (flat_value w))) → (vs : List Value) → Maps (on_two f vs) (on_two f (flat_values vs))
two_maps f h [] = tt
two_maps f h (v ∷ []) = tt
two_maps f h (v ∷ w ∷ []) = h v w
two_maps f h (v ∷ w ∷ x ∷ vs) = tt

pub call_maps : (b : Width) (f : Fun) (vs : List Value) → Maps (call_result b f vs) (call_result b f (flat_values vs))
call_maps b Max vs = two_maps (larger_result b) (larger_maps b) vs
call_maps b Min vs = two_maps (smaller_result b) (smaller_maps b) vs
call_maps b Abs vs = one_maps (absolute_result b) (absolute_maps b) vs
call_maps b Mod vs = two_maps remainder remainder_maps vs

pub literal_maps : (n : ℕ) (k : Kind) → Maps (literal_value n k) (literal_value n k)
literal_maps n kind.Index = index_maps _
literal_maps n kind.Ring = refl

pub ranks_flat : (b : Width) (v w : Value) → ranks b (flat_value v) (flat_value w) ≡ ranks b v w
ranks_flat b (Index x) (Index y) = refl
ranks_flat b (Index x) (Ring y) = refl
ranks_flat b (Ring x) (Index y) = refl
ranks_flat b (Ring x) (Ring y) = refl

pub relates_flat : (b : Width) (op : RelOp) (v w : Value) → relates b op (flat_value v) (flat_value w) ≡ relates b op v w
relates_flat b op v w = ap (λ (r : ℤ × ℤ). compares op r.0 r.1) (ranks_flat b v w)
