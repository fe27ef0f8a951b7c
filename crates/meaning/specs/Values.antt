-- Values of the two kinds, and the operations on them.
use Rattle.std.specs.Prelude.{ℕ, zero, suc, Bool, not, if◌then◌else◌, List, [], ◌∷◌, Result, Ok, Err, ℤ, pos, ◌+ℤ◌, ◌-ℤ◌, ◌*ℤ◌, neg_ℤ, int_lt, int_le}
use Rattle.std.specs.Ordering.{int_eq}
use Rattle.std.specs.Int.{w64, cast_unsigned, int_pow}
use Rattle.fl_ast.specs.declared.kind.Kind.{Kind}
use Rattle.fl_ast.specs.declared.kind.Kind.TheVariants as kind
use Rattle.fl_ast.specs.declared.kind.BinOp.{BinOp}
use Rattle.fl_ast.specs.declared.kind.BinOp.TheVariants.{Add, Sub, Mul, Div}
use Rattle.fl_ast.specs.declared.kind.RelOp.{RelOp}
use Rattle.fl_ast.specs.declared.kind.RelOp.TheVariants.{Eq, Ne, Lt, Le, Gt, Ge}
use Rattle.fl_ast.specs.declared.kind.Fun.{Fun}
use Rattle.fl_ast.specs.declared.kind.Fun.TheVariants.{Max, Min, Abs, Mod}
use Rattle.ring_core.specs.declared.ring.Width.{Width}
use Rattle.ring_core.specs.declared.index.IndexTrap.{IndexTrap}
use Rattle.ring_core.specs.declared.index.IndexTrap.TheVariants as index_trap
use Rattle.ring_core.specs.Ring.{ring_add, ring_sub, ring_mul, ring_neg, signed_at}
use Rattle.ring_core.specs.Index.{exact_index, index_div, index_rem}
use Rattle.meaning.specs.declared.value.Dual.{Dual}
use Rattle.meaning.specs.declared.value.Value.{Value}
use Rattle.meaning.specs.declared.value.Value.TheVariants.{Index, Ring}
use Rattle.meaning.specs.declared.value.Cause.{Cause}
use Rattle.meaning.specs.declared.value.Cause.TheVariants.{Range, ZeroDivisor}

-- ---- duals: sums and differences by parts, products by the product rule

abbrev pub dual_add : Dual → Dual → Dual
dual_add a b = record { value = ring_add a.value b.value; tangent = ring_add a.tangent b.tangent }

abbrev pub dual_sub : Dual → Dual → Dual
dual_sub a b = record { value = ring_sub a.value b.value; tangent = ring_sub a.tangent b.tangent }

abbrev pub dual_neg : Dual → Dual
dual_neg a = record { value = ring_neg a.value; tangent = ring_neg a.tangent }

abbrev pub dual_mul : Dual → Dual → Dual
dual_mul a b = record {
  value = ring_mul a.value b.value;
  tangent = ring_add (ring_mul a.value b.tangent) (ring_mul a.tangent b.value);
}

-- the product of n factors
abbrev pub dual_pow : Dual → ℕ → Dual
dual_pow a zero = record { value = 1; tangent = 0 }
dual_pow a (suc n) = dual_mul (dual_pow a n) a

-- ---- values

abbrev pub Found : Type 0
Found = Result Value Cause

abbrev pub cause_of : IndexTrap → Cause
cause_of index_trap.Range = Range
cause_of index_trap.ZeroDivisor = ZeroDivisor

abbrev pub of_index : Result ℤ IndexTrap → Found
of_index (Ok z) = Ok (Index z)
of_index (Err t) = Err (cause_of t)

-- a value as one of the ring kind: an index value modulo 2^64, with tangent 0
abbrev pub as_dual : Value → Dual
as_dual (Index z) = record { value = cast_unsigned w64 z; tangent = 0 }
as_dual (Ring d) = d

-- what a name of a kind holds when it is set to a value
abbrev pub as_kind : Kind → Value → Value
as_kind kind.Ring v = Ring (as_dual v)
as_kind kind.Index v = v

-- the number by which a value is compared, ring values at a width
abbrev pub rank : Width → Value → ℤ
rank w (Index z) = z
rank w (Ring d) = signed_at w d.value

-- the numbers by which two values are compared: of two kinds, the index value is converted first
abbrev pub ranks : Width → Value → Value → ℤ × ℤ
ranks w (Index a) (Index b) = (a, b)
ranks w (Index a) (Ring b) = (signed_at w (as_dual (Index a)).value, signed_at w b.value)
ranks w (Ring a) (Index b) = (signed_at w a.value, signed_at w (as_dual (Index b)).value)
ranks w (Ring a) (Ring b) = (signed_at w a.value, signed_at w b.value)

-- the whole number of an index value
abbrev pub whole_number : Value → ℤ
whole_number (Index z) = z
whole_number (Ring d) = pos 0

abbrev pub whole_numbers : List Value → List ℤ
whole_numbers [] = []
whole_numbers (v ∷ vs) = whole_number v ∷ whole_numbers vs

-- ---- operations

abbrev pub literal_value : ℕ → Kind → Found
literal_value n kind.Index = of_index (exact_index (pos n))
literal_value n kind.Ring = Ok (Ring (record { value = n; tangent = 0 }))

abbrev pub index_result : BinOp → ℤ → ℤ → Found
index_result Add a b = of_index (exact_index (a +ℤ b))
index_result Sub a b = of_index (exact_index (a -ℤ b))
index_result Mul a b = of_index (exact_index (a *ℤ b))
index_result Div a b = of_index (index_div a b)

-- data is never divided
abbrev pub ring_result : BinOp → Dual → Dual → Found
ring_result Add a b = Ok (Ring (dual_add a b))
ring_result Sub a b = Ok (Ring (dual_sub a b))
ring_result Mul a b = Ok (Ring (dual_mul a b))
ring_result Div a b = Err Range

-- of two kinds, the index operand is converted
abbrev pub binary_result : BinOp → Value → Value → Found
binary_result op (Index a) (Index b) = index_result op a b
binary_result op (Index a) (Ring b) = ring_result op (as_dual (Index a)) b
binary_result op (Ring a) (Index b) = ring_result op a (as_dual (Index b))
binary_result op (Ring a) (Ring b) = ring_result op a b

abbrev pub negation_result : Value → Found
negation_result (Index a) = of_index (exact_index (neg_ℤ a))
negation_result (Ring a) = Ok (Ring (dual_neg a))

abbrev pub power_result : Value → ℕ → Found
power_result (Index a) n = of_index (exact_index (int_pow a n))
power_result (Ring a) n = Ok (Ring (dual_pow a n))

-- of one kind; the first at a tie
abbrev pub larger_result : Width → Value → Value → Found
larger_result w a b = Ok (if int_le (rank w b) (rank w a) then a else b)

abbrev pub smaller_result : Width → Value → Value → Found
smaller_result w a b = Ok (if int_le (rank w a) (rank w b) then a else b)

abbrev pub absolute_result : Width → Value → Found
absolute_result w a = if int_lt (rank w a) (pos 0) then negation_result a else Ok a

abbrev pub remainder : Value → Value → Found
remainder (Index a) (Index b) = of_index (index_rem a b)
remainder (Index a) (Ring b) = Err Range
remainder (Ring a) b = Err Range

abbrev pub on_one : (Value → Found) → List Value → Found
on_one f [] = Err Range
on_one f (a ∷ []) = f a
on_one f (a ∷ b ∷ vs) = Err Range

abbrev pub on_two : (Value → Value → Found) → List Value → Found
on_two f [] = Err Range
on_two f (a ∷ []) = Err Range
on_two f (a ∷ b ∷ []) = f a b
on_two f (a ∷ b ∷ c ∷ vs) = Err Range

abbrev pub call_result : Width → Fun → List Value → Found
call_result w Max vs = on_two (larger_result w) vs
call_result w Min vs = on_two (smaller_result w) vs
call_result w Abs vs = on_one (absolute_result w) vs
call_result w Mod vs = on_two remainder vs

abbrev pub compares : RelOp → ℤ → ℤ → Bool
compares Eq a b = int_eq a b
compares Ne a b = not (int_eq a b)
compares Lt a b = int_lt a b
compares Le a b = int_le a b
compares Gt a b = int_lt b a
compares Ge a b = int_le b a

abbrev pub relates : Width → RelOp → Value → Value → Bool
relates w op a b = compares op (ranks w a b).0 (ranks w a b).1
