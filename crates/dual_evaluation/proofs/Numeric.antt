-- Operations on values stop for causes that tell no names.
use Rattle.std.specs.Prelude.{◌≡◌, ℕ, ℤ, Bool, true, false, if◌then◌else◌, List, [], ◌∷◌, int_lt, Result, Ok, Err, pos, refl}
use Rattle.std.specs.Prelude.{◌+ℤ◌, ◌-ℤ◌, ◌*ℤ◌, neg_ℤ}
use Rattle.std.specs.Int.{int_pow}
use Rattle.ring_core.specs.declared.ring.Width.{Width}
use Rattle.ring_core.specs.declared.index.IndexTrap.{IndexTrap}
use Rattle.ring_core.specs.declared.index.IndexTrap.TheVariants.{Range, ZeroDivisor}
use Rattle.ring_core.specs.Index.{exact_index, index_div, index_rem}
use Rattle.fl_ast.specs.declared.kind.Kind.{Kind}
use Rattle.fl_ast.specs.declared.kind.Kind.TheVariants as kind
use Rattle.fl_ast.specs.declared.kind.BinOp.{BinOp}
use Rattle.fl_ast.specs.declared.kind.BinOp.TheVariants.{Add, Sub, Mul, Div}
use Rattle.fl_ast.specs.declared.kind.Fun.{Fun}
use Rattle.fl_ast.specs.declared.kind.Fun.TheVariants.{Max, Min, Abs, Mod}
use Rattle.meaning.specs.declared.value.Dual.{Dual}
use Rattle.meaning.specs.declared.value.Value.{Value}
use Rattle.meaning.specs.declared.value.Value.TheVariants.{Index, Ring}
use Rattle.meaning.specs.Values.{as_dual, rank, of_index, literal_value, index_result, ring_result, binary_result, negation_result, power_result, absolute_result, remainder, call_result}
use Rattle.dual_evaluation.specs.Answers.{is_numeric_result}

of_indexes : (r : Result ℤ IndexTrap) → is_numeric_result (of_index r) ≡ true
of_indexes (Ok z) = refl
of_indexes (Err Range) = refl
of_indexes (Err ZeroDivisor) = refl

pub literals : (n : ℕ) (k : Kind) → is_numeric_result (literal_value n k) ≡ true
literals n kind.Index = of_indexes (exact_index (pos n))
literals n kind.Ring = refl

on_index : (op : BinOp) (a b : ℤ) → is_numeric_result (index_result op a b) ≡ true
on_index Add a b = of_indexes (exact_index (a +ℤ b))
on_index Sub a b = of_indexes (exact_index (a -ℤ b))
on_index Mul a b = of_indexes (exact_index (a *ℤ b))
on_index Div a b = of_indexes (index_div a b)

on_ring : (op : BinOp) (a b : Dual) → is_numeric_result (ring_result op a b) ≡ true
on_ring Add a b = refl
on_ring Sub a b = refl
on_ring Mul a b = refl
on_ring Div a b = refl

pub binaries : (op : BinOp) (a b : Value) → is_numeric_result (binary_result op a b) ≡ true
binaries op (Index a) (Index b) = on_index op a b
binaries op (Index a) (Ring b) = on_ring op (as_dual (Index a)) b
binaries op (Ring a) (Index b) = on_ring op a (as_dual (Index b))
binaries op (Ring a) (Ring b) = on_ring op a b

pub negations : (a : Value) → is_numeric_result (negation_result a) ≡ true
negations (Index a) = of_indexes (exact_index (neg_ℤ a))
negations (Ring a) = refl

pub powers : (a : Value) (n : ℕ) → is_numeric_result (power_result a n) ≡ true
powers (Index a) n = of_indexes (exact_index (int_pow a n))
powers (Ring a) n = refl

absolutes : (w : Width) (a : Value) → is_numeric_result (absolute_result w a) ≡ true
absolutes w a = by_test (int_lt (rank w a) (pos 0))
  where
    by_test : (b : Bool) → is_numeric_result (if b then negation_result a else Ok a) ≡ true
    by_test true = negations a
    by_test false = refl

remainders : (a b : Value) → is_numeric_result (remainder a b) ≡ true
remainders (Index a) (Index b) = of_indexes (index_rem a b)
remainders (Index a) (Ring b) = refl
remainders (Ring a) b = refl

pub calls : (w : Width) (f : Fun) (vs : List Value) → is_numeric_result (call_result w f vs) ≡ true
calls w Max [] = refl
calls w Max (a ∷ []) = refl
calls w Max (a ∷ b ∷ []) = refl
calls w Max (a ∷ b ∷ c ∷ vs) = refl
calls w Min [] = refl
calls w Min (a ∷ []) = refl
calls w Min (a ∷ b ∷ []) = refl
calls w Min (a ∷ b ∷ c ∷ vs) = refl
calls w Abs [] = refl
calls w Abs (a ∷ []) = absolutes w a
calls w Abs (a ∷ b ∷ vs) = refl
calls w Mod [] = refl
calls w Mod (a ∷ []) = refl
calls w Mod (a ∷ b ∷ []) = remainders a b
calls w Mod (a ∷ b ∷ c ∷ vs) = refl

pub ruleset numeric = (literals, binaries, negations, powers, calls)
