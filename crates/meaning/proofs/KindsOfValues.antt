-- Operations on values of the right kinds give values of a kind, and are asked for nothing that they aren't defined for.
use Rattle.std.proofs.Common.{◌≡◌, ℕ, zero, suc, ◌+◌, ◌*◌, ◌%◌, ◌<◌, ◌≤◌, ◌^◌, List, [], ◌∷◌, refl, arith, Bool, true, false, ◌&&◌, Result, Ok, Err, ℤ, pos, negsuc}
use Rattle.std.specs.Prelude.{int_le, int_lt, if◌then◌else◌, ◌+ℤ◌, ◌-ℤ◌, ◌*ℤ◌, neg_ℤ, int_div, int_rem}
use Rattle.std.specs.Int.{w64, cast_unsigned, int_pow}
use Rattle.std.proofs.lemmas.Bool.{and_parts}
use Rattle.std.proofs.lemmas.Bool.Decides.{nat_tests}
use Rattle.ring_core.specs.declared.ring.Width.{Width}
use Rattle.ring_core.specs.Index.{IsIndex, fits_index, exact_index, unless_zero, index_div, index_rem}
use Rattle.ring_core.specs.declared.index.IndexTrap.{IndexTrap}
use Rattle.ring_core.specs.declared.index.IndexTrap.TheVariants as index_trap
use Rattle.fl_ast.specs.declared.kind.Kind.{Kind}
use Rattle.fl_ast.specs.declared.kind.Kind.TheVariants as kind
use Rattle.fl_ast.specs.declared.kind.BinOp.{BinOp}
use Rattle.fl_ast.specs.declared.kind.BinOp.TheVariants.{Add, Sub, Mul, Div}
use Rattle.fl_ast.specs.declared.kind.Fun.{Fun}
use Rattle.fl_ast.specs.declared.kind.Fun.TheVariants.{Max, Min, Abs, Mod}
use Rattle.fl_ast.specs.Same.{same_kind}
use Rattle.fl_types.specs.Kinds.{wider_kind, widest_kind, is_index_kind, literal_fits, takes_operands, takes_arguments, takes_value}
use Rattle.meaning.specs.declared.value.Dual.{Dual}
use Rattle.meaning.specs.declared.value.Value.{Value}
use Rattle.meaning.specs.declared.value.Value.TheVariants.{Index, Ring}
use Rattle.meaning.specs.Values.{Found, of_index, dual_add, dual_sub, dual_pow, as_dual, as_kind, rank, whole_number, literal_value, index_result, ring_result, binary_result, negation_result, power_result, larger_result, smaller_result, absolute_result, remainder, on_one, on_two, call_result}
use Rattle.meaning.specs.Statements.{incremented_dual}
use Rattle.meaning.specs.Fitting.{HasKind}
use Rattle.meaning.specs.Defined.{IsIndexValue, AreOfOneKind, AreOperands, AreArguments}
use Rattle.meaning.proofs.Gives.{Given, gives_value, gives_none}

-- a value, if any, has the kind
abbrev pub FoundHas : Kind → Found → Type 0
FoundHas k (Ok v) = HasKind k v
FoundHas k (Err c) = Unit {0}

pub found_gives : (k : Kind) (r : Found) → FoundHas k r → Given r (HasKind k)
found_gives k (Ok v) h = gives_value v (HasKind k) h
found_gives k (Err c) h = gives_none c (HasKind k)

abbrev pub HaveKinds : List Kind → List Value → Type 0
HaveKinds [] [] = Unit {0}
HaveKinds [] (v ∷ vs) = ⊥
HaveKinds (k ∷ ks) [] = ⊥
HaveKinds (k ∷ ks) (v ∷ vs) = HasKind k v × HaveKinds ks vs

-- ---- index numbers

abbrev pub IndexFits : Result ℤ IndexTrap → Type 0
IndexFits (Ok z) = IsIndex z
IndexFits (Err t) = Unit {0}

of_index_has : (r : Result ℤ IndexTrap) → IndexFits r → FoundHas kind.Index (of_index r)
of_index_has (Ok z) h = h
of_index_has (Err t) h = tt

pub fitted_fits : (z : ℤ) → IndexFits (exact_index z)
unfolding exact_index
fitted_fits z = by_test (fits_index z) refl
  where
    by_test : (b : Bool) → fits_index z ≡ b → IndexFits (if b then Ok z else Err index_trap.Range)
    by_test true e = e
    by_test false e = tt

of_fitted_has : (z : ℤ) → FoundHas kind.Index (of_index (exact_index z))
of_fitted_has z = of_index_has (exact_index z) (fitted_fits z)

unless_fits : (b : ℤ) (r : Result ℤ IndexTrap) → IndexFits r → IndexFits (unless_zero b r)
unless_fits (pos zero) r h = tt
unless_fits (pos (suc n)) r h = h
unless_fits (negsuc n) r h = h

pub div_fits : (a b : ℤ) → IndexFits (index_div a b)
unfolding index_div
div_fits a b = unless_fits b (exact_index (int_div a b)) (fitted_fits (int_div a b))

mod_le : (a b : ℕ) → a % b ≤ a
mod_le a zero = omega arith
mod_le a (suc b) = omega arith

neg_fits : (x : ℕ) → x ≤ 2147483648 → fits_index (neg_ℤ (pos x)) ≡ true
neg_fits zero h = refl
neg_fits (suc x) h = grind (arith, nat_tests)

rem_below : (a b : ℕ) → a < 2147483648 → a % b < 2147483648
rem_below a b h = let e = mod_le a b in omega arith

rem_fits : (a b : ℤ) → IsIndex a → IsIndex (int_rem a b)
rem_fits (pos a) (pos b) h = let i : a < 2147483648 = grind (arith, nat_tests) in let j = rem_below a b i in grind (arith, nat_tests)
rem_fits (pos a) (negsuc b) h = let i : a < 2147483648 = grind (arith, nat_tests) in let j = rem_below a (suc b) i in grind (arith, nat_tests)
rem_fits (negsuc a) (pos b) h = neg_fits (suc a % b) (let i : a < 2147483648 = grind (arith, nat_tests) in let e = mod_le (suc a) b in omega arith)
rem_fits (negsuc a) (negsuc b) h = neg_fits (suc a % suc b) (let i : a < 2147483648 = grind (arith, nat_tests) in let e = mod_le (suc a) (suc b) in omega arith)

pub index_rem_fits : (a b : ℤ) → IsIndex a → IndexFits (index_rem a b)
unfolding index_rem
index_rem_fits a b h = unless_fits b (Ok (int_rem a b)) (rem_fits a b h)

index_has : (op : BinOp) (a b : ℤ) → FoundHas kind.Index (index_result op a b)
index_has Add a b = of_fitted_has (a +ℤ b)
index_has Sub a b = of_fitted_has (a -ℤ b)
index_has Mul a b = of_fitted_has (a *ℤ b)
index_has Div a b = of_index_has (index_div a b) (div_fits a b)

-- ---- words

pub below : (x : ℕ) → x % 2 ^ 64 < 2 ^ 64
below x = omega arith

ring_has : (op : BinOp) (a b : Dual) → FoundHas kind.Ring (ring_result op a b)
ring_has Add a b = below (a.value + b.value)
ring_has Sub a b = below (a.value + 18446744073709551615 * b.value)
ring_has Mul a b = below (a.value * b.value)
ring_has Div a b = tt

pub pow_below : (d : Dual) (n : ℕ) → (dual_pow d n).value < 2 ^ 64
pow_below d zero = omega arith
pow_below d (suc n) = below ((dual_pow d n).value * d.value)

pub grown_below : (ds : List (Bool × Dual)) (d : Dual) → d.value < 2 ^ 64 → (incremented_dual ds d).value < 2 ^ 64
grown_below [] d h = h
grown_below ((true, m) ∷ ds) d h = grown_below ds (dual_sub d m) (below (d.value + 18446744073709551615 * m.value))
grown_below ((false, m) ∷ ds) d h = grown_below ds (dual_add d m) (below (d.value + m.value))

word_below : (z : ℤ) → IsIndex z → cast_unsigned w64 z < 2 ^ 64
word_below (pos n) h = grind (arith, nat_tests)
word_below (negsuc n) h = grind (arith, nat_tests)

-- ---- operations

pub literal_has : (n : ℕ) (k : Kind) → literal_fits n k ≡ true → FoundHas k (literal_value n k)
literal_has n kind.Index h = of_fitted_has (pos n)
literal_has n kind.Ring h = grind (arith, nat_tests)

pub negated_has : (k : Kind) (v : Value) → HasKind k v → FoundHas k (negation_result v)
negated_has kind.Index (Index z) h = of_fitted_has (neg_ℤ z)
negated_has kind.Ring (Ring d) h = below (18446744073709551615 * d.value)
negated_has kind.Index (Ring d) h = absurd h
negated_has kind.Ring (Index z) h = absurd h

pub power_has : (k : Kind) (v : Value) (n : ℕ) → HasKind k v → FoundHas k (power_result v n)
power_has kind.Index (Index z) n h = of_fitted_has (int_pow z n)
power_has kind.Ring (Ring d) n h = pow_below d n
power_has kind.Index (Ring d) n h = absurd h
power_has kind.Ring (Index z) n h = absurd h

pub binary_has : (op : BinOp) (k j : Kind) (v w : Value) → HasKind k v → HasKind j w → FoundHas (wider_kind k j) (binary_result op v w)
binary_has op kind.Index kind.Index (Index a) (Index b) h g = index_has op a b
binary_has op kind.Index kind.Ring (Index a) (Ring b) h g = ring_has op (as_dual (Index a)) b
binary_has op kind.Ring kind.Index (Ring a) (Index b) h g = ring_has op a (as_dual (Index b))
binary_has op kind.Ring kind.Ring (Ring a) (Ring b) h g = ring_has op a b
binary_has op kind.Index j (Ring d) w h g = absurd h
binary_has op kind.Ring j (Index z) w h g = absurd h
binary_has op kind.Index kind.Index (Index a) (Ring e) h g = absurd g
binary_has op kind.Index kind.Ring (Index a) (Index b) h g = absurd g
binary_has op kind.Ring kind.Index (Ring a) (Ring e) h g = absurd g
binary_has op kind.Ring kind.Ring (Ring a) (Index b) h g = absurd g

pub index_value : (k : Kind) (v : Value) → is_index_kind k ≡ true → HasKind k v → IsIndexValue v
index_value kind.Index (Index z) e h = tt
index_value kind.Index (Ring d) e h = absurd h
index_value kind.Ring v e h = cc

pub are_operands : (op : BinOp) (k j : Kind) (v w : Value) → HasKind k v → HasKind j w → takes_operands op k j ≡ true → AreOperands op v w
are_operands Add k j v w h g t = tt
are_operands Sub k j v w h g t = tt
are_operands Mul k j v w h g t = tt
are_operands Div k j v w h g t = let p = and_parts (is_index_kind k) (is_index_kind j) t in (index_value k v p.0 h, index_value j w p.1 g)

if_has : (k : Kind) (b : Bool) (v w : Value) → HasKind k v → HasKind k w → HasKind k (if b then v else w)
if_has k true v w h g = h
if_has k false v w h g = g

absolute_has : (w : Width) (k : Kind) (v : Value) → HasKind k v → FoundHas k (absolute_result w v)
absolute_has w k v h = by_test (int_lt (rank w v) (pos 0))
  where
    by_test : (b : Bool) → FoundHas k (if b then negation_result v else Ok v)
    by_test true = negated_has k v h
    by_test false = h

remainder_has : (v w : Value) → HasKind kind.Index v → HasKind kind.Index w → FoundHas kind.Index (remainder v w)
remainder_has (Index a) (Index b) h g = of_index_has (index_rem a b) (index_rem_fits a b h)
remainder_has (Index a) (Ring b) h g = absurd g
remainder_has (Ring a) w h g = absurd h

-- what holds of the operation at one value of a kind, or two, holds at a list of them
at_one : (P : Found → Type 0) (f : Value → Found) (k : Kind) (vs : List Value) → HaveKinds (k ∷ []) vs → ((a : Value) → HasKind k a → P (f a)) → P (on_one f vs)
at_one P f k (a ∷ []) h g = g a h.0
at_one P f k [] h g = absurd h
at_one P f k (a ∷ b ∷ vs) h g = absurd h.1

at_two : (P : Found → Type 0) (f : Value → Value → Found) (k j : Kind) (vs : List Value) → HaveKinds (k ∷ j ∷ []) vs → ((a b : Value) → HasKind k a → HasKind j b → P (f a b)) → P (on_two f vs)
at_two P f k j (a ∷ b ∷ []) h g = g a b h.0 h.1.0
at_two P f k j [] h g = absurd h
at_two P f k j (a ∷ []) h g = absurd h.1
at_two P f k j (a ∷ b ∷ c ∷ vs) h g = absurd h.1.1

larger_has : (w : Width) (k j : Kind) (a b : Value) → same_kind k j ≡ true → HasKind k a → HasKind j b → FoundHas (widest_kind (k ∷ j ∷ [])) (larger_result w a b)
larger_has w kind.Index kind.Index a b e h g = if_has kind.Index (int_le (rank w b) (rank w a)) a b h g
larger_has w kind.Ring kind.Ring a b e h g = if_has kind.Ring (int_le (rank w b) (rank w a)) a b h g
larger_has w kind.Index kind.Ring a b e h g = cc
larger_has w kind.Ring kind.Index a b e h g = cc

smaller_has : (w : Width) (k j : Kind) (a b : Value) → same_kind k j ≡ true → HasKind k a → HasKind j b → FoundHas (widest_kind (k ∷ j ∷ [])) (smaller_result w a b)
smaller_has w kind.Index kind.Index a b e h g = if_has kind.Index (int_le (rank w a) (rank w b)) a b h g
smaller_has w kind.Ring kind.Ring a b e h g = if_has kind.Ring (int_le (rank w a) (rank w b)) a b h g
smaller_has w kind.Index kind.Ring a b e h g = cc
smaller_has w kind.Ring kind.Index a b e h g = cc

divided_has : (k j : Kind) (a b : Value) → (is_index_kind k && is_index_kind j) ≡ true → HasKind k a → HasKind j b → FoundHas (widest_kind (k ∷ j ∷ [])) (remainder a b)
divided_has kind.Index kind.Index a b e h g = remainder_has a b h g
divided_has kind.Index kind.Ring a b e h g = cc
divided_has kind.Ring j a b e h g = cc

alone_has : (w : Width) (k : Kind) (a : Value) → HasKind k a → FoundHas (widest_kind (k ∷ [])) (absolute_result w a)
alone_has w kind.Index a h = absolute_has w kind.Index a h
alone_has w kind.Ring a h = absolute_has w kind.Ring a h

pub call_has : (w : Width) (f : Fun) (ks : List Kind) (vs : List Value) → HaveKinds ks vs → takes_arguments f ks ≡ true → FoundHas (widest_kind ks) (call_result w f vs)
call_has w Max (k ∷ j ∷ []) vs h t = at_two (FoundHas (widest_kind (k ∷ j ∷ []))) (larger_result w) k j vs h (λ a b. larger_has w k j a b t)
call_has w Min (k ∷ j ∷ []) vs h t = at_two (FoundHas (widest_kind (k ∷ j ∷ []))) (smaller_result w) k j vs h (λ a b. smaller_has w k j a b t)
call_has w Mod (k ∷ j ∷ []) vs h t = at_two (FoundHas (widest_kind (k ∷ j ∷ []))) remainder k j vs h (λ a b. divided_has k j a b t)
call_has w Abs (k ∷ []) vs h t = at_one (FoundHas (widest_kind (k ∷ []))) (absolute_result w) k vs h (λ a. alone_has w k a)
call_has w _ _ vs h t = cc

one_kind : (k j : Kind) (a b : Value) → same_kind k j ≡ true → HasKind k a → HasKind j b → AreOfOneKind a b
one_kind kind.Index kind.Index (Index x) (Index y) e h g = tt
one_kind kind.Ring kind.Ring (Ring x) (Ring y) e h g = tt
one_kind kind.Index kind.Ring a b e h g = cc
one_kind kind.Ring kind.Index a b e h g = cc
one_kind kind.Index kind.Index (Ring x) b e h g = absurd h
one_kind kind.Index kind.Index (Index x) (Ring y) e h g = absurd g
one_kind kind.Ring kind.Ring (Index x) b e h g = absurd h
one_kind kind.Ring kind.Ring (Ring x) (Index y) e h g = absurd g

two_values : (P : List Value → Type 0) (k j : Kind) (vs : List Value) → HaveKinds (k ∷ j ∷ []) vs → ((a b : Value) → HasKind k a → HasKind j b → P (a ∷ b ∷ [])) → P vs
two_values P k j (a ∷ b ∷ []) h g = g a b h.0 h.1.0
two_values P k j [] h g = absurd h
two_values P k j (a ∷ []) h g = absurd h.1
two_values P k j (a ∷ b ∷ c ∷ vs) h g = absurd h.1.1

one_value : (P : List Value → Type 0) (k : Kind) (vs : List Value) → HaveKinds (k ∷ []) vs → ((a : Value) → HasKind k a → P (a ∷ [])) → P vs
one_value P k (a ∷ []) h g = g a h.0
one_value P k [] h g = absurd h
one_value P k (a ∷ b ∷ vs) h g = absurd h.1

pub are_arguments : (f : Fun) (ks : List Kind) (vs : List Value) → HaveKinds ks vs → takes_arguments f ks ≡ true → AreArguments f vs
are_arguments Max (k ∷ j ∷ []) vs h t = two_values (AreArguments Max) k j vs h (λ a b. one_kind k j a b t)
are_arguments Min (k ∷ j ∷ []) vs h t = two_values (AreArguments Min) k j vs h (λ a b. one_kind k j a b t)
are_arguments Mod (k ∷ j ∷ []) vs h t = two_values (AreArguments Mod) k j vs h (λ a b x y. let p = and_parts (is_index_kind k) (is_index_kind j) t in (index_value k a p.0 x, index_value j b p.1 y))
are_arguments Abs (k ∷ []) vs h t = one_value (AreArguments Abs) k vs h (λ a x. tt)
are_arguments _ _ vs h t = cc

-- ---- stores

-- a value that is store_at has the kind of the name
pub converted_has : (k j : Kind) (v : Value) → takes_value k j ≡ true → HasKind j v → HasKind k (as_kind k v)
converted_has kind.Ring kind.Index (Index z) t h = word_below z h
converted_has kind.Ring kind.Ring (Ring d) t h = h
converted_has kind.Index kind.Index (Index z) t h = h
converted_has kind.Index kind.Ring v t h = cc
converted_has kind.Index kind.Index (Ring d) t h = absurd h
converted_has kind.Ring kind.Index (Ring d) t h = absurd h
converted_has kind.Ring kind.Ring (Index z) t h = absurd h

pub index_whole : (k : Kind) (v : Value) → is_index_kind k ≡ true → HasKind k v → IsIndex (whole_number v)
index_whole kind.Index (Index z) e h = h
index_whole kind.Index (Ring d) e h = absurd h
index_whole kind.Ring v e h = cc
