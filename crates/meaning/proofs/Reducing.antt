-- Operations on data give what is left of their operands at a width.
use Rattle.std.specs.Prelude.{◌≡◌, ℕ, zero, suc, ◌+◌, ◌*◌, ◌^◌, ◌%◌, ◌<◌, [], ◌∷◌, Option, Some, None, Bool, true, false, if◌then◌else◌, ℤ, pos, int_le, int_lt, Ok, refl}
use Rattle.std.specs.Int.{w8, w16, w64, cast_signed, cast_unsigned}
use Rattle.std.proofs.Common.{ap, sym, ◌∙◌, arith}
use Rattle.ring_core.specs.declared.ring.Width.{Width}
use Rattle.ring_core.specs.declared.ring.Width.TheVariants.{Bits8, Bits16, Bits64}
use Rattle.ring_core.specs.Ring.{ring_add, ring_sub, ring_mul, ring_neg, modulus, signed_at}
use Rattle.ring_core.proofs.Modular.{modular}
use Rattle.fl_ast.specs.declared.kind.BinOp.{BinOp}
use Rattle.fl_ast.specs.declared.kind.BinOp.TheVariants.{Add, Sub, Mul, Div}
use Rattle.meaning.specs.declared.value.Dual.{Dual}
use Rattle.meaning.specs.declared.value.Value.{Value}
use Rattle.meaning.specs.declared.value.Value.TheVariants.{Index, Ring}
use Rattle.meaning.specs.Values.{Found, dual_add, dual_sub, dual_neg, dual_mul, dual_pow, as_dual, rank, ranks, ring_result, binary_result, negation_result, power_result, larger_result, smaller_result, absolute_result, compares}
use Rattle.meaning.specs.Sites.{Cells}
use Rattle.meaning.specs.Widths.{reduced_dual, reduced_value, reduced_found, reduced_cell, reduced_cells, OperationsRespect, WidthsAreRespected, IsWordCell, WordsAreResidues}

-- what is asked of a width: its modulus divides 2^64, and numbers are compared by what is left of them
pub record Narrow (w : Width) : Type 0 where
  pub divides : (x : ℕ) → (x % 2 ^ 64) % modulus w ≡ x % modulus w
  pub signs : (a b : ℕ) → a % modulus w ≡ b % modulus w → signed_at w a ≡ signed_at w b

narrow_8 : Narrow Bits8
narrow_8 = record { divides = λ x. omega arith; signs = λ a b e. ap (cast_signed w8) e }

narrow_16 : Narrow Bits16
narrow_16 = record { divides = λ x. omega arith; signs = λ a b e. ap (cast_signed w16) e }

narrow_64 : Narrow Bits64
narrow_64 = record { divides = λ x. omega arith; signs = λ a b e. ap (cast_signed w64) e }

pub narrow : (w : Width) → Narrow w
narrow Bits8 = narrow_8
narrow Bits16 = narrow_16
narrow Bits64 = narrow_64

abbrev pub Same : Width → ℕ → ℕ → Type 0
Same w a b = a % modulus w ≡ b % modulus w

add_parts : (m a b : ℕ) → (a % m + b % m) % m ≡ (a + b) % m
add_parts m a b = simp modular refl

mul_parts : (m a b : ℕ) → (a % m * (b % m)) % m ≡ (a * b) % m
mul_parts m a b = simp modular refl

plain_add : (m a b c d : ℕ) → a % m ≡ b % m → c % m ≡ d % m → (a + c) % m ≡ (b + d) % m
plain_add m a b c d e f = sym (add_parts m a c) ∙ (ap (λ (x : ℕ). (x + c % m) % m) e ∙ ap (λ (x : ℕ). (b % m + x) % m) f) ∙ add_parts m b d

plain_mul : (m a b c d : ℕ) → a % m ≡ b % m → c % m ≡ d % m → (a * c) % m ≡ (b * d) % m
plain_mul m a b c d e f = sym (mul_parts m a c) ∙ (ap (λ (x : ℕ). (x * (c % m)) % m) e ∙ ap (λ (x : ℕ). (b % m * x) % m) f) ∙ mul_parts m b d

add_same : (w : Width) → Narrow w → (a b c d : ℕ) → Same w a b → Same w c d → Same w (ring_add a c) (ring_add b d)
add_same w k a b c d e f = k.divides (a + c) ∙ plain_add (modulus w) a b c d e f ∙ sym (k.divides (b + d))

mul_same : (w : Width) → Narrow w → (a b c d : ℕ) → Same w a b → Same w c d → Same w (ring_mul a c) (ring_mul b d)
mul_same w k a b c d e f = k.divides (a * c) ∙ plain_mul (modulus w) a b c d e f ∙ sym (k.divides (b * d))

neg_same : (w : Width) → Narrow w → (a b : ℕ) → Same w a b → Same w (ring_neg a) (ring_neg b)
neg_same w k a b e = mul_same w k 18446744073709551615 18446744073709551615 a b refl e

sub_same : (w : Width) → Narrow w → (a b c d : ℕ) → Same w a b → Same w c d → Same w (ring_sub a c) (ring_sub b d)
sub_same w k a b c d e f =
    k.divides (a + 18446744073709551615 * c)
    ∙ plain_add (modulus w) a b (18446744073709551615 * c) (18446744073709551615 * d) e (plain_mul (modulus w) 18446744073709551615 18446744073709551615 c d refl f)
    ∙ sym (k.divides (b + 18446744073709551615 * d))

-- ---- duals

pub record SameDual (w : Width) (a b : Dual) : Type 0 where
  pub value : Same w a.value b.value
  pub tangent : Same w a.tangent b.tangent

pub dual_same : (w : Width) (a b : Dual) → SameDual w a b → reduced_dual w a ≡ reduced_dual w b
dual_same w a b h = rw (h.value, h.tangent) refl

pub add_duals : (w : Width) → Narrow w → (a b c d : Dual) → SameDual w a b → SameDual w c d → SameDual w (dual_add a c) (dual_add b d)
add_duals w k a b c d h g = record { value = add_same w k _ _ _ _ h.value g.value; tangent = add_same w k _ _ _ _ h.tangent g.tangent }

pub sub_duals : (w : Width) → Narrow w → (a b c d : Dual) → SameDual w a b → SameDual w c d → SameDual w (dual_sub a c) (dual_sub b d)
sub_duals w k a b c d h g = record { value = sub_same w k _ _ _ _ h.value g.value; tangent = sub_same w k _ _ _ _ h.tangent g.tangent }

neg_duals : (w : Width) → Narrow w → (a b : Dual) → SameDual w a b → SameDual w (dual_neg a) (dual_neg b)
neg_duals w k a b h = record { value = neg_same w k _ _ h.value; tangent = neg_same w k _ _ h.tangent }

mul_duals : (w : Width) → Narrow w → (a b c d : Dual) → SameDual w a b → SameDual w c d → SameDual w (dual_mul a c) (dual_mul b d)
mul_duals w k a b c d h g = record {
  value = mul_same w k _ _ _ _ h.value g.value;
  tangent = add_same w k _ _ _ _ (mul_same w k _ _ _ _ h.value g.tangent) (mul_same w k _ _ _ _ h.tangent g.value);
}

pow_duals : (w : Width) → Narrow w → (n : ℕ) (a b : Dual) → SameDual w a b → SameDual w (dual_pow a n) (dual_pow b n)
pow_duals w k zero a b h = record { value = refl; tangent = refl }
pow_duals w k (suc n) a b h = mul_duals w k _ _ _ _ (pow_duals w k n a b h) h

-- ---- values

abbrev pub SameValue : Width → Value → Value → Type 0
SameValue w (Index x) (Index y) = x ≡ y
SameValue w (Ring a) (Ring b) = SameDual w a b
SameValue w (Index x) (Ring b) = ⊥
SameValue w (Ring a) (Index y) = ⊥

pub same_of : (w : Width) (a b : Value) → reduced_value w a ≡ reduced_value w b → SameValue w a b
same_of w (Index x) (Index y) e = let q : x ≡ y = cc in q
same_of w (Ring a) (Ring b) e = record { value = ap (λ v. (as_dual v).value) e; tangent = ap (λ v. (as_dual v).tangent) e }
same_of w (Index x) (Ring b) e = absurd (cc)
same_of w (Ring a) (Index y) e = absurd (cc)

pub as_same : (w : Width) (a b : Value) → SameValue w a b → SameDual w (as_dual a) (as_dual b)
as_same w (Index x) (Index y) h = rw h (record { value = refl; tangent = refl })
as_same w (Ring a) (Ring b) h = h
as_same w (Index x) (Ring b) h = absurd h
as_same w (Ring a) (Index y) h = absurd h

pub value_same : (w : Width) (a b : Value) → SameValue w a b → reduced_value w a ≡ reduced_value w b
value_same w (Index x) (Index y) h = ap Index h
value_same w (Ring a) (Ring b) h = ap Ring (dual_same w a b h)
value_same w (Index x) (Ring b) h = absurd h
value_same w (Ring a) (Index y) h = absurd h

ring_ops : (w : Width) → Narrow w → (op : BinOp) (a b c d : Dual) → SameDual w a b → SameDual w c d → reduced_found w (ring_result op a c) ≡ reduced_found w (ring_result op b d)
ring_ops w k Add a b c d h g = ap (λ x. Ok (Ring x)) (dual_same w _ _ (add_duals w k a b c d h g))
ring_ops w k Sub a b c d h g = ap (λ x. Ok (Ring x)) (dual_same w _ _ (sub_duals w k a b c d h g))
ring_ops w k Mul a b c d h g = ap (λ x. Ok (Ring x)) (dual_same w _ _ (mul_duals w k a b c d h g))
ring_ops w k Div a b c d h g = refl

pub binary_same : (w : Width) → Narrow w → (op : BinOp) (a b c d : Value) → SameValue w a b → SameValue w c d → reduced_found w (binary_result op a c) ≡ reduced_found w (binary_result op b d)
binary_same w k op (Index x) (Index y) (Index z) (Index t) h g = rw (h, g) refl
binary_same w k op (Index x) (Index y) (Ring c) (Ring d) h g = ring_ops w k op _ _ c d (as_same w (Index x) (Index y) h) g
binary_same w k op (Ring a) (Ring b) (Index z) (Index t) h g = ring_ops w k op a b _ _ h (as_same w (Index z) (Index t) g)
binary_same w k op (Ring a) (Ring b) (Ring c) (Ring d) h g = ring_ops w k op a b c d h g
binary_same w k op (Index x) (Index y) (Index z) (Ring d) h g = absurd g
binary_same w k op (Index x) (Index y) (Ring c) (Index t) h g = absurd g
binary_same w k op (Ring a) (Ring b) (Index z) (Ring d) h g = absurd g
binary_same w k op (Ring a) (Ring b) (Ring c) (Index t) h g = absurd g
binary_same w k op (Index x) (Ring b) c d h g = absurd h
binary_same w k op (Ring a) (Index y) c d h g = absurd h

pub negated_same : (w : Width) → Narrow w → (a b : Value) → SameValue w a b → reduced_found w (negation_result a) ≡ reduced_found w (negation_result b)
negated_same w k (Index x) (Index y) h = rw h refl
negated_same w k (Ring a) (Ring b) h = ap (λ x. Ok (Ring x)) (dual_same w _ _ (neg_duals w k a b h))
negated_same w k (Index x) (Ring b) h = absurd h
negated_same w k (Ring a) (Index y) h = absurd h

pub power_same : (w : Width) → Narrow w → (a b : Value) (n : ℕ) → SameValue w a b → reduced_found w (power_result a n) ≡ reduced_found w (power_result b n)
power_same w k (Index x) (Index y) n h = rw h refl
power_same w k (Ring a) (Ring b) n h = ap (λ x. Ok (Ring x)) (dual_same w _ _ (pow_duals w k n a b h))
power_same w k (Index x) (Ring b) n h = absurd h
power_same w k (Ring a) (Index y) n h = absurd h

rank_same : (w : Width) → Narrow w → (a b : Value) → SameValue w a b → rank w a ≡ rank w b
rank_same w k (Index x) (Index y) h = h
rank_same w k (Ring a) (Ring b) h = k.signs a.value b.value h.value
rank_same w k (Index x) (Ring b) h = absurd h
rank_same w k (Ring a) (Index y) h = absurd h

pub ranks_same : (w : Width) → Narrow w → (a b c d : Value) → SameValue w a b → SameValue w c d → ranks w a c ≡ ranks w b d
ranks_same w k (Index x) (Index y) (Index z) (Index t) h g = rw (h, g) refl
ranks_same w k (Index x) (Index y) (Ring c) (Ring d) h g = rw h (ap (λ (n : ℤ). (signed_at w (cast_unsigned w64 y), n)) (k.signs c.value d.value g.value))
ranks_same w k (Ring a) (Ring b) (Index z) (Index t) h g = rw g (ap (λ (n : ℤ). (n, signed_at w (cast_unsigned w64 t))) (k.signs a.value b.value h.value))
ranks_same w k (Ring a) (Ring b) (Ring c) (Ring d) h g =
    ap (λ (n : ℤ). (n, signed_at w c.value)) (k.signs a.value b.value h.value) ∙ ap (λ (n : ℤ). (signed_at w b.value, n)) (k.signs c.value d.value g.value)
ranks_same w k (Index x) (Index y) (Index z) (Ring d) h g = absurd g
ranks_same w k (Index x) (Index y) (Ring c) (Index t) h g = absurd g
ranks_same w k (Ring a) (Ring b) (Index z) (Ring d) h g = absurd g
ranks_same w k (Ring a) (Ring b) (Ring c) (Index t) h g = absurd g
ranks_same w k (Index x) (Ring b) c d h g = absurd h
ranks_same w k (Ring a) (Index y) c d h g = absurd h

pick : (w : Width) (t : Bool) (a b c d : Value) → reduced_value w a ≡ reduced_value w b → reduced_value w c ≡ reduced_value w d → reduced_found w (Ok (if t then a else c)) ≡ reduced_found w (Ok (if t then b else d))
pick w true a b c d h g = ap Ok h
pick w false a b c d h g = ap Ok g

pick_found : (w : Width) (t : Bool) (a b c d : Found) → reduced_found w a ≡ reduced_found w b → reduced_found w c ≡ reduced_found w d → reduced_found w (if t then a else c) ≡ reduced_found w (if t then b else d)
pick_found w true a b c d h g = h
pick_found w false a b c d h g = g

pub larger_same : (w : Width) → Narrow w → (a b c d : Value) → reduced_value w a ≡ reduced_value w b → reduced_value w c ≡ reduced_value w d → reduced_found w (larger_result w a c) ≡ reduced_found w (larger_result w b d)
larger_same w k a b c d h g =
    rw (rank_same w k a b (same_of w a b h), rank_same w k c d (same_of w c d g)) (pick w (int_le (rank w d) (rank w b)) a b c d h g)

pub smaller_same : (w : Width) → Narrow w → (a b c d : Value) → reduced_value w a ≡ reduced_value w b → reduced_value w c ≡ reduced_value w d → reduced_found w (smaller_result w a c) ≡ reduced_found w (smaller_result w b d)
smaller_same w k a b c d h g =
    rw (rank_same w k a b (same_of w a b h), rank_same w k c d (same_of w c d g)) (pick w (int_le (rank w b) (rank w d)) a b c d h g)

pub absolute_same : (w : Width) → Narrow w → (a b : Value) → reduced_value w a ≡ reduced_value w b → reduced_found w (absolute_result w a) ≡ reduced_found w (absolute_result w b)
absolute_same w k a b h =
    rw (rank_same w k a b (same_of w a b h)) (pick_found w (int_lt (rank w b) (pos 0)) (negation_result a) (negation_result b) (Ok a) (Ok b) (negated_same w k a b (same_of w a b h)) (ap Ok h))

respect : (w : Width) → Narrow w → OperationsRespect w
respect w k = record {
  binary = λ op a b c d h g. binary_same w k op a b c d (same_of w a b h) (same_of w c d g);
  negation = λ a b h. negated_same w k a b (same_of w a b h);
  power = λ a b n h. power_same w k a b n (same_of w a b h);
  relation = λ op a b c d h g. ap (λ (r : ℤ × ℤ). compares op r.0 r.1) (ranks_same w k a b c d (same_of w a b h) (same_of w c d g));
  larger_value = λ a b c d h g. larger_same w k a b c d h g;
  smaller_value = λ a b c d h g. smaller_same w k a b c d h g;
  absolute_value = λ a b h. absolute_same w k a b h;
}

pub widths_respected : WidthsAreRespected
widths_respected = λ w. respect w (narrow w)

small_word : (n : ℕ) → n < 2 ^ 64 → n % 18446744073709551616 ≡ n
small_word n h = omega arith

cell_residue : (o : Option Value) → IsWordCell o → reduced_cell Bits64 o ≡ o
cell_residue None h = refl
cell_residue (Some (Index z)) h = refl
cell_residue (Some (Ring d)) h = ap (λ (v : ℕ). Some (Ring (record { value = v; tangent = d.tangent % 18446744073709551616 }))) (small_word d.value h.0)
    ∙ ap (λ (t : ℕ). Some (Ring (record { value = d.value; tangent = t }))) (small_word d.tangent h.1)

pub words_are_residues : WordsAreResidues
words_are_residues [] h = refl
words_are_residues (c ∷ cs) h = ap (λ (d : Option Value). d ∷ reduced_cells Bits64 cs) (cell_residue c h.0) ∙ ap (λ (ds : Cells). c ∷ ds) (words_are_residues cs h.1)
