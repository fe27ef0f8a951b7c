-- The variable of a loop stays between its bounds.
use Rattle.std.specs.Prelude.{◌≡◌, ℕ, zero, suc, ◌+◌, ◌*◌, ◌/◌, ◌<◌, ◌≤◌, ℤ, pos, negsuc, ◌+ℤ◌, ◌-ℤ◌, ◌≤ℤ◌, neg_ℤ, int_div, true, refl}
use Rattle.std.proofs.Common.{subst, arith}
use Rattle.std.proofs.lemmas.Int.{ints}
use Rattle.std.proofs.lemmas.Bool.Decides.{nat_tests}
use Rattle.std.proofs.Math.Nat.{mul-le-mul_left}
use Rattle.ring_core.specs.Index.{fits_index}
use Rattle.store_core.specs.Bounds.{clipped}
use Rattle.meaning.specs.Laws.{VariablesFit}

between : (a v b : ℤ) → fits_index a ≡ true → fits_index b ≡ true → a ≤ℤ v → v ≤ℤ b → fits_index v ≡ true
between a (pos n) (pos m) h g l u = grind (arith, ints, nat_tests)
between a (pos n) (negsuc m) h g l u = absurd (omega (arith, ints))
between (negsuc m) (negsuc n) b h g l u = grind (arith, ints, nat_tests)
between (pos m) (negsuc n) b h g l u = absurd (omega (arith, ints))

pub clipped_neg : (q : ℕ) → clipped (neg_ℤ (pos q)) ≡ 0
clipped_neg zero = refl
clipped_neg (suc q) = refl

within_pos : (m s k : ℕ) → k < m / suc s → k * suc s + suc s ≤ m
within_pos m s k h =
    let more : suc k ≤ m / suc s = omega arith in
    omega (arith, mul-le-mul_left (suc s) more)

rises : (a b v : ℤ) (m p s : ℕ) → (b -ℤ a) +ℤ pos (suc s) ≡ pos m → p + suc s ≤ m → v ≡ a +ℤ pos p → (a ≤ℤ v) × (v ≤ℤ b)
rises a b v m p s e h f = (omega (arith, ints), omega (arith, ints))

falls : (a b v : ℤ) (m p s : ℕ) → (b -ℤ a) +ℤ negsuc s ≡ negsuc m → p + suc s ≤ suc m → v ≡ a +ℤ neg_ℤ (pos p) → (b ≤ℤ v) × (v ≤ℤ a)
falls a b v m p s e h f = (omega (arith, ints), omega (arith, ints))

pub variables_fit : VariablesFit
variables_fit first last (pos zero) k f g h =
    let e : first ≡ first +ℤ pos (k * 0) = omega (arith, ints) in
    let P : ℤ → Type 0 = λ z. fits_index z ≡ true in subst P e f
variables_fit first last (pos (suc s)) k f g h = by_sum ((last -ℤ first) +ℤ pos (suc s)) refl h
  where
    up : (m : ℕ) → (first ≤ℤ (first +ℤ pos (k * suc s))) × ((first +ℤ pos (k * suc s)) ≤ℤ last) → fits_index (first +ℤ pos (k * suc s)) ≡ true
    up m r = between first _ last f g r.0 r.1

    by_sum : (d : ℤ) → (last -ℤ first) +ℤ pos (suc s) ≡ d → k < clipped (int_div d (pos (suc s))) → fits_index (first +ℤ pos (k * suc s)) ≡ true
    by_sum (pos m) e l = up m (rises first last _ m (k * suc s) s e (within_pos m s k l) refl)
    by_sum (negsuc m) e l = let z : clipped (neg_ℤ (pos (suc m / suc s))) ≡ 0 = clipped_neg (suc m / suc s) in absurd (omega (arith, z, l))
variables_fit first last (negsuc s) k f g h = by_sum ((last -ℤ first) +ℤ negsuc s) refl h
  where
    down : (last ≤ℤ (first +ℤ neg_ℤ (pos (k * suc s)))) × ((first +ℤ neg_ℤ (pos (k * suc s))) ≤ℤ first) → fits_index (first +ℤ neg_ℤ (pos (k * suc s))) ≡ true
    down r = between last _ first g f r.0 r.1

    by_sum : (d : ℤ) → (last -ℤ first) +ℤ negsuc s ≡ d → k < clipped (int_div d (negsuc s)) → fits_index (first +ℤ neg_ℤ (pos (k * suc s))) ≡ true
    by_sum (negsuc m) e l = down (falls first last _ m (k * suc s) s e (within_pos (suc m) s k l) refl)
    by_sum (pos m) e l = let z : clipped (neg_ℤ (pos (m / suc s))) ≡ 0 = clipped_neg (m / suc s) in absurd (omega (arith, z, l))
