-- Numbers of iterations, and of turns.
use Rattle.std.specs.Prelude.{◌≡◌, ℕ, zero, suc, ◌<◌, ◌*◌, ◌/◌, ℤ, pos, negsuc, neg_ℤ, int_div}
use Rattle.std.proofs.Common.{ap, arith}
use Rattle.std.proofs.Math.Nat.{div-lt_iff_lt-mul}
use Rattle.store_core.specs.Bounds.{clipped}

pub some_room : (k a b : ℕ) → k < a * b → 0 < b
some_room k a zero h = absurd (omega arith)
some_room k a (suc b) h = omega arith

pub quotient : (k a b : ℕ) → k < a * b → k / b < a
quotient k a b h = (div-lt_iff_lt-mul {k = b} {x = k} {y = a} (some_room k a b h)).1 h

pub ruleset quotients = (quotient, some_room)

by_none : (n : ℕ) → n / 0 ≡ 0
by_none n = omega arith

-- a step of 0 makes no turns
pub no_turns : (d : ℤ) → clipped (int_div d (pos 0)) ≡ 0
no_turns (pos n) = by_none n
no_turns (negsuc n) = ap (λ m. clipped (neg_ℤ (pos m))) (by_none (suc n))
