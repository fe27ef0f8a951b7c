-- The last turn of a loop.
use Rattle.std.proofs.Common.{◌≡◌, ℕ, zero, suc, ◌/◌, ◌<◌, true, false, ℤ, pos, negsuc, ◌-ℤ◌, int_lt, int_le, unsigned_abs, Some, None, refl, ap, arith}
use Rattle.loop_scenes.specs.Turns.{last_turn}

pub no_turn : (a b c : ℤ) → int_lt b a ≡ true → None ≡ last_turn a b c
no_turn a b c h = rw h refl

pub no_step : (a b c : ℤ) → int_lt b a ≡ false → int_le c (pos 0) ≡ true → None ≡ last_turn a b c
no_step a b c h g = rw (h, g) refl

pub turning : (a b c : ℤ) (n : ℕ) → int_lt b a ≡ false → int_le c (pos 0) ≡ false → n ≡ unsigned_abs (b -ℤ a) / unsigned_abs c → Some n ≡ last_turn a b c
turning a b c n h g e = rw (h, g) (ap Some e)

pub positive : (c : ℤ) → int_le c (pos 0) ≡ false → 0 < unsigned_abs c
positive (pos zero) h = cc
positive (pos (suc n)) h = omega arith
positive (negsuc n) h = omega arith
