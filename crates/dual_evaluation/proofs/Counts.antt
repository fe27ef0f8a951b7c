-- How often a loop runs.
use Rattle.std.specs.Ordering.{int_eq}
use Rattle.std.specs.Cmp.{signed_Decides}
use Rattle.std.specs.Prelude.{◌≡◌, ◌≢◌, ◌+ℤ◌, ◌-ℤ◌, ◌*ℤ◌, Bool, true, false, Ok, ℕ, zero, suc, ◌/◌, ◌<◌, ℤ, pos, negsuc, ◌<ℤ◌, ◌≤ℤ◌, int_div, refl}
use Rattle.std.proofs.Common.{arith, sym, subst, w32, SFits, to_z, of_z}
use Rattle.std.proofs.lemmas.Int.{to_z-of_z}
use Rattle.std.proofs.lemmas.Bool.Decides.{nat_tests}
use Rattle.std.proofs.lemmas.Int.{ints}
use Rattle.std.specs.Prelude.{unsigned_abs}
use Rattle.store_core.specs.Bounds.{clipped}
use Rattle.meaning.specs.declared.value.IterationCount.{IterationCount}
use Rattle.ring_core.specs.Index.{fits_index}
use Rattle.meaning.specs.Statements.{turns_by, value_at}
use Rattle.dual_evaluation.specs.Assignments.{IsCounted}
use Rattle.meaning.proofs.Variables.{clipped_neg, variables_fit}

pub down : (a d : ℤ) → a <ℤ pos 0 → d <ℤ pos 0 → unsigned_abs a / unsigned_abs d ≡ clipped (int_div a d)
down (negsuc m) (negsuc s) h g = refl
down (pos m) d h g = absurd (omega (arith, ints))
down a (pos s) h g = absurd (omega (arith, ints))

pub up : (a d : ℤ) → pos 0 ≤ℤ a → d ≢ pos 0 → pos 0 ≤ℤ d → unsigned_abs a / unsigned_abs d ≡ clipped (int_div a d)
up (pos m) (pos (suc s)) h n g = refl
up (pos m) (pos zero) h n g = absurd (n refl)
up (negsuc m) d h n g = absurd (omega (arith, ints))
up (pos m) (negsuc s) h n g = absurd (omega (arith, ints))

pub away : (a d : ℤ) → pos 0 ≤ℤ a → d <ℤ pos 0 → clipped (int_div a d) ≡ 0
away (pos m) (negsuc s) h g = clipped_neg (m / suc s)
away (negsuc m) d h g = absurd (omega (arith, ints))
away (pos m) (pos s) h g = absurd (omega (arith, ints))

pub past : (a d : ℤ) → a <ℤ pos 0 → d ≢ pos 0 → pos 0 ≤ℤ d → clipped (int_div a d) ≡ 0
past (negsuc m) (pos (suc s)) h n g = clipped_neg (suc m / suc s)
past (negsuc m) (pos zero) h n g = absurd (n refl)
past (pos m) d h n g = absurd (omega (arith, ints))
past (negsuc m) (negsuc s) h n g = absurd (omega (arith, ints))

pub ruleset counts = (down, up, away, past)

unless_zero : (first last step : ℤ) (b : Bool) → int_eq step (pos 0) ≡ b → step ≢ pos 0
    → (turns_by first last step).out ≡ Ok (record { first = first; last = last; step = step; count = clipped (int_div ((last -ℤ first) +ℤ step) step) })
unless_zero first last step true e n = absurd (n ((signed_Decides step (pos 0)).0 e))
unless_zero first last step false e n = rw e refl

pub turns_when : (first last step : ℤ) → step ≢ pos 0
    → (turns_by first last step).out ≡ Ok (record { first = first; last = last; step = step; count = clipped (int_div ((last -ℤ first) +ℤ step) step) })
turns_when first last step n = unless_zero first last step (int_eq step (pos 0)) refl n

pub in_range : (z : ℤ) → SFits w32 z → fits_index z ≡ true
in_range (pos n) h = let b : n < 2147483648 = h.sfits in grind (arith, nat_tests)
in_range (negsuc n) h = let b : n < 2147483648 = h.sfits in grind (arith, nat_tests)

pub from_range : (z : ℤ) → fits_index z ≡ true → SFits w32 z
from_range (pos n) e = let b : n < 2147483648 = grind (arith, nat_tests) in record { sfits = b }
from_range (negsuc n) e = let b : n < 2147483648 = grind (arith, nat_tests) in record { sfits = b }

-- a turn's value is of the index kind
pub value_fits : (t : IterationCount) (k : ℕ) → IsCounted t → k < t.count → fits_index (value_at t k) ≡ true
value_fits t k c l = variables_fit t.first t.last t.step k c.first c.last (subst (λ n. k < n) c.count l)

-- as the code computes it
pub computed : (first step : ℤ) (k : ℕ) → fits_index first ≡ true → fits_index step ≡ true
    → to_z w32 (of_z w32 first) +ℤ (pos k *ℤ to_z w32 (of_z w32 step)) ≡ first +ℤ (pos k *ℤ step)
computed first step k f g = rw (to_z-of_z w32 first (from_range first f), to_z-of_z w32 step (from_range step g)) refl

pub worded : (z : ℤ) → SFits w32 z → fits_index (to_z w32 (of_z w32 z)) ≡ true
worded z f = subst (λ y. fits_index y ≡ true) (sym (to_z-of_z w32 z f)) (in_range z f)
