-- The reader of what stands in brackets, one level down.
use Rattle.std.proofs.Common.{◌≡◌, ℕ, zero, suc, ◌-◌, ◌<◌, refl, ap, arith}
use Rattle.parsing.specs.Limit.{Limit}
use Rattle.parsing.specs.Reading.{Lexemes}
use Rattle.fl_conditions.specs.CondReading as spec

pub level_of : (b : ℕ) (d : Limit) (ts : Lexemes) → spec.mixed b d ts ≡ spec.mixture b (spec.below_mixed b) d ts
unfolding spec.mixed spec.below_mixed
level_of zero d ts = refl
level_of (suc b) d ts = refl

pub below_of : (b : ℕ) (d : Limit) (ts : Lexemes) → 0 < b → spec.below_mixed b d ts ≡ spec.mixed (b - 1) d ts
unfolding spec.below_mixed
below_of zero d ts h = absurd (omega arith)
below_of (suc b) d ts h = let e : b ≡ suc b - 1 = omega arith in ap (λ n. spec.mixed n d ts) e
