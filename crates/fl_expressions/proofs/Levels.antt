-- The reader of expressions in brackets, one level down.
use Rattle.std.proofs.Common.{◌≡◌, ℕ, zero, suc, ◌-◌, ◌<◌, nat_lt, true, refl, sym, ap, arith}
use Rattle.std.proofs.lemmas.Bool.Decides.{nat_tests}
use Rattle.parsing.specs.Limit.{Limit}
use Rattle.parsing.specs.Reading.{Lexemes}
use Rattle.fl_expressions.specs.ExprReading as spec

some : (b : ℕ) → nat_lt 0 (suc b) ≡ true
some b = grind (arith, nat_tests)

pub level_of : (b : ℕ) (d : Limit) (ts : Lexemes) → spec.expr b d ts ≡ spec.sum (nat_lt 0 b) (spec.below b) d ts
unfolding spec.expr spec.below
level_of zero d ts = refl
level_of (suc b) d ts = ap (λ r. spec.sum r (spec.expr b) d ts) (sym (some b))

pub below_of : (b : ℕ) (d : Limit) (ts : Lexemes) → 0 < b → spec.below b d ts ≡ spec.expr (b - 1) d ts
unfolding spec.below
below_of zero d ts h = absurd (omega arith)
below_of (suc b) d ts h = let e : b ≡ suc b - 1 = omega arith in ap (λ n. spec.expr n d ts) e
