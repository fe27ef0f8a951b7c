-- The reader of expressions in brackets, one level down.
use Rattle.std.proofs.Common.{◌≡◌, ℕ, zero, suc, ◌-◌, ◌<◌, refl, ap, arith}
use Rattle.parsing.specs.Limit.{Limit}
use Rattle.parsing.specs.Reading.{Lexemes}
use Rattle.adjoint_expressions.specs.AdjointReading as spec

pub level_of : (b : ℕ) (d : Limit) (ts : Lexemes) → spec.adjoint_expr b d ts ≡ spec.sum b (spec.adjoint_below b) d ts
unfolding spec.adjoint_expr spec.adjoint_below
level_of zero d ts = refl
level_of (suc b) d ts = refl

pub below_of : (b : ℕ) (d : Limit) (ts : Lexemes) → 0 < b → spec.adjoint_below b d ts ≡ spec.adjoint_expr (b - 1) d ts
unfolding spec.adjoint_below
below_of zero d ts h = absurd (omega arith)
below_of (suc b) d ts h = let e : b ≡ suc b - 1 = omega arith in ap (λ n. spec.adjoint_expr n d ts) e
