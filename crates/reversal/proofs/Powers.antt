-- The factors of a power above the second.
use Rattle.std.proofs.Common.{◌≡◌, ℕ, zero, suc, ◌<◌, ◌-◌, ap, arith}
use Rattle.fl_ast.specs.declared.kind.Kind.TheVariants as kind
use Rattle.fl_ast.specs.Tree.{Expression, literal, power}
use Rattle.fl_ast.specs.AdjointTree.{AdjointExpression}
use Rattle.adjoint_rules.specs.Occurrences.{operand, power_factors}
use Rattle.adjoint_rules.specs.Expressions.{product}
use Rattle.reversal.specs.Growth.{times}

less_one : (n : ℕ) → n ≡ suc n - 1
less_one n = omega arith

pub raised_factors : (a : AdjointExpression) (b : Expression) (n : ℕ) → 2 < n → product a (power_factors b n) ≡ times (times a (operand (literal n kind.Ring))) (operand (power b (n - 1)))
raised_factors a b zero h = absurd (omega (arith, h))
raised_factors a b (suc zero) h = absurd (omega (arith, h))
raised_factors a b (suc (suc zero)) h = absurd (omega (arith, h))
raised_factors a b (suc (suc (suc n))) h = ap (λ k. times (times a (operand (literal (suc (suc (suc n))) kind.Ring))) (operand (power b k))) (less_one (suc (suc n)))
