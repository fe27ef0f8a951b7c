-- The increments of a right side: one for each occurrence of an active name, with the factors on the way to it.
use Rattle.std.specs.Prelude.{ℕ, zero, suc, Bool, true, false, not, cond, if◌then◌else◌, List, [], ◌∷◌, ◌++◌}
use Rattle.ring_core.specs.Ring.{ring_mul, ring_neg}
use Rattle.fl_ast.specs.declared.kind.Kind.TheVariants as kind
use Rattle.fl_ast.specs.declared.kind.BinOp.TheVariants as op
use Rattle.fl_ast.specs.declared.kind.RelOp.{RelOp}
use Rattle.fl_ast.specs.declared.kind.RelOp.TheVariants as rel
use Rattle.fl_ast.specs.declared.kind.Fun.TheVariants as fun
use Rattle.fl_ast.specs.Tree.{Expression, literal, get, minus, binary, power, call, Expressions, no_expressions, expression, Designator, Condition, relation}
use Rattle.operations.specs.Tree.{Tree, done, ◌giving◌}
use Rattle.meaning.specs.Values.{as_dual}
use Rattle.transposition.specs.Worlds.{World, Local, at_place, adjoint_increment}
use Rattle.transposition.specs.Reads.{value_tree, holds_tree, place_tree}

-- a factor: an expression of the primal, or a `merge` of two numbers
pub data Factor : Type 0 where
  operand : Expression → Factor
  either : (one other : ℕ) → Condition → Factor

pub record Occurrence : Type 0 where
  pub place : Designator
  pub negative : Bool
  pub factors : List Factor

-- the factors of the base of a power: `0_8`; none; `2_8` and the base; else `p_8` and the power less one
abbrev pub power_factors : Expression → ℕ → List Factor
power_factors a zero = operand (literal 0 kind.Ring) ∷ []
power_factors a (suc zero) = []
power_factors a (suc (suc zero)) = operand (literal 2 kind.Ring) ∷ operand a ∷ []
power_factors a (suc (suc (suc n))) = operand (literal (suc (suc (suc n))) kind.Ring) ∷ operand (power a (suc (suc n))) ∷ []

-- less one in the ring
abbrev pub minus_one : ℕ
minus_one = 18446744073709551615

abbrev mutual
  -- in order of evaluation, subscripts aside; typing leaves no division of ring values
  pub occurrences : (List ℕ → Bool) → Expression → Bool → List Factor → List Occurrence
  occurrences on (literal n k) less fs = []
  occurrences on (get x s) less fs = if on x then record { place = record { name = x; subscripts = s }; negative = less; factors = fs } ∷ [] else []
  occurrences on (minus a) less fs = occurrences on a (not less) fs
  occurrences on (binary op.Add a b) less fs = occurrences on a less fs ++ occurrences on b less fs
  occurrences on (binary op.Sub a b) less fs = occurrences on a less fs ++ occurrences on b (not less) fs
  occurrences on (binary op.Mul a b) less fs = occurrences on a less (fs ++ operand b ∷ []) ++ occurrences on b less (fs ++ operand a ∷ [])
  occurrences on (binary op.Div a b) less fs = []
  occurrences on (power a n) less fs = occurrences on a less (fs ++ power_factors a n)
  occurrences on (call fun.Max args) less fs = of_two on rel.Ge args less fs
  occurrences on (call fun.Min args) less fs = of_two on rel.Le args less fs
  occurrences on (call fun.Abs args) less fs = of_one on args less fs
  occurrences on (call fun.Mod args) less fs = []

  -- the operands of `max` and `min`: the first is taken where the relation holds
  pub of_two : (List ℕ → Bool) → RelOp → Expressions → Bool → List Factor → List Occurrence
  of_two on o (expression a (expression b no_expressions)) less fs =
      occurrences on a less (fs ++ either 1 0 (relation o a b) ∷ []) ++ occurrences on b less (fs ++ either 0 1 (relation o a b) ∷ [])
  of_two on o _ less fs = []

  -- the operand of `abs`
  pub of_one : (List ℕ → Bool) → Expressions → Bool → List Factor → List Occurrence
  of_one on (expression a no_expressions) less fs = occurrences on a less (fs ++ either minus_one 1 (relation rel.Lt a (literal 0 kind.Ring)) ∷ [])
  of_one on _ less fs = []

abbrev pub factor_tree : World → Local → Factor → Tree ℕ
factor_tree w l (operand e) = value_tree e w l giving (λ v. done (as_dual v).value)
factor_tree w l (either n m t) = holds_tree t w l giving (λ b. done (cond b n m))

-- the product, grouped from the left
abbrev pub product_tree : World → Local → List Factor → ℕ → Tree ℕ
product_tree w l [] t = done t
product_tree w l (f ∷ fs) t = factor_tree w l f giving (λ x. product_tree w l fs (ring_mul t x))

abbrev pub with_sign : Bool → ℕ → ℕ
with_sign true a = ring_neg a
with_sign false a = a

-- one increment, t being the adjoint that was moved
abbrev pub one_increment : World → ℕ → Occurrence → Local → Tree Local
one_increment w t o l =
    product_tree w l o.factors t giving (λ x. place_tree o.place w l giving at_place (done l) (λ p. adjoint_increment w (w.choice o.place.name) p (with_sign o.negative x) l))

abbrev pub increments : World → ℕ → List Occurrence → Local → Tree Local
increments w t [] l = done l
increments w t (o ∷ os) l = one_increment w t o l giving increments w t os
