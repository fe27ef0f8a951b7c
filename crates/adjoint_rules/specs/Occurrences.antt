-- The occurrences of active names on a right side, subscripts aside, in order of evaluation: each with its sign, and with the factors
-- on the way from the root to it, whose product is the partial derivative. The text of the adjoint, its law and its code go by them.
-- The derivatives are those of sums, products and powers of whole numbers; `max`, `min` and `abs` follow the operand that is taken.
use Rattle.std.specs.Prelude.{ℕ, zero, suc, Bool, false, not, if◌then◌else◌, List, [], ◌∷◌, ◌++◌, Option, Some, None}
use Rattle.fl_ast.specs.declared.kind.Kind.TheVariants as kind
use Rattle.fl_ast.specs.declared.kind.BinOp.TheVariants as op
use Rattle.fl_ast.specs.declared.kind.RelOp.{RelOp}
use Rattle.fl_ast.specs.declared.kind.RelOp.TheVariants as rel
use Rattle.fl_ast.specs.declared.kind.Fun.TheVariants as fun
use Rattle.fl_ast.specs.Tree.{Expression, literal, get, minus, binary, power, call, Expressions, no_expressions, expression, Designator, Condition, relation}
use Rattle.fl_types.specs.Increment.{Signed}

-- an expression of the program, or one of two numbers, the first where the condition holds
pub data Factor : Type 0 where
  operand : Expression → Factor
  either : (one other : ℕ) → Condition → Factor

pub record Occurrence : Type 0 where
  pub place : Designator
  pub negative : Bool
  pub factors : List Factor

-- of the base of a power: `0_8`; none; `2_8` and the base; else the exponent and the power less one
abbrev pub power_factors : Expression → ℕ → List Factor
power_factors a zero = operand (literal 0 kind.Ring) ∷ []
power_factors a (suc zero) = []
power_factors a (suc (suc zero)) = operand (literal 2 kind.Ring) ∷ operand a ∷ []
power_factors a (suc (suc (suc n))) = operand (literal (suc (suc (suc n))) kind.Ring) ∷ operand (power a (suc (suc n))) ∷ []

-- -1, as a word
abbrev pub minus_one : ℕ
minus_one = 18446744073709551615

abbrev mutual
  -- `on` tells the active names, `less` the sign so far and `fs` the factors so far; typing leaves no division of data
  pub occurrences : (List ℕ → Bool) → Expression → Bool → List Factor → List Occurrence
  occurrences on (literal n k) less fs = []
  occurrences on (get x s) less fs = if on x then record { place = record { name = x; subscripts = s }; negative = less; factors = fs } ∷ [] else []
  occurrences on (minus a) less fs = occurrences on a (not less) fs
  occurrences on (binary op.Add a b) less fs = occurrences on a less fs ++ occurrences on b less fs
  occurrences on (binary op.Sub a b) less fs = occurrences on a less fs ++ occurrences on b (not less) fs
  occurrences on (binary op.Mul a b) less fs = occurrences on a less (fs ++ operand b ∷ []) ++ occurrences on b less (fs ++ operand a ∷ [])
  occurrences on (binary op.Div a b) less fs = []
  occurrences on (power a n) less fs = occurrences on a less (fs ++ power_factors a n)
  occurrences on (call fun.Max args) less fs = of_two on rel.Ge args less fs
  occurrences on (call fun.Min args) less fs = of_two on rel.Le args less fs
  occurrences on (call fun.Abs args) less fs = of_one on args less fs
  occurrences on (call fun.Mod args) less fs = []

  -- in the operands of `max` and `min`, of which the first is taken where the relation holds
  pub of_two : (List ℕ → Bool) → RelOp → Expressions → Bool → List Factor → List Occurrence
  of_two on o (expression a (expression b no_expressions)) less fs =
      occurrences on a less (fs ++ either 1 0 (relation o a b) ∷ []) ++ occurrences on b less (fs ++ either 0 1 (relation o a b) ∷ [])
  of_two on o _ less fs = []

  -- in the operand of `abs`
  pub of_one : (List ℕ → Bool) → Expressions → Bool → List Factor → List Occurrence
  of_one on (expression a no_expressions) less fs = occurrences on a less (fs ++ either minus_one 1 (relation rel.Lt a (literal 0 kind.Ring)) ∷ [])
  of_one on _ less fs = []

-- in the rest terms of an increment
abbrev pub rest_occurrences : (List ℕ → Bool) → List Signed → List Occurrence
rest_occurrences on [] = []
rest_occurrences on (r ∷ rs) = occurrences on r.1 r.0 [] ++ rest_occurrences on rs

-- of an assignment: of its rest terms where it is an increment
abbrev pub assignment_occurrences : (List ℕ → Bool) → Expression → Option (List Signed) → List Occurrence
assignment_occurrences on e None = occurrences on e false []
assignment_occurrences on e (Some rs) = rest_occurrences on rs
