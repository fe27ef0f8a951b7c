-- The increments of adjoints as they are made: with the amount so far, the moved adjoint times the factors from the root down to here, in
-- place of the list of the factors. `growths_are` says that they are those of the occurrences.
use Rattle.std.specs.Prelude.{ℕ, Bool, true, false, not, if◌then◌else◌, List, [], ◌∷◌, ◌++◌, Option, Some, None}
use Rattle.fl_ast.specs.declared.kind.BinOp.{BinOp}
use Rattle.fl_ast.specs.declared.kind.BinOp.TheVariants as op
use Rattle.fl_ast.specs.declared.kind.RelOp.{RelOp}
use Rattle.fl_ast.specs.declared.kind.RelOp.TheVariants as rel
use Rattle.fl_ast.specs.declared.kind.Fun.TheVariants as fun
use Rattle.fl_ast.specs.declared.kind.Kind.TheVariants as kind
use Rattle.fl_ast.specs.Tree.{Expression, literal, get, minus, binary, power, call, Expressions, no_expressions, expression, Designator, relation}
use Rattle.fl_ast.specs.AdjointTree.{AdjointExpression, adjoint_binary, AdjointStatement}
use Rattle.fl_types.specs.declared.choice.Chosen.{Chosen}
use Rattle.adjoint_rules.specs.Occurrences.{Factor, operand, either, minus_one, power_factors}
use Rattle.adjoint_rules.specs.Expressions.{factor, product, grown}
use Rattle.adjoint_rules.specs.Scopes.{has_choice, is_atomic}

-- whose adjoints are incremented atomically, in the parallel loop with a number or outside
abbrev pub is_atomic_in : List Chosen → Option ℕ → List ℕ → Bool
is_atomic_in choices None x = false
is_atomic_in choices (Some n) x = has_choice is_atomic choices n x

abbrev pub times : AdjointExpression → Factor → AdjointExpression
times a f = adjoint_binary op.Mul a (factor f)

-- the sign turns at the right of a difference
abbrev pub sign_at_right : BinOp → Bool → Bool
sign_at_right op.Sub negative = not negative
sign_at_right op.Add negative = negative
sign_at_right op.Mul negative = negative
sign_at_right op.Div negative = negative

-- what the amount becomes at an operand, where the other one is e
abbrev pub amount_at : BinOp → AdjointExpression → Expression → AdjointExpression
amount_at op.Mul a e = times a (operand e)
amount_at op.Add a e = a
amount_at op.Sub a e = a
amount_at op.Div a e = a

abbrev pub is_division : BinOp → Bool
is_division op.Div = true
is_division op.Add = false
is_division op.Sub = false
is_division op.Mul = false

abbrev pub place_growth : (on atomic : List ℕ → Bool) → ℕ → Designator → Bool → AdjointExpression → List AdjointStatement
place_growth on atomic line p less a = if on p.name then grown line (atomic p.name) less p a ∷ [] else []

abbrev mutual
  pub growths : (on atomic : List ℕ → Bool) → ℕ → Expression → Bool → AdjointExpression → List AdjointStatement
  growths on atomic line (literal n k) less a = []
  growths on atomic line (get x s) less a = place_growth on atomic line (record { name = x; subscripts = s }) less a
  growths on atomic line (minus e) less a = growths on atomic line e (not less) a
  growths on atomic line (binary o l r) less a =
      if is_division o then []
      else growths on atomic line l less (amount_at o a r) ++ growths on atomic line r (sign_at_right o less) (amount_at o a l)
  growths on atomic line (power e n) less a = growths on atomic line e less (product a (power_factors e n))
  growths on atomic line (call fun.Max args) less a = growths_of_two on atomic line rel.Ge args less a
  growths on atomic line (call fun.Min args) less a = growths_of_two on atomic line rel.Le args less a
  growths on atomic line (call fun.Abs args) less a = growths_of_one on atomic line args less a
  growths on atomic line (call fun.Mod args) less a = []

  pub growths_of_two : (on atomic : List ℕ → Bool) → ℕ → RelOp → Expressions → Bool → AdjointExpression → List AdjointStatement
  growths_of_two on atomic line o (expression l (expression r no_expressions)) less a =
      growths on atomic line l less (times a (either 1 0 (relation o l r))) ++ growths on atomic line r less (times a (either 0 1 (relation o l r)))
  growths_of_two on atomic line o _ less a = []

  pub growths_of_one : (on atomic : List ℕ → Bool) → ℕ → Expressions → Bool → AdjointExpression → List AdjointStatement
  growths_of_one on atomic line (expression e no_expressions) less a = growths on atomic line e less (times a (either minus_one 1 (relation rel.Lt e (literal 0 kind.Ring))))
  growths_of_one on atomic line _ less a = []
