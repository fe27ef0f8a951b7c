-- Expressions of an adjoint, and the statements that move and spread adjoints.
use Rattle.std.specs.Prelude.{ℕ, Bool, false, if◌then◌else◌, nat_eq, List, [], ◌∷◌, map}
use Rattle.fl_ast.specs.declared.kind.Kind.TheVariants as kind
use Rattle.fl_ast.specs.declared.kind.BinOp.{BinOp}
use Rattle.fl_ast.specs.declared.kind.BinOp.TheVariants as op
use Rattle.fl_ast.specs.Tree.{Expression, literal, get, minus, binary, power, call, Expressions, no_expressions, expression, Designator}
use Rattle.fl_ast.specs.AdjointTree.{AdjointExpression, adjoint_literal, adjoint_get, adjoint_minus, adjoint_binary, adjoint_power, adjoint_call, merge, AdjointExpressions, no_adjoint_expressions, adjoint_expression, AdjointStatement, adjoint_assignment}
use Rattle.adjoint_rules.specs.OwnNames.{adjoint_place, scalar, t_name}
use Rattle.adjoint_rules.specs.Occurrences.{Factor, operand, either, Occurrence, minus_one}

-- the same expression in an adjoint
abbrev mutual
  pub in_adjoint : Expression → AdjointExpression
  in_adjoint (literal v k) = adjoint_literal v k
  in_adjoint (get x ss) = adjoint_get (record { name = x; subscripts = ss })
  in_adjoint (minus e) = adjoint_minus (in_adjoint e)
  in_adjoint (binary o l r) = adjoint_binary o (in_adjoint l) (in_adjoint r)
  in_adjoint (power e n) = adjoint_power (in_adjoint e) n
  in_adjoint (call f es) = adjoint_call f (all_in_adjoint es)

  pub all_in_adjoint : Expressions → AdjointExpressions
  all_in_adjoint no_expressions = no_adjoint_expressions
  all_in_adjoint (expression e es) = adjoint_expression (in_adjoint e) (all_in_adjoint es)

-- a number of the ring kind, -1 with its sign
abbrev pub number : ℕ → AdjointExpression
number n = if nat_eq n minus_one then adjoint_minus (adjoint_literal 1 kind.Ring) else adjoint_literal n kind.Ring

abbrev pub factor : Factor → AdjointExpression
factor (operand e) = in_adjoint e
factor (either n m t) = merge (number n) (number m) t

-- the amount times the factors, grouped from the left
abbrev pub product : AdjointExpression → List Factor → AdjointExpression
product a [] = a
product a (f ∷ fs) = product (adjoint_binary op.Mul a (factor f)) fs

-- `formad_t`
abbrev pub temporary : Designator
temporary = scalar t_name

abbrev pub sign_of : Bool → BinOp
sign_of negative = if negative then op.Sub else op.Add

-- `y_b = y_b+(P)`, or with a minus
abbrev pub grown : ℕ → Bool → Bool → Designator → AdjointExpression → AdjointStatement
grown line atomic negative p amount =
    adjoint_assignment line atomic (adjoint_place p) (adjoint_binary (sign_of negative) (adjoint_get (adjoint_place p)) amount)

-- one increment for an occurrence, `atomic` telling the names whose adjoints are incremented atomically here
abbrev pub increment_for : (List ℕ → Bool) → ℕ → Occurrence → AdjointStatement
increment_for atomic line o = grown line (atomic o.place.name) o.negative o.place (product (adjoint_get temporary) o.factors)

abbrev pub increments : (List ℕ → Bool) → ℕ → List Occurrence → List AdjointStatement
increments atomic line os = map (increment_for atomic line) os

-- `formad_t = x_b`
abbrev pub taken : ℕ → Designator → AdjointStatement
taken line p = adjoint_assignment line false temporary (adjoint_get (adjoint_place p))

-- `x_b = 0_8`
abbrev pub cleared : ℕ → Designator → AdjointStatement
cleared line p = adjoint_assignment line false (adjoint_place p) (adjoint_literal 0 kind.Ring)

-- both
abbrev pub moved : ℕ → Designator → List AdjointStatement
moved line p = taken line p ∷ cleared line p ∷ []
