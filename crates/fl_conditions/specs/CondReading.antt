-- How conditions are read. What a bracket holds is an expression or a condition, and is read once: the token behind it tells which it has to be.
use Rattle.std.specs.Prelude.{ℕ, zero, suc, nat_lt}
use Rattle.parsing.specs.declared.symbol.Symbol.TheVariants as s
use Rattle.parsing.specs.declared.fault.Cause.TheVariants.{Expected, Deep}
use Rattle.parsing.specs.Limit.{Limit, allows, less}
use Rattle.parsing.specs.Terminal.{is, marked}
use Rattle.parsing.specs.Reading.{Parser, ◌>>=◌, pure, token, refuse, choose, within, left_grouped}
use Rattle.fl_expressions.specs.declared.tree.Measured.{Measured}
use Rattle.fl_expressions.specs.ExprReading.{expr, below, rest_of, unopened}
use Rattle.fl_conditions.specs.declared.tree.Judged.{Judged}
use Rattle.fl_conditions.specs.declared.tree.Mixed.{Mixed}
use Rattle.fl_conditions.specs.declared.tree.Mixed.TheVariants.{Value, Test}
use Rattle.fl_conditions.specs.Terminals.{rel_op, is_rel_op, and_op, is_and_op, or_op, is_or_op}
use Rattle.fl_conditions.specs.Trees.{related, denial, both, one_of, may_join}

unfoldable pub comparing : ℕ → Limit → Measured → Parser Mixed
comparing b d l = do
  op ← token rel_op
  r ← expr b d
  pure (Test (related op l r))

-- a relation, or else the expression itself
unfoldable pub compared : ℕ → Limit → Measured → Parser Mixed
compared b d l = choose is_rel_op (comparing b d l) (pure (Value l))

-- behind an expression in a bracket
unfoldable pub after_value : ℕ → Limit → Measured → Parser Mixed
after_value b d e = rest_of (nat_lt 0 b) (below b) d e >>= compared b d

-- behind a bracket that held this
abbrev pub after : ℕ → Limit → Mixed → Parser Mixed
after b d (Value e) = after_value b d e
after b d (Test c) = pure (Test c)

-- what begins with no bracket
unfoldable pub begun : ℕ → Limit → Parser Mixed
begun b d = unopened (nat_lt 0 b) (below b) d >>= compared b d

-- where an expression alone won't do
abbrev pub only_test : Mixed → Parser Judged
only_test (Value e) = refuse Expected
only_test (Test c) = pure c

abbrev pub as_test : Judged → Parser Mixed
as_test c = pure (Test c)

-- With so many brackets to open; inner reads what stands in a bracket.
module _ (b : ℕ) (inner : Limit → Parser Mixed) where
  unfoldable pub bracketed : Limit → Parser Mixed
  bracketed d = do
    open_ ← token (marked s.Open)
    m ← inner d
    close ← token (marked s.Close)
    after b d m

  unfoldable pub operand : Limit → Parser Mixed
  operand d = choose (is s.Open) (within (nat_lt 0 b) Deep (bracketed d)) (begun b d)

  unfoldable pub simple : Limit → Parser Judged
  simple d = operand d >>= only_test

  unfoldable pub denied : Limit → Parser Mixed
  denied d = do
    not_ ← token (marked s.Not)
    c ← simple (less d)
    pure (Test (denial c))

  unfoldable pub first : Limit → Parser Mixed
  first d = choose (is s.Not) (within (allows d 1) Deep (denied d)) (operand d)

  unfoldable pub negation : Limit → Parser Judged
  negation d = first d >>= only_test

  unfoldable pub ands_from : Limit → Judged → Parser Judged
  ands_from = left_grouped is_and_op and_op both may_join Deep negation

  unfoldable pub conjunction : Limit → Parser Judged
  conjunction d = negation d >>= ands_from d

  unfoldable pub ors_from : Limit → Judged → Parser Judged
  ors_from = left_grouped is_or_op or_op one_of may_join Deep conjunction

  unfoldable pub joining : Limit → Judged → Parser Judged
  joining d c = ands_from d c >>= ors_from d

  abbrev pub joined : Limit → Mixed → Parser Mixed
  joined d (Value e) = pure (Value e)
  joined d (Test c) = joining d c >>= as_test

  unfoldable pub mixture : Limit → Parser Mixed
  mixture d = first d >>= joined d

-- with so many brackets to open
unfoldable pub mixed : ℕ → Limit → Parser Mixed
mixed zero = mixture zero (λ d. refuse Deep)
mixed (suc b) = mixture (suc b) (mixed b)

-- what stands in a bracket, with so many brackets to open
unfoldable pub below_mixed : ℕ → Limit → Parser Mixed
below_mixed zero = λ d. refuse Deep
below_mixed (suc b) = mixed b

unfoldable pub cond : ℕ → Limit → Parser Judged
cond b d = mixed b d >>= only_test
