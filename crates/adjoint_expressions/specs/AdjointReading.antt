-- How an adjoint's expressions are read.
use Rattle.std.specs.Prelude.{ℕ, zero, suc, ◌-◌, nat_lt, Bool, ◌&&◌}
use Rattle.parsing.specs.declared.symbol.Symbol.TheVariants as s
use Rattle.parsing.specs.declared.fault.Cause.TheVariants.{Deep}
use Rattle.parsing.specs.Limit.{Limit, allows, less}
use Rattle.parsing.specs.Terminal.{is, on, marked, names, name, number}
use Rattle.parsing.specs.Reading.{Parser, ◌>>=◌, pure, token, refuse, choose, within, left_grouped}
use Rattle.parsing.specs.declared.cursor.Word.{Word}
use Rattle.adjoint_expressions.specs.declared.tree.AMeasured.{AMeasured}
use Rattle.fl_expressions.specs.Terminals.{sum_op, product_op, is_sum_op, is_product_op, pairing, is_pairing, single, is_single, exponent}
use Rattle.fl_expressions.specs.ExprReading.{below, subscripts}
use Rattle.fl_conditions.specs.declared.tree.Judged.{Judged}
use Rattle.fl_conditions.specs.CondReading.{cond}
use Rattle.adjoint_expressions.specs.Trees.{literal as literal_of, scalar as scalar_of, negation, binary, power, no_exprs, one_more, element, call_of, merged, may_stand_left}

unfoldable pub power_of : AMeasured → Parser AMeasured
power_of e = do
  sign ← token (marked s.Power)
  n ← token exponent
  pure (power e n)

unfoldable pub raised : Limit → AMeasured → Parser AMeasured
raised d e = choose (is s.Power) (within (may_stand_left d e) Deep (power_of e)) (pure e)

-- So many brackets may open, and inner reads an expression within the next.
-- The limit is on the levels that a tree may have beneath its root.
module _ (b : ℕ) (inner : Limit → Parser AMeasured) where
  unfoldable pub bracketed : Limit → Parser AMeasured
  bracketed d = do
    open_ ← token (marked s.Open)
    e ← inner d
    close ← token (marked s.Close)
    pure e

  unfoldable pub literal : Parser AMeasured
  literal = do
    n ← token number
    pure (literal_of n)

  -- whether subscripts or arguments may follow
  abbrev pub may_hold : Limit → Bool
  may_hold d = nat_lt 0 b && allows d 1

  -- whether the arguments of a merge may follow: its condition has two levels at least
  abbrev pub may_merge : Limit → Bool
  may_merge d = nat_lt 0 b && allows d 2

  unfoldable pub indexed : Limit → Word → Parser AMeasured
  indexed d x = do
    found ← subscripts (nat_lt 0 b) (below b) (less d)
    pure (element x found)

  unfoldable pub after_name : Limit → Word → Parser AMeasured
  after_name d x = choose (is s.Open) (within (may_hold d) Deep (indexed d x)) (pure (scalar_of x))

  unfoldable pub place : Limit → Parser AMeasured
  place d = do
    x ← token name
    after_name d x

  unfoldable pub first_argument : Limit → Parser AMeasured
  first_argument d = do
    open_ ← token (marked s.Open)
    e ← inner d
    comma ← token (marked s.Comma)
    pure e

  unfoldable pub second_argument : Limit → Parser AMeasured
  second_argument d = do
    e ← inner d
    close ← token (marked s.Close)
    pure e

  unfoldable pub call_of_two : Limit → Parser AMeasured
  call_of_two d = do
    f ← token pairing
    a ← first_argument (less d)
    b ← second_argument (less d)
    pure (call_of f (one_more (one_more no_exprs a) b))

  unfoldable pub call_of_one : Limit → Parser AMeasured
  call_of_one d = do
    f ← token single
    a ← bracketed (less d)
    pure (call_of f (one_more no_exprs a))

  unfoldable pub merge_head : Limit → Parser AMeasured
  merge_head d = do
    word ← token (marked s.Merge)
    first_argument d

  unfoldable pub middle_argument : Limit → Parser AMeasured
  middle_argument d = do
    e ← inner d
    comma ← token (marked s.Comma)
    pure e

  unfoldable pub last_condition : Limit → Parser Judged
  last_condition d = do
    c ← cond (b - 1) d
    close ← token (marked s.Close)
    pure c

  unfoldable pub merge_of : Limit → Parser AMeasured
  merge_of d = do
    x ← merge_head (less d)
    y ← middle_argument (less d)
    c ← last_condition (less (less d))
    pure (merged x y c)

  unfoldable pub plain_operand : Limit → Parser AMeasured
  plain_operand d = choose (is s.Merge) (within (may_merge d) Deep (merge_of d)) (choose (on names) (place d) literal)

  unfoldable pub named : Limit → Parser AMeasured
  named d = choose is_pairing (within (may_hold d) Deep (call_of_two d)) (choose is_single (within (may_hold d) Deep (call_of_one d)) (plain_operand d))

  unfoldable pub primary : Limit → Parser AMeasured
  primary d = choose (is s.Open) (within (nat_lt 0 b) Deep (bracketed d)) (named d)

  unfoldable pub factor : Limit → Parser AMeasured
  factor d = primary d >>= raised d

  unfoldable pub factors_from : Limit → AMeasured → Parser AMeasured
  factors_from = left_grouped is_product_op product_op binary may_stand_left Deep factor

  unfoldable pub term : Limit → Parser AMeasured
  term d = factor d >>= factors_from d

  unfoldable pub terms_from : Limit → AMeasured → Parser AMeasured
  terms_from = left_grouped is_sum_op sum_op binary may_stand_left Deep term

  unfoldable pub negated : Limit → Parser AMeasured
  negated d = do
    sign ← token (marked s.Minus)
    e ← term (less d)
    terms_from d (negation e)

  unfoldable pub unsigned : Limit → Parser AMeasured
  unsigned d = term d >>= terms_from d

  unfoldable pub plain : Limit → Parser AMeasured
  plain d = do
    sign ← token (marked s.Plus)
    unsigned d

  unfoldable pub sum : Limit → Parser AMeasured
  sum d = choose (is s.Minus) (within (allows d 1) Deep (negated d)) (choose (is s.Plus) (plain d) (unsigned d))

-- with so many brackets to open
unfoldable pub adjoint_expr : ℕ → Limit → Parser AMeasured
adjoint_expr zero = sum zero (λ d. refuse Deep)
adjoint_expr (suc b) = sum (suc b) (adjoint_expr b)

-- what an expression in brackets is, with so many brackets to open
unfoldable pub adjoint_below : ℕ → Limit → Parser AMeasured
adjoint_below zero = λ d. refuse Deep
adjoint_below (suc b) = adjoint_expr b
