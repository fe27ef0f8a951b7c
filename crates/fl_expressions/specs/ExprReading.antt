-- How expressions are read.
use Rattle.std.specs.Prelude.{ℕ, zero, suc, Bool, true, false, ◌&&◌}
use Rattle.parsing.specs.declared.symbol.Symbol.TheVariants as s
use Rattle.parsing.specs.declared.fault.Cause.TheVariants.{Expected, Deep}
use Rattle.parsing.specs.Limit.{Limit, allows, less}
use Rattle.parsing.specs.Terminal.{is, on, marked, names, name, number}
use Rattle.parsing.specs.Reading.{Parser, ◌>>=◌, pure, token, refuse, choose, within, loop, left_grouped}
use Rattle.parsing.specs.declared.cursor.Word.{Word}
use Rattle.fl_expressions.specs.declared.tree.Measured.{Measured}
use Rattle.fl_expressions.specs.declared.tree.Listed.{Listed}
use Rattle.fl_expressions.specs.Terminals.{sum_op, product_op, is_sum_op, is_product_op, pairing, is_pairing, single, is_single, exponent}
use Rattle.fl_expressions.specs.Trees.{literal as literal_of, scalar as scalar_of, negation, binary, power, no_exprs, one_more, element, call_of, may_stand_left}

unfoldable pub power_of : Measured → Parser Measured
power_of e = do
  sign ← token (marked s.Power)
  n ← token exponent
  pure (power e n)

unfoldable pub raised : Limit → Measured → Parser Measured
raised d e = choose (is s.Power) (within (may_stand_left d e) Deep (power_of e)) (pure e)

-- The flag says whether one more bracket may open, and inner reads an expression within it.
-- The limit is on the levels that a tree may have beneath its root.
module _ (may_open : Bool) (inner : Limit → Parser Measured) where
  unfoldable pub bracketed : Limit → Parser Measured
  bracketed d = do
    open_ ← token (marked s.Open)
    e ← inner d
    close ← token (marked s.Close)
    pure e

  unfoldable pub literal : Parser Measured
  literal = do
    n ← token number
    pure (literal_of n)

  unfoldable pub another_expr : Limit → Listed → Parser Listed
  another_expr d found = do
    comma ← token (marked s.Comma)
    e ← inner d
    pure (one_more found e)

  unfoldable pub more_exprs : Limit → Listed → Parser Listed
  more_exprs d = loop (is s.Comma) (λ found. true) Expected (another_expr d)

  unfoldable pub exprs : Limit → Parser Listed
  exprs d = do
    e ← inner d
    more_exprs d (one_more no_exprs e)

  unfoldable pub subscripts : Limit → Parser Listed
  subscripts d = do
    open_ ← token (marked s.Open)
    found ← exprs d
    close ← token (marked s.Close)
    pure found

  -- whether subscripts or arguments may follow
  abbrev pub may_hold : Limit → Bool
  may_hold d = may_open && allows d 1

  unfoldable pub indexed : Limit → Word → Parser Measured
  indexed d x = do
    found ← subscripts (less d)
    pure (element x found)

  unfoldable pub after_name : Limit → Word → Parser Measured
  after_name d x = choose (is s.Open) (within (may_hold d) Deep (indexed d x)) (pure (scalar_of x))

  unfoldable pub place : Limit → Parser Measured
  place d = do
    x ← token name
    after_name d x

  unfoldable pub first_argument : Limit → Parser Measured
  first_argument d = do
    open_ ← token (marked s.Open)
    e ← inner d
    comma ← token (marked s.Comma)
    pure e

  unfoldable pub second_argument : Limit → Parser Measured
  second_argument d = do
    e ← inner d
    close ← token (marked s.Close)
    pure e

  unfoldable pub call_of_two : Limit → Parser Measured
  call_of_two d = do
    f ← token pairing
    a ← first_argument (less d)
    b ← second_argument (less d)
    pure (call_of f (one_more (one_more no_exprs a) b))

  unfoldable pub call_of_one : Limit → Parser Measured
  call_of_one d = do
    f ← token single
    a ← bracketed (less d)
    pure (call_of f (one_more no_exprs a))

  unfoldable pub named : Limit → Parser Measured
  named d = choose is_pairing (within (may_hold d) Deep (call_of_two d)) (choose is_single (within (may_hold d) Deep (call_of_one d)) (choose (on names) (place d) literal))

  unfoldable pub primary : Limit → Parser Measured
  primary d = choose (is s.Open) (within may_open Deep (bracketed d)) (named d)

  unfoldable pub factor : Limit → Parser Measured
  factor d = primary d >>= raised d

  unfoldable pub factors_from : Limit → Measured → Parser Measured
  factors_from = left_grouped is_product_op product_op binary may_stand_left Deep factor

  unfoldable pub term : Limit → Parser Measured
  term d = factor d >>= factors_from d

  unfoldable pub terms_from : Limit → Measured → Parser Measured
  terms_from = left_grouped is_sum_op sum_op binary may_stand_left Deep term

  unfoldable pub negated : Limit → Parser Measured
  negated d = do
    sign ← token (marked s.Minus)
    e ← term (less d)
    terms_from d (negation e)

  unfoldable pub unsigned : Limit → Parser Measured
  unsigned d = term d >>= terms_from d

  unfoldable pub plain : Limit → Parser Measured
  plain d = do
    sign ← token (marked s.Plus)
    unsigned d

  unfoldable pub sum : Limit → Parser Measured
  sum d = choose (is s.Minus) (within (allows d 1) Deep (negated d)) (choose (is s.Plus) (plain d) (unsigned d))

  -- what goes on behind a first operand
  unfoldable pub rest_of : Limit → Measured → Parser Measured
  rest_of d e = raised d e >>= factors_from d >>= terms_from d

  unfoldable pub started : Limit → Parser Measured
  started d = named d >>= rest_of d

  -- an expression that begins with no bracket
  unfoldable pub unopened : Limit → Parser Measured
  unopened d = choose (is s.Minus) (within (allows d 1) Deep (negated d)) (choose (is s.Plus) (plain d) (started d))

-- with so many brackets to open
unfoldable pub expr : ℕ → Limit → Parser Measured
expr zero = sum false (λ d. refuse Deep)
expr (suc b) = sum true (expr b)

-- what an expression in brackets is, with so many brackets to open
unfoldable pub below : ℕ → Limit → Parser Measured
below zero = λ d. refuse Deep
below (suc b) = expr b
