-- The grammar of expressions.
use Rattle.std.specs.Prelude.{ℕ, zero, suc, Bool, true, false, ◌&&◌}
use Rattle.parsing.specs.declared.symbol.Symbol.TheVariants as s
use Rattle.parsing.specs.Limit.{Limit, allows, less}
use Rattle.parsing.specs.Terminal.{marked, name, number}
use Rattle.parsing.specs.Grammar.{Grammar, ◌>>=◌, gives, one, ◌or◌, where_, many, left_grouped}
use Rattle.parsing.specs.declared.cursor.Word.{Word}
use Rattle.fl_expressions.specs.declared.tree.Measured.{Measured}
use Rattle.fl_expressions.specs.declared.tree.Listed.{Listed}
use Rattle.fl_expressions.specs.Terminals.{sum_op, product_op, pairing, single, exponent}
use Rattle.fl_expressions.specs.Trees.{literal as literal_of, scalar as scalar_of, negation, binary, power, no_exprs, one_more, element, call_of, may_stand_left}

-- "**" number
unfoldable pub power_of : Measured → Grammar Measured
power_of e = do
  sign ← one (marked s.Power)
  n ← one exponent
  gives (power e n)

unfoldable pub raised : Limit → Measured → Grammar Measured
raised d e = where_ (may_stand_left d e) (power_of e) or gives e

-- The flag says whether one more bracket may open, and inner is an expression within it.
-- The limit is on the levels that a tree may have beneath its root.
module _ (may_open : Bool) (inner : Limit → Grammar Measured) where
  -- "(" expr ")"
  unfoldable pub bracketed : Limit → Grammar Measured
  bracketed d = do
    open_ ← one (marked s.Open)
    e ← inner d
    close ← one (marked s.Close)
    gives e

  unfoldable pub literal : Grammar Measured
  literal = do
    n ← one number
    gives (literal_of n)

  -- "," expr
  unfoldable pub another_expr : Limit → Listed → Grammar Listed
  another_expr d found = do
    comma ← one (marked s.Comma)
    e ← inner d
    gives (one_more found e)

  unfoldable pub more_exprs : Limit → Listed → Grammar Listed
  more_exprs d = many (λ found. where_ true (another_expr d found))

  -- expr {"," expr}
  unfoldable pub exprs : Limit → Grammar Listed
  exprs d = do
    e ← inner d
    more_exprs d (one_more no_exprs e)

  -- "(" expr {"," expr} ")"
  unfoldable pub subscripts : Limit → Grammar Listed
  subscripts d = do
    open_ ← one (marked s.Open)
    found ← exprs d
    close ← one (marked s.Close)
    gives found

  -- whether subscripts or arguments may follow
  abbrev pub may_hold : Limit → Bool
  may_hold d = may_open && allows d 1

  unfoldable pub indexed : Limit → Word → Grammar Measured
  indexed d x = do
    found ← subscripts (less d)
    gives (element x found)

  unfoldable pub after_name : Limit → Word → Grammar Measured
  after_name d x = where_ (may_hold d) (indexed d x) or gives (scalar_of x)

  -- name [ "(" expr {"," expr} ")" ]
  unfoldable pub place : Limit → Grammar Measured
  place d = do
    x ← one name
    after_name d x

  -- "(" expr ","
  unfoldable pub first_argument : Limit → Grammar Measured
  first_argument d = do
    open_ ← one (marked s.Open)
    e ← inner d
    comma ← one (marked s.Comma)
    gives e

  -- expr ")"
  unfoldable pub second_argument : Limit → Grammar Measured
  second_argument d = do
    e ← inner d
    close ← one (marked s.Close)
    gives e

  -- ("max"|"min"|"mod") "(" expr "," expr ")"
  unfoldable pub call_of_two : Limit → Grammar Measured
  call_of_two d = do
    f ← one pairing
    a ← first_argument (less d)
    b ← second_argument (less d)
    gives (call_of f (one_more (one_more no_exprs a) b))

  -- "abs" "(" expr ")"
  unfoldable pub call_of_one : Limit → Grammar Measured
  call_of_one d = do
    f ← one single
    a ← bracketed (less d)
    gives (call_of f (one_more no_exprs a))

  -- "(" expr ")" | fun "(" expr {"," expr} ")" | place | number
  unfoldable pub primary : Limit → Grammar Measured
  primary d = where_ may_open (bracketed d) or (where_ (may_hold d) (call_of_two d) or (where_ (may_hold d) (call_of_one d) or (place d or literal)))

  -- primary [ "**" number ]
  unfoldable pub factor : Limit → Grammar Measured
  factor d = primary d >>= raised d

  -- { ("*"|"/") factor }
  unfoldable pub factors_from : Limit → Measured → Grammar Measured
  factors_from = left_grouped product_op binary may_stand_left factor

  -- factor { ("*"|"/") factor }
  unfoldable pub term : Limit → Grammar Measured
  term d = factor d >>= factors_from d

  -- { ("+"|"-") term }
  unfoldable pub terms_from : Limit → Measured → Grammar Measured
  terms_from = left_grouped sum_op binary may_stand_left term

  -- "-" term { ("+"|"-") term }
  unfoldable pub negated : Limit → Grammar Measured
  negated d = do
    sign ← one (marked s.Minus)
    e ← term (less d)
    terms_from d (negation e)

  -- term { ("+"|"-") term }
  unfoldable pub unsigned : Limit → Grammar Measured
  unsigned d = term d >>= terms_from d

  -- "+" term { ("+"|"-") term }, where the sign is dropped
  unfoldable pub plain : Limit → Grammar Measured
  plain d = do
    sign ← one (marked s.Plus)
    unsigned d

  -- ["+"|"-"] term { ("+"|"-") term }
  unfoldable pub sum : Limit → Grammar Measured
  sum d = where_ (allows d 1) (negated d) or (plain d or unsigned d)

-- with so many brackets to open
unfoldable pub expr : ℕ → Limit → Grammar Measured
expr zero = sum false (λ d x us. ⊥)
expr (suc b) = sum true (expr b)

-- what an expression in brackets is, with so many brackets to open
unfoldable pub below : ℕ → Limit → Grammar Measured
below zero = λ d x us. ⊥
below (suc b) = expr b
