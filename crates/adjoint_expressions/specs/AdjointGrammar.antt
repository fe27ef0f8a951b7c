-- The grammar of an adjoint's expressions: those of a program, with `merge` as a further operand outside subscripts and conditions.
use Rattle.std.specs.Prelude.{ℕ, zero, suc, ◌-◌, nat_lt, Bool, ◌&&◌}
use Rattle.parsing.specs.declared.symbol.Symbol.TheVariants as s
use Rattle.parsing.specs.Limit.{Limit, allows, less}
use Rattle.parsing.specs.Terminal.{marked, name, number}
use Rattle.parsing.specs.Grammar.{Grammar, ◌>>=◌, gives, one, ◌or◌, where_, left_grouped}
use Rattle.parsing.specs.declared.cursor.Word.{Word}
use Rattle.adjoint_expressions.specs.declared.tree.AMeasured.{AMeasured}
use Rattle.fl_expressions.specs.Terminals.{sum_op, product_op, pairing, single, exponent}
use Rattle.fl_expressions.specs.ExprGrammar.{below, subscripts}
use Rattle.fl_conditions.specs.declared.tree.Judged.{Judged}
use Rattle.fl_conditions.specs.CondGrammar.{cond}
use Rattle.adjoint_expressions.specs.Trees.{literal as literal_of, scalar as scalar_of, negation, binary, power, no_exprs, one_more, element, call_of, merged, may_stand_left}

-- "**" number
unfoldable pub power_of : AMeasured → Grammar AMeasured
power_of e = do
  sign ← one (marked s.Power)
  n ← one exponent
  gives (power e n)

unfoldable pub raised : Limit → AMeasured → Grammar AMeasured
raised d e = where_ (may_stand_left d e) (power_of e) or gives e

-- So many brackets may open, and inner is an expression within the next.
-- The limit is on the levels that a tree may have beneath its root.
module _ (b : ℕ) (inner : Limit → Grammar AMeasured) where
  -- "(" expr ")"
  unfoldable pub bracketed : Limit → Grammar AMeasured
  bracketed d = do
    open_ ← one (marked s.Open)
    e ← inner d
    close ← one (marked s.Close)
    gives e

  unfoldable pub literal : Grammar AMeasured
  literal = do
    n ← one number
    gives (literal_of n)

  -- whether subscripts or arguments may follow
  abbrev pub may_hold : Limit → Bool
  may_hold d = nat_lt 0 b && allows d 1

  -- whether the arguments of a merge may follow: its condition has two levels at least
  abbrev pub may_merge : Limit → Bool
  may_merge d = nat_lt 0 b && allows d 2

  unfoldable pub indexed : Limit → Word → Grammar AMeasured
  indexed d x = do
    found ← subscripts (nat_lt 0 b) (below b) (less d)
    gives (element x found)

  unfoldable pub after_name : Limit → Word → Grammar AMeasured
  after_name d x = where_ (may_hold d) (indexed d x) or gives (scalar_of x)

  -- name [ "(" expr {"," expr} ")" ]
  unfoldable pub place : Limit → Grammar AMeasured
  place d = do
    x ← one name
    after_name d x

  -- "(" expr ","
  unfoldable pub first_argument : Limit → Grammar AMeasured
  first_argument d = do
    open_ ← one (marked s.Open)
    e ← inner d
    comma ← one (marked s.Comma)
    gives e

  -- expr ")"
  unfoldable pub second_argument : Limit → Grammar AMeasured
  second_argument d = do
    e ← inner d
    close ← one (marked s.Close)
    gives e

  -- ("max"|"min"|"mod") "(" expr "," expr ")"
  unfoldable pub call_of_two : Limit → Grammar AMeasured
  call_of_two d = do
    f ← one pairing
    a ← first_argument (less d)
    b ← second_argument (less d)
    gives (call_of f (one_more (one_more no_exprs a) b))

  -- "abs" "(" expr ")"
  unfoldable pub call_of_one : Limit → Grammar AMeasured
  call_of_one d = do
    f ← one single
    a ← bracketed (less d)
    gives (call_of f (one_more no_exprs a))

  -- "merge" "(" expr ","
  unfoldable pub merge_head : Limit → Grammar AMeasured
  merge_head d = do
    word ← one (marked s.Merge)
    first_argument d

  -- expr ","
  unfoldable pub middle_argument : Limit → Grammar AMeasured
  middle_argument d = do
    e ← inner d
    comma ← one (marked s.Comma)
    gives e

  -- cond ")", in the bracket that is open
  unfoldable pub last_condition : Limit → Grammar Judged
  last_condition d = do
    c ← cond (b - 1) d
    close ← one (marked s.Close)
    gives c

  -- "merge" "(" expr "," expr "," cond ")"
  unfoldable pub merge_of : Limit → Grammar AMeasured
  merge_of d = do
    x ← merge_head (less d)
    y ← middle_argument (less d)
    c ← last_condition (less (less d))
    gives (merged x y c)

  -- "(" expr ")" | fun "(" expr {"," expr} ")" | "merge" "(" expr "," expr "," cond ")" | place | number
  unfoldable pub primary : Limit → Grammar AMeasured
  primary d = where_ (nat_lt 0 b) (bracketed d) or (where_ (may_hold d) (call_of_two d) or (where_ (may_hold d) (call_of_one d) or (where_ (may_merge d) (merge_of d) or (place d or literal))))

  -- primary [ "**" number ]
  unfoldable pub factor : Limit → Grammar AMeasured
  factor d = primary d >>= raised d

  -- { ("*"|"/") factor }
  unfoldable pub factors_from : Limit → AMeasured → Grammar AMeasured
  factors_from = left_grouped product_op binary may_stand_left factor

  -- factor { ("*"|"/") factor }
  unfoldable pub term : Limit → Grammar AMeasured
  term d = factor d >>= factors_from d

  -- { ("+"|"-") term }
  unfoldable pub terms_from : Limit → AMeasured → Grammar AMeasured
  terms_from = left_grouped sum_op binary may_stand_left term

  -- "-" term { ("+"|"-") term }
  unfoldable pub negated : Limit → Grammar AMeasured
  negated d = do
    sign ← one (marked s.Minus)
    e ← term (less d)
    terms_from d (negation e)

  -- term { ("+"|"-") term }
  unfoldable pub unsigned : Limit → Grammar AMeasured
  unsigned d = term d >>= terms_from d

  -- "+" term { ("+"|"-") term }, where the sign is dropped
  unfoldable pub plain : Limit → Grammar AMeasured
  plain d = do
    sign ← one (marked s.Plus)
    unsigned d

  -- ["+"|"-"] term { ("+"|"-") term }
  unfoldable pub sum : Limit → Grammar AMeasured
  sum d = where_ (allows d 1) (negated d) or (plain d or unsigned d)

-- with so many brackets to open
unfoldable pub adjoint_expr : ℕ → Limit → Grammar AMeasured
adjoint_expr zero = sum zero (λ d x us. ⊥)
adjoint_expr (suc b) = sum (suc b) (adjoint_expr b)

-- what an expression in brackets is, with so many brackets to open
unfoldable pub adjoint_below : ℕ → Limit → Grammar AMeasured
adjoint_below zero = λ d x us. ⊥
adjoint_below (suc b) = adjoint_expr b
