-- The grammar of conditions.
-- The limit is on the levels that an operand of a relation may have beneath its root; so a condition has one level more.
use Rattle.std.specs.Prelude.{ℕ, zero, suc, nat_lt}
use Rattle.parsing.specs.declared.symbol.Symbol.TheVariants as s
use Rattle.parsing.specs.Limit.{Limit, allows, less}
use Rattle.parsing.specs.Terminal.{marked}
use Rattle.parsing.specs.Grammar.{Grammar, ◌>>=◌, gives, one, ◌or◌, where_, left_grouped}
use Rattle.fl_expressions.specs.ExprGrammar.{expr}
use Rattle.fl_conditions.specs.declared.tree.Judged.{Judged}
use Rattle.fl_conditions.specs.Terminals.{rel_op, and_op, or_op}
use Rattle.fl_conditions.specs.Trees.{related, denial, both, one_of, may_join}

-- expr relop expr
unfoldable pub relation : ℕ → Limit → Grammar Judged
relation b d = do
  l ← expr b d
  op ← one rel_op
  r ← expr b d
  gives (related op l r)

-- With so many brackets to open; inner is a condition in a bracket.
module _ (b : ℕ) (inner : Limit → Grammar Judged) where
  -- "(" cond ")"
  unfoldable pub bracketed : Limit → Grammar Judged
  bracketed d = do
    open_ ← one (marked s.Open)
    c ← inner d
    close ← one (marked s.Close)
    gives c

  -- expr relop expr | "(" cond ")"
  unfoldable pub test : Limit → Grammar Judged
  test d = where_ (nat_lt 0 b) (bracketed d) or relation b d

  -- ".not." test
  unfoldable pub denied : Limit → Grammar Judged
  denied d = do
    not_ ← one (marked s.Not)
    c ← test (less d)
    gives (denial c)

  -- [ ".not." ] test
  unfoldable pub negation : Limit → Grammar Judged
  negation d = where_ (allows d 1) (denied d) or test d

  -- { ".and." neg }
  unfoldable pub ands_from : Limit → Judged → Grammar Judged
  ands_from = left_grouped and_op both may_join negation

  -- neg { ".and." neg }
  unfoldable pub conjunction : Limit → Grammar Judged
  conjunction d = negation d >>= ands_from d

  -- { ".or." conj }
  unfoldable pub ors_from : Limit → Judged → Grammar Judged
  ors_from = left_grouped or_op one_of may_join conjunction

  -- conj { ".or." conj }
  unfoldable pub disjunction : Limit → Grammar Judged
  disjunction d = conjunction d >>= ors_from d

-- with so many brackets to open
unfoldable pub cond : ℕ → Limit → Grammar Judged
cond zero = disjunction zero (λ d c us. ⊥)
cond (suc b) = disjunction (suc b) (cond b)
