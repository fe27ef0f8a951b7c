-- What the tokens of printed words are read as, line numbers aside.
use Rattle.std.specs.Prelude.{◌≡◌, ℕ, List, map}
use Rattle.fl_ast.specs.Tree.{Expression, Expressions, expr_tree, expr_trees}
use Rattle.fl_ast.specs.Measures.{depth, deepest}
use Rattle.parsing.specs.Reading.{Lexemes}
use Rattle.parsing.specs.Grammar.{Grammar}
use Rattle.fl_expressions.specs.declared.tree.Measured.{Measured}
use Rattle.fl_expressions.specs.declared.tree.Listed.{Listed}
use Rattle.fl_printer.specs.declared.spaced.Spaced.{Spaced}
use Rattle.fl_printer.specs.Lexemes.{unplaced, words_lexemes}

-- the lexemes are those of these words
abbrev pub AreOf : Lexemes → List Spaced → Type 0
AreOf us ws = map unplaced us ≡ words_lexemes ws

-- in the grammar the lexemes are an expression of this plain tree, with its depth
pub record IsReadAs (N : Grammar Measured) (us : Lexemes) (e : Expression) : Type 0 where
  pub value : Measured
  pub tree : expr_tree value.expr ≡ e
  pub levels : value.depth ≡ depth e
  pub reads : N value us

-- the same of several expressions
pub record AreReadAs (N : Grammar Listed) (us : Lexemes) (s : Expressions) : Type 0 where
  pub value : Listed
  pub trees : expr_trees value.exprs ≡ s
  pub levels : value.depth ≡ deepest s
  pub reads : N value us
