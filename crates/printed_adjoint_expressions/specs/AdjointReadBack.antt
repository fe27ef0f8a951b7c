-- What the tokens of an adjoint's printed expressions are read as, line numbers aside.
use Rattle.std.specs.Prelude.{◌≡◌, List, [], ◌∷◌}
use Rattle.fl_ast.specs.AdjointTree.{AdjointExpression, aexpr_tree}
use Rattle.fl_ast.specs.ReadableAdjoint.{adjoint_depth}
use Rattle.parsing.specs.Reading.{Lexemes}
use Rattle.parsing.specs.Grammar.{Grammar}
use Rattle.adjoint_expressions.specs.declared.tree.AMeasured.{AMeasured}
use Rattle.fl_printer.specs.declared.spaced.Spaced.{Spaced}
use Rattle.fl_printed.specs.Fits.{Fits}

-- as many lexemes as words, each the one that its word is a token of
abbrev pub AreEachOf : Lexemes → List Spaced → Type 0
AreEachOf [] [] = Unit {0}
AreEachOf [] (w ∷ ws) = ⊥
AreEachOf (t ∷ us) [] = ⊥
AreEachOf (t ∷ us) (w ∷ ws) = Fits t w.text × AreEachOf us ws

-- in the grammar the lexemes are an expression of this plain tree, with its depth
pub record IsAdjointReadAs (N : Grammar AMeasured) (us : Lexemes) (e : AdjointExpression) : Type 0 where
  pub value : AMeasured
  pub tree : aexpr_tree value.expr ≡ e
  pub levels : value.depth ≡ adjoint_depth e
  pub reads : N value us
