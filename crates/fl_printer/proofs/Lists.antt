-- Tokens of lists.
use Rattle.std.proofs.Common.{◌≡◌, true, false, List, [], ◌∷◌, ◌++◌, length, refl, ap, ◌∙◌, append_assoc}
use Rattle.std.specs.Prelude.{◌==◌}
use Rattle.fl_ast.specs.declared.expr.Expr.{Expr}
use Rattle.fl_ast.specs.Tree.{expr_trees}
use Rattle.fl_printer.specs.declared.spaced.Spaced.{Spaced}
use Rattle.fl_printer.specs.Words.{bracketed_words, subscript_words}

-- subscripts stand in brackets where there are any
pub some_subscripts : (es : List Expr) → (length es == 0) ≡ false → bracketed_words (expr_trees es) ≡ subscript_words (expr_trees es)
some_subscripts [] h = absurd (let g : true ≡ false = h in cc)
some_subscripts (e ∷ es) h = refl

-- four tokens, one behind the other
pub four : (a b c d e : List Spaced) (w x y z : Spaced) → b ≡ a ++ w ∷ [] → c ≡ b ++ x ∷ [] → d ≡ c ++ y ∷ [] → e ≡ d ++ z ∷ [] → e ≡ a ++ w ∷ x ∷ y ∷ z ∷ []
four a b c d e w x y z f g h i =
    i ∙ ap (λ s. s ++ z ∷ []) (h ∙ ap (λ s. s ++ y ∷ []) (g ∙ ap (λ s. s ++ x ∷ []) f))
    ∙ append_assoc ((a ++ w ∷ []) ++ x ∷ []) (y ∷ []) (z ∷ []) ∙ append_assoc (a ++ w ∷ []) (x ∷ []) (y ∷ z ∷ []) ∙ append_assoc a (w ∷ []) (x ∷ y ∷ z ∷ [])

pub chain : (a b c xs ys : List Spaced) → b ≡ a ++ xs → c ≡ b ++ ys → c ≡ a ++ (xs ++ ys)
chain a b c xs ys f g = g ∙ ap (λ s. s ++ ys) f ∙ append_assoc a xs ys
