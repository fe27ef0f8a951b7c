-- Lists of trees of two lengths are not the same.
use Rattle.std.specs.Prelude.{◌≡◌, suc, false, List, [], ◌∷◌, refl}
use Rattle.std.proofs.Common.{ap, sym, length}
use Rattle.std.proofs.lemmas.Bool.{and_right}
use Rattle.fl_ast.specs.declared.expr.Expr.{Expr}
use Rattle.fl_ast.specs.Tree.{expr_tree, expr_trees}
use Rattle.fl_ast.specs.Same.{same_expression, same_expressions}

apart : (s t : List Expr) → (length s ≡ length t → ⊥) → same_expressions (expr_trees s) (expr_trees t) ≡ false
apart [] [] h = absurd (h refl)
apart [] (b ∷ t) h = refl
apart (a ∷ s) [] h = refl
apart (a ∷ s) (b ∷ t) h = and_right (same_expression (expr_tree a) (expr_tree b)) _ (apart s t (λ e. h (ap (λ n. suc n) e)))

pub other_length : (s t : List Expr) → (length s ≡ length t → ⊥) → false ≡ same_expressions (expr_trees s) (expr_trees t)
other_length s t h = sym (apart s t h)
