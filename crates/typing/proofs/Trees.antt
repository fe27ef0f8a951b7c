-- Trees of places.
use Rattle.std.proofs.Common.{◌≡◌, List, [], ◌∷◌, length, rules, refl, arith}
use Rattle.fl_ast.specs.declared.expr.Expr.{Expr, the_lemmas as expr_lemmas}
use Rattle.fl_ast.specs.declared.expr.Place.{Place}
use Rattle.fl_ast.specs.Tree.{expr_trees, place_tree}
use Rattle.fl_types.specs.Kinds.{expression_count}

pub place_name : (p : Place) → (place_tree p).name ≡ p.name
place_name p = search (rules, expr_lemmas)

pub place_subscripts : (p : Place) → (place_tree p).subscripts ≡ expr_trees p.subscripts
place_subscripts p = search (rules, expr_lemmas)

pub count_length : (es : List Expr) → expression_count (expr_trees es) ≡ length es
count_length [] = refl
count_length (e ∷ es) = let i : expression_count (expr_trees es) ≡ length es = count_length es in omega (arith, i)

pub ruleset places = (place_name, place_subscripts)
