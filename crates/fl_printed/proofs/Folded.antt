-- The plain trees of expressions that are built.
use Rattle.std.proofs.Common.{◌≡◌, ℕ, List, [], sym, ap, ◌∙◌}
use Rattle.fl_ast.specs.declared.kind.Kind.{Kind}
use Rattle.fl_ast.specs.declared.kind.BinOp.{BinOp}
use Rattle.fl_ast.specs.declared.kind.Fun.{Fun}
use Rattle.fl_ast.specs.declared.expr.Expr.{Expr}
use Rattle.fl_ast.specs.declared.expr.Expr.TheVariants.{Lit, Get, Neg, Bin, Pow, Call, rolls-Lit, rolls-Get, rolls-Neg, rolls-Bin, rolls-Pow, rolls-Call}
use Rattle.fl_ast.specs.declared.expr.Expr.TheFolds.{fold-roll-Expr, fold_out-Place}
use Rattle.fl_ast.specs.declared.expr.Expr.TheOpen.{Expr-F}
use Rattle.fl_ast.specs.Tree.{Expression, Designator, literal, get, minus, binary, power, call, expr_level, place_level, expr_tree, expr_trees, place_tree}
use Rattle.fl_expressions.specs.Trees.{place_at}

pub tree-Lit : (v : ℕ) (k : Kind) → expr_tree (Lit v k) ≡ literal v k
tree-Lit v k = ap expr_tree (sym (rolls-Lit v k)) ∙ fold-roll-Expr Expression Designator expr_level place_level (Expr-F.Lit v k)

pub tree-Neg : (e : Expr) → expr_tree (Neg e) ≡ minus (expr_tree e)
tree-Neg e = ap expr_tree (sym (rolls-Neg e)) ∙ fold-roll-Expr Expression Designator expr_level place_level (Expr-F.Neg e)

pub tree-Bin : (o : BinOp) (l r : Expr) → expr_tree (Bin o l r) ≡ binary o (expr_tree l) (expr_tree r)
tree-Bin o l r = ap expr_tree (sym (rolls-Bin o l r)) ∙ fold-roll-Expr Expression Designator expr_level place_level (Expr-F.Bin o l r)

pub place-of : (x : List ℕ) (es : List Expr) → place_tree (place_at x es) ≡ record { name = x; subscripts = expr_trees es }
place-of x es = fold_out-Place Expression Designator expr_level place_level (place_at x es)

pub tree-Get : (x : List ℕ) (es : List Expr) → expr_tree (Get (place_at x es)) ≡ get x (expr_trees es)
tree-Get x es = ap expr_tree (sym (rolls-Get (place_at x es))) ∙ fold-roll-Expr Expression Designator expr_level place_level (Expr-F.Get (place_at x es)) ∙ ap (λ p. get p.name p.subscripts) (place-of x es)

pub tree-Pow : (e : Expr) (n : ℕ) → expr_tree (Pow e n) ≡ power (expr_tree e) n
tree-Pow e n = ap expr_tree (sym (rolls-Pow e n)) ∙ fold-roll-Expr Expression Designator expr_level place_level (Expr-F.Pow e n)

pub tree-Call : (f : Fun) (es : List Expr) → expr_tree (Call f es) ≡ call f (expr_trees es)
tree-Call f es = ap expr_tree (sym (rolls-Call f es)) ∙ fold-roll-Expr Expression Designator expr_level place_level (Expr-F.Call f es)
