-- The plain trees of an adjoint's expressions that are built.
use Rattle.std.proofs.Common.{◌≡◌, ℕ, List, sym, ap, ◌∙◌}
use Rattle.fl_ast.specs.declared.kind.Kind.{Kind}
use Rattle.fl_ast.specs.declared.kind.BinOp.{BinOp}
use Rattle.fl_ast.specs.declared.kind.Fun.{Fun}
use Rattle.fl_ast.specs.declared.expr.Expr.{Expr}
use Rattle.fl_ast.specs.declared.expr.Cond.{Cond}
use Rattle.fl_ast.specs.declared.adjoint.AExpr.{AExpr}
use Rattle.fl_ast.specs.declared.adjoint.AExpr.TheVariants.{Lit, Get, Neg, Bin, Pow, Call, Merge, rolls-Lit, rolls-Get, rolls-Neg, rolls-Bin, rolls-Pow, rolls-Call, rolls-Merge}
use Rattle.fl_ast.specs.declared.adjoint.AExpr.TheFolds.{fold-roll-AExpr}
use Rattle.fl_ast.specs.declared.adjoint.AExpr.TheOpen.{AExpr-F}
use Rattle.fl_ast.specs.Tree.{expr_trees, cond_tree}
use Rattle.fl_ast.specs.AdjointTree.{AdjointExpression, adjoint_literal, adjoint_get, adjoint_minus, adjoint_binary, adjoint_power, adjoint_call, merge, aexpr_level, aexpr_tree, aexpr_trees}
use Rattle.fl_expressions.specs.Trees.{place_at}
use Rattle.fl_printed.proofs.Folded.{place-of}

pub tree-Lit : (v : ℕ) (k : Kind) → aexpr_tree (Lit v k) ≡ adjoint_literal v k
tree-Lit v k = ap aexpr_tree (sym (rolls-Lit v k)) ∙ fold-roll-AExpr AdjointExpression aexpr_level (AExpr-F.Lit v k)

pub tree-Get : (x : List ℕ) (es : List Expr) → aexpr_tree (Get (place_at x es)) ≡ adjoint_get (record { name = x; subscripts = expr_trees es })
tree-Get x es = ap aexpr_tree (sym (rolls-Get (place_at x es))) ∙ fold-roll-AExpr AdjointExpression aexpr_level (AExpr-F.Get (place_at x es)) ∙ ap adjoint_get (place-of x es)

pub tree-Neg : (e : AExpr) → aexpr_tree (Neg e) ≡ adjoint_minus (aexpr_tree e)
tree-Neg e = ap aexpr_tree (sym (rolls-Neg e)) ∙ fold-roll-AExpr AdjointExpression aexpr_level (AExpr-F.Neg e)

pub tree-Bin : (o : BinOp) (l r : AExpr) → aexpr_tree (Bin o l r) ≡ adjoint_binary o (aexpr_tree l) (aexpr_tree r)
tree-Bin o l r = ap aexpr_tree (sym (rolls-Bin o l r)) ∙ fold-roll-AExpr AdjointExpression aexpr_level (AExpr-F.Bin o l r)

pub tree-Pow : (e : AExpr) (n : ℕ) → aexpr_tree (Pow e n) ≡ adjoint_power (aexpr_tree e) n
tree-Pow e n = ap aexpr_tree (sym (rolls-Pow e n)) ∙ fold-roll-AExpr AdjointExpression aexpr_level (AExpr-F.Pow e n)

pub tree-Call : (f : Fun) (es : List AExpr) → aexpr_tree (Call f es) ≡ adjoint_call f (aexpr_trees es)
tree-Call f es = ap aexpr_tree (sym (rolls-Call f es)) ∙ fold-roll-AExpr AdjointExpression aexpr_level (AExpr-F.Call f es)

pub tree-Merge : (l r : AExpr) (c : Cond) → aexpr_tree (Merge l r c) ≡ merge (aexpr_tree l) (aexpr_tree r) (cond_tree c)
tree-Merge l r c = ap aexpr_tree (sym (rolls-Merge l r c)) ∙ fold-roll-AExpr AdjointExpression aexpr_level (AExpr-F.Merge l r c)
