-- Lists of trees by their length.
use Rattle.std.proofs.Common.{◌≡◌, ◌<◌, ◌≤◌, List, [], ◌∷◌, length, Bool, true, false, ◌&&◌, refl, arith}
use Rattle.fl_ast.specs.declared.decl.Decl.{Decl}
use Rattle.fl_ast.specs.declared.expr.Expr.{Expr}
use Rattle.fl_ast.specs.declared.stmt.Stmt.{Stmt}
use Rattle.fl_ast.specs.Tree.{expr_trees, stmt_tree, stmt_trees}
use Rattle.fl_types.specs.Kinds.{kinds_of_expressions, declared_names}
use Rattle.fl_types.specs.Nests.{is_plain_loop, is_one_loop}
use Rattle.fl_types.specs.Rows.{differ}
use Rattle.typing.specs.declared.around.Ends.{Ends}
use Rattle.typing.specs.Firsts.{nothing_ends, at_last}

pub few_agree : (decls : List Decl) (es : List Expr) → length es < 2 → false ≡ differ (kinds_of_expressions (declared_names decls) (expr_trees es))
few_agree decls [] h = refl
few_agree decls (e ∷ []) h = refl
few_agree decls (e ∷ f ∷ es) h = absurd (omega arith)

pub many_agree : (decls : List Decl) (es : List Expr) → 3 ≤ length es → false ≡ differ (kinds_of_expressions (declared_names decls) (expr_trees es))
many_agree decls [] h = absurd (omega arith)
many_agree decls (e ∷ []) h = absurd (omega arith)
many_agree decls (e ∷ f ∷ []) h = absurd (omega arith)
many_agree decls (e ∷ f ∷ g ∷ es) h = refl

and_no : (b : Bool) → (b && false) ≡ false
and_no true = refl
and_no false = refl

pub many_alone : (ss : List Stmt) → 2 ≤ length ss → is_one_loop (stmt_trees ss) ≡ false
many_alone [] h = absurd (omega arith)
many_alone (s ∷ []) h = absurd (omega arith)
many_alone (s ∷ t ∷ ss) h = and_no (is_plain_loop (stmt_tree s))

pub none_last : (es : List Expr) (f : Ends) → 1 ≤ length es → nothing_ends ≡ at_last (expr_trees es) f
none_last [] f h = absurd (omega arith)
none_last (e ∷ es) f h = refl
