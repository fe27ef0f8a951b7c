-- Lists of subscripts and of statements.
use Rattle.std.proofs.Common.{◌≡◌, ◌≤◌, List, [], ◌∷◌, length, Bool, true, false, ◌&&◌, refl, arith}
use Rattle.fl_ast.specs.declared.stmt.Stmt.{Stmt}
use Rattle.fl_ast.specs.Tree.{stmt_tree, stmt_trees}
use Rattle.fl_types.specs.Nests.{is_plain_loop, is_one_loop}

and_no : (b : Bool) → (b && false) ≡ false
and_no true = refl
and_no false = refl

pub many_alone : (ss : List Stmt) → 2 ≤ length ss → is_one_loop (stmt_trees ss) ≡ false
many_alone [] h = absurd (omega arith)
many_alone (s ∷ []) h = absurd (omega arith)
many_alone (s ∷ t ∷ ss) h = and_no (is_plain_loop (stmt_tree s))
