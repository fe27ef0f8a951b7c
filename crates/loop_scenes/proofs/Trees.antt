-- What the trees of statements are.
use Rattle.std.proofs.Common.{rules, ◌≡◌, ℕ, List, Option, ap, ◌∙◌}
use Rattle.fl_ast.specs.declared.directive.Directive.{Directive}
use Rattle.fl_ast.specs.declared.expr.Expr.{Expr}
use Rattle.fl_ast.specs.declared.stmt.Arm.{Arm}
use Rattle.fl_ast.specs.declared.stmt.Stmt.{Stmt, the_lemmas as stmt_lemmas}
use Rattle.fl_ast.specs.declared.stmt.Stmt.TheVariants.{If, Do}
use Rattle.fl_ast.specs.Tree.{expr_tree, step_tree, branch, loop, stmt_tree, stmt_trees, arm_trees}

pub branch_of : (s : Stmt) (line : ℕ) (arms xs : List Arm) (other ys : List Stmt) → s ≡ If line arms other → xs ≡ arms → ys ≡ other → stmt_tree s ≡ branch line (arm_trees xs) (stmt_trees ys)
branch_of s line arms xs other ys h f g = ap stmt_tree h ∙ (rw (f, g) (search (rules, stmt_lemmas)))

pub loop_of : (s : Stmt) (line number : ℕ) (d : Option Directive) (var : List ℕ) (first last : Expr) (step : Option Expr) (body ys : List Stmt) → s ≡ Do line number d var first last step body → ys ≡ body →
    stmt_tree s ≡ loop line number d var (expr_tree first) (expr_tree last) (step_tree step) (stmt_trees ys)
loop_of s line number d var first last step body ys h g = ap stmt_tree h ∙ (rw g (search (rules, stmt_lemmas)))
