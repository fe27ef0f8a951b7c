use Rattle.std.proofs.Common.{rules, ◌≡◌, sym, subst}
use Rattle.fl_ast.specs.declared.kind.BinOp.TheVariants.{Add}
use Rattle.fl_ast.specs.declared.expr.Expr.{the_lemmas as expr_lemmas}
use Rattle.fl_ast.specs.Tree.{Expression, binary, expr_tree, place_tree}
use Rattle.fl_types.specs.Increment.{target_of, first_of_sum}
use Rattle.loop_scenes.specs.Scened.{scope_there}
use Rattle.loop_scenes.specs.Marks.{WithTerms}
use Rattle.loop_scenes.proofs.Terms.{sum_first}
use Rattle.loop_scenes.proofs.marks.push_sum_marks.Goals as goal

pub returns-in_ok-push_marks-in-Bin-Add-default-default : goal.returns-in_ok-push_marks-in-Bin-Add-default-default
returns-in_ok-push_marks-in-Bin-Add-default-default c =
    let s = scope_there c.args.scene.now in
    let u = target_of (place_tree c.args.target.now) in
    let r = c.in-Bin-Add-default-default.right in
    let b : expr_tree c.args.value.now ≡ binary Add (expr_tree c.get.result.now) (expr_tree r) = search (rules, expr_lemmas) in
    subst (λ (x : Expression). WithTerms s c.args.right (first_of_sum u x) c.args.marks.now c.push_marks.new.marks) (sym b)
    (sum_first s c.args.right u (expr_tree c.get.result.now) (expr_tree r) c.args.marks.now c.push_marks.new.marks c.in_ok-push_marks-in-Bin-Add-default-default.ensures)
