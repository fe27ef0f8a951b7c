use Rattle.std.proofs.Common.{◌++◌, ℕ, Bool, List, sym, ap, ◌∙◌}
use Rattle.fl_ast.specs.Tree.{Statement, stmt_trees, arm_trees, expr_tree, step_tree}
use Rattle.fl_types.specs.Sharing.{has_name}
use Rattle.loop_scenes.specs.Scened.{scope_there}
use Rattle.loop_scenes.specs.Marks.{bounds_marks, walked, walked_in, walked_in_arms}
use Rattle.loop_scenes.proofs.Terms.{two_groups}
use Rattle.loop_scenes.proofs.Trees.{branch_of, loop_of}
use Rattle.loop_scenes.proofs.right_sides.+walk.Goals as goal

pub walk-returns-in_ok-walk_all-in-If : goal.walk-returns-in_ok-walk_all-in-If
walk-returns-in_ok-walk_all-in-If t c =
    let s = scope_there c.args.scene.now in
    let on : List ℕ → Bool = λ x. has_name x c.args.active.now.names in
    let xs = c.as_slice.result.now in
    let ys = c.as_slice-in-If.result.now in
    two_groups (walked_in_arms s on (arm_trees xs)) (walked_in s on (stmt_trees ys)) c.args.marks.now c.walk_arms.new.marks c.walk_all.new.marks c.in_ok-walk_arms-in-If.ensures c.in_ok-walk_all-in-If.ensures
    ∙ ap (λ (u : Statement). c.args.marks.now ++ walked s on u) (sym (branch_of c.args.stmt.now c.in-If.line c.in-If.arms xs c.in-If.other ys c.in-If.is c.as_slice.ensures c.as_slice-in-If.ensures))

pub walk-returns-in_ok-walk_all-in-Do : goal.walk-returns-in_ok-walk_all-in-Do
walk-returns-in_ok-walk_all-in-Do t c =
    let s = scope_there c.args.scene.now in
    let on : List ℕ → Bool = λ x. has_name x c.args.active.now.names in
    let d = c.in-Do in
    let ys = c.as_slice-in-Do.result.now in
    two_groups (bounds_marks s (expr_tree d.first) (expr_tree d.last) (step_tree d.step)) (walked_in s on (stmt_trees ys)) c.args.marks.now c.push_bounds_marks.new.marks c.walk_all-in-Do.new.marks c.in_ok-push_bounds_marks-in-Do.ensures c.in_ok-walk_all-in-Do.ensures
    ∙ ap (λ (u : Statement). c.args.marks.now ++ walked s on u) (sym (loop_of c.args.stmt.now d.line d.number d.directive d.var d.first d.last d.step d.body ys d.is c.as_slice-in-Do.ensures))
