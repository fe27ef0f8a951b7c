use Rattle.std.proofs.Common.{◌≡◌, ◌++◌, drop}
use Rattle.fl_ast.specs.Tree.{expr_trees}
use Rattle.loop_scenes.specs.Scened.{scope_there}
use Rattle.loop_scenes.specs.Marks.{marks_all}
use Rattle.loop_scenes.proofs.marks.+push_marks.Given as goal

abbrev pub invariant-push_all_marks-loop-expr : goal.invariant-push_all_marks-loop-expr
invariant-push_all_marks-loop-expr l =
    l.marks ++ marks_all (scope_there l.scene) l.right (expr_trees (drop l.expr-index l.exprs)) ≡ l.fn.marks ++ marks_all (scope_there l.scene) l.right (expr_trees l.exprs)
