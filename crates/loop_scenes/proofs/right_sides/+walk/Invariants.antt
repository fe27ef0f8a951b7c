use Rattle.std.proofs.Common.{◌≡◌, ◌++◌, drop}
use Rattle.fl_ast.specs.Tree.{stmt_trees, arm_trees}
use Rattle.fl_types.specs.Sharing.{has_name}
use Rattle.loop_scenes.specs.Scened.{scope_there}
use Rattle.loop_scenes.specs.Marks.{walked_in, walked_in_arms}
use Rattle.loop_scenes.proofs.right_sides.+walk.Given as goal

abbrev pub invariant-walk_all-loop-stmt : goal.invariant-walk_all-loop-stmt
invariant-walk_all-loop-stmt l =
    l.marks ++ walked_in (scope_there l.scene) (λ x. has_name x l.active.names) (stmt_trees (drop l.stmt-index l.stmts)) ≡ l.fn.marks ++ walked_in (scope_there l.scene) (λ x. has_name x l.active.names) (stmt_trees l.stmts)

abbrev pub invariant-walk_arms-loop-arm : goal.invariant-walk_arms-loop-arm
invariant-walk_arms-loop-arm l =
    l.marks ++ walked_in_arms (scope_there l.scene) (λ x. has_name x l.active.names) (arm_trees (drop l.arm-index l.arms)) ≡ l.fn.marks ++ walked_in_arms (scope_there l.scene) (λ x. has_name x l.active.names) (arm_trees l.arms)
