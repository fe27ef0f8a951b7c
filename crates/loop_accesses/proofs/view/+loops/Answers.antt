use Rattle.std.proofs.Common.{refl}
use Rattle.fl_ast.specs.Tree.{stmt_trees, arm_trees}
use Rattle.fl_types.specs.Sharing.{loops_of_all, loops_of_arms}
use Rattle.loop_accesses.specs.Views.{names_in, loop_view}
use Rattle.loop_accesses.proofs.Views.{finished}
use Rattle.std.proofs.Common.{map}
use Rattle.loop_accesses.proofs.view.+loops.Goals as goal

pub push_loops_of_all-returns : goal.push_loops_of_all-returns
push_loops_of_all-returns t c =
    finished (λ ss. loops_of_all (names_in c.args.outer.now) (stmt_trees ss)) refl c.args.stmts.now c.loop-stmt.stmt-index (map loop_view c.loop-stmt.loops) (map loop_view c.args.loops.now) c.loop-stmt.invariant c.loop-stmt-test.false

pub push_loops_of_arms-returns : goal.push_loops_of_arms-returns
push_loops_of_arms-returns t c =
    finished (λ ss. loops_of_arms (names_in c.args.outer.now) (arm_trees ss)) refl c.args.arms.now c.loop-arm.arm-index (map loop_view c.loop-arm.loops) (map loop_view c.args.loops.now) c.loop-arm.invariant c.loop-arm-test.false
