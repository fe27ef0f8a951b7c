use Rattle.std.proofs.Common.{refl}
use Rattle.fl_ast.specs.Tree.{stmt_trees, arm_trees}
use Rattle.loop_accesses.specs.Infos.{infos_of_all, infos_of_arms}
use Rattle.loop_accesses.proofs.Views.{finished}
use Rattle.loop_accesses.proofs.infos.+infos.Goals as goal

pub push_infos_of_all-returns : goal.push_infos_of_all-returns
push_infos_of_all-returns t c =
    finished (λ ss. infos_of_all (stmt_trees ss)) refl c.args.stmts.now c.loop-stmt.stmt-index c.loop-stmt.infos c.args.infos.now c.loop-stmt.invariant c.loop-stmt-test.false

pub push_infos_of_arms-returns : goal.push_infos_of_arms-returns
push_infos_of_arms-returns t c =
    finished (λ as'. infos_of_arms (arm_trees as')) refl c.args.arms.now c.loop-arm.arm-index c.loop-arm.infos c.args.infos.now c.loop-arm.invariant c.loop-arm-test.false
