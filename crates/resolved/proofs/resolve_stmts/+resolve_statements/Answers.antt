use Rattle.std.proofs.Common.{arith}
use Rattle.std.proofs.lemmas.Grind.{common_steps}
use Rattle.resolved.specs.ResolvedStmts.{is_fit, is_arm_fit}
use Rattle.resolved.proofs.Slots.{all_pushed}
use Rattle.resolved.proofs.resolve_stmts.+resolve_statements.Goals as goal

pub resolve_statements-loop-stmt-preserved : goal.resolve_statements-loop-stmt-preserved
resolve_statements-loop-stmt-preserved t c = record {
  trees = grind (arith, common_steps);
  fit = rw c.in_ok-push.ensures.ok (all_pushed (is_fit c.args.table.now) _ _ c.loop-stmt.invariant.fit c.in_ok-stmt.ensures.1);
  placed = grind (arith, common_steps);
}

pub resolve_arms-loop-arm-preserved : goal.resolve_arms-loop-arm-preserved
resolve_arms-loop-arm-preserved t c = record {
  trees = grind (arith, common_steps);
  fit = rw c.in_ok-push.ensures.ok (all_pushed (is_arm_fit c.args.table.now) _ _ c.loop-arm.invariant.fit c.in_ok-resolved.ensures.1);
  placed = grind (arith, common_steps);
}
