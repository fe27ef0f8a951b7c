use Rattle.std.proofs.Common.{rules, arith, Some}
use Rattle.std.proofs.lemmas.Grind.{common_steps}
use Rattle.parsing.specs.declared.fault.Cause.TheVariants.{Deep}
use Rattle.parsing.specs.Reading.{turns, grouped}
use Rattle.fl_conditions.specs.Terminals.{or_op, is_or_op}
use Rattle.fl_conditions.specs.Trees.{one_of, may_join}
use Rattle.fl_conditions.specs.CondReading as spec
use Rattle.fl_expressions.proofs.Turns.{one_more}
use Rattle.fl_conditions.proofs.condition.Rules.ors_from.Goals as goal

pub loop-turn-init : goal.loop-turn-init
unfolding spec.ors_from
loop-turn-init g c = first_of (search rules, grind (arith, common_steps))

pub loop-turn-preserved : goal.loop-turn-preserved
loop-turn-preserved g c =
    let e = one_more (λ n. turns is_or_op (may_join (Some c.args.d)) Deep (grouped or_op one_of (spec.conjunction c.args.self.now.brackets (spec.below_mixed c.args.self.now.brackets)) (Some c.args.d)) n c.loop-turn.left c.loop-turn.tokens)
    _ c.loop-turn._turn c.loop-turn-test.true c.loop-turn.invariant.reads in
    first_of (search rules, grind (arith, common_steps))
