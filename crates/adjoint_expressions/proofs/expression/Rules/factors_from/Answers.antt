use Rattle.std.proofs.Common.{rules, arith, Some}
use Rattle.std.proofs.lemmas.Grind.{common_steps}
use Rattle.parsing.specs.declared.fault.Cause.TheVariants.{Deep}
use Rattle.parsing.specs.Reading.{turns, grouped}
use Rattle.fl_expressions.specs.Terminals.{product_op, is_product_op}
use Rattle.adjoint_expressions.specs.Trees.{binary, may_stand_left}
use Rattle.adjoint_expressions.specs.AdjointReading as spec
use Rattle.fl_expressions.proofs.Turns.{one_more}
use Rattle.adjoint_expressions.proofs.expression.Rules.factors_from.Goals as goal

pub loop-turn-init : goal.loop-turn-init
unfolding spec.factors_from
loop-turn-init g c = first_of (search rules, grind (arith, common_steps))

pub loop-turn-preserved : goal.loop-turn-preserved
loop-turn-preserved g c =
    let e = one_more (λ n. turns is_product_op (may_stand_left (Some c.args.d)) Deep (grouped product_op binary (spec.factor c.args.self.now.brackets (spec.adjoint_below c.args.self.now.brackets)) (Some c.args.d)) n c.loop-turn.left c.loop-turn.tokens)
    _ c.loop-turn._turn c.loop-turn-test.true c.loop-turn.invariant.reads in
    first_of (search rules, grind (arith, common_steps))
