use Rattle.std.proofs.Common.{rules, arith, nat_lt, true, Some}
use Rattle.std.proofs.lemmas.Grind.{common_steps}
use Rattle.parsing.specs.declared.symbol.Symbol.TheVariants as s
use Rattle.parsing.specs.declared.fault.Cause.TheVariants.{Expected}
use Rattle.parsing.specs.Terminal.{is}
use Rattle.parsing.specs.Reading.{turns}
use Rattle.fl_expressions.specs.ExprReading as spec
use Rattle.fl_expressions.proofs.Turns.{one_more}
use Rattle.fl_expressions.proofs.expression.Rules.more_exprs.Goals as goal

pub loop-turn-init : goal.loop-turn-init
unfolding spec.more_exprs
loop-turn-init g c = first_of (search rules, grind (arith, common_steps))

pub loop-turn-preserved : goal.loop-turn-preserved
loop-turn-preserved g c =
    let e = one_more (λ n. turns (is s.Comma) (λ x. true) Expected (spec.another_expr (nat_lt 0 c.args.self.now.brackets) (spec.below c.args.self.now.brackets) (Some c.args.d)) n c.loop-turn.found c.loop-turn.tokens)
    _ c.loop-turn._turn c.loop-turn-test.true c.loop-turn.invariant.reads in
    first_of (search rules, grind (arith, common_steps))
