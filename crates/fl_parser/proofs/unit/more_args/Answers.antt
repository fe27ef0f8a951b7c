use Rattle.std.proofs.Common.{rules, arith, true}
use Rattle.std.proofs.lemmas.Grind.{common_steps}
use Rattle.parsing.specs.declared.symbol.Symbol.TheVariants as s
use Rattle.parsing.specs.declared.fault.Cause.TheVariants.{Expected}
use Rattle.parsing.specs.Terminal.{is}
use Rattle.parsing.specs.Reading.{turns}
use Rattle.fl_parser.specs.UnitReading as spec
use Rattle.fl_expressions.proofs.Turns.{one_more}
use Rattle.fl_parser.proofs.unit.more_args.Goals as goal

pub loop-turn-init : goal.loop-turn-init
unfolding spec.more_args
loop-turn-init c = first_of (search rules, grind (arith, common_steps))

pub loop-turn-preserved : goal.loop-turn-preserved
loop-turn-preserved c =
    let e = one_more (λ n. turns (is s.Comma) (λ x. true) Expected spec.another_arg n c.loop-turn.found c.loop-turn.tokens)
    _ c.loop-turn._turn c.loop-turn-test.true c.loop-turn.invariant in
    first_of (search rules, grind (arith, common_steps))
