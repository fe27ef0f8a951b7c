use Rattle.std.proofs.Common.{rules, arith}
use Rattle.std.proofs.lemmas.Grind.{common_steps}
use Rattle.parsing.specs.declared.symbol.Symbol.TheVariants as s
use Rattle.parsing.specs.declared.fault.Cause.TheVariants.{Many}
use Rattle.fl_statements.specs.Limits.{limits_of}
use Rattle.parsing.specs.Terminal.{is}
use Rattle.parsing.specs.Reading.{turns}
use Rattle.fl_parser.specs.UnitReading as spec
use Rattle.fl_expressions.proofs.Turns.{one_more}
use Rattle.fl_parser.proofs.decl.items.Goals as goal

pub loop-turn-init : goal.loop-turn-init
unfolding spec.items
loop-turn-init c = first_of (search rules, grind (arith, common_steps))

pub loop-turn-preserved : goal.loop-turn-preserved
loop-turn-preserved c =
    let e = one_more (λ n. turns (is s.Comma) (spec.may_declare (limits_of c.args.limits)) Many (spec.another_item (limits_of c.args.limits) c.args.head.line (c.args.head.kind, c.args.head.bytes) c.args.head.intent) n c.loop-turn.found c.loop-turn.tokens)
    _ c.loop-turn._turn c.loop-turn-test.true c.loop-turn.invariant in
    first_of (search rules, grind (arith, common_steps))
