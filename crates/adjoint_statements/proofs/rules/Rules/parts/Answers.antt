use Rattle.std.proofs.Common.{rules, arith, nat_lt, not}
use Rattle.std.proofs.lemmas.Grind.{common_steps}
use Rattle.parsing.specs.declared.fault.Cause.TheVariants.{Expected}
use Rattle.parsing.specs.Terminal.{on}
use Rattle.parsing.specs.Reading.{turns}
use Rattle.adjoint_statements.specs.Rooms.{limits_of}
use Rattle.fl_statements.specs.Terminals.{begins_part}
use Rattle.adjoint_statements.specs.AdjointStmtReading as spec
use Rattle.fl_expressions.proofs.Turns.{one_more}
use Rattle.adjoint_statements.proofs.rules.Rules.parts.Goals as goal

pub loop-turn-init : goal.loop-turn-init
unfolding spec.parts
loop-turn-init g c = first_of (search rules, grind (arith, common_steps))

pub loop-turn-preserved : goal.loop-turn-preserved
loop-turn-preserved g c =
    let e = one_more (λ n. turns (on begins_part) (λ b. not b.closed) Expected (spec.part (limits_of c.args.self.now.room) (nat_lt 0 c.args.self.now.blocks) (spec.nested (limits_of c.args.self.now.room) c.args.self.now.blocks) c.args.self.now.inside) n c.loop-turn.found c.loop-turn.tokens)
    _ c.loop-turn._turn c.loop-turn-test.true c.loop-turn.invariant in
    first_of (search rules, grind (arith, common_steps))
