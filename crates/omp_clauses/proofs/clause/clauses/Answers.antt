use Rattle.std.proofs.Common.{rules, arith, true}
use Rattle.std.proofs.lemmas.Grind.{common_steps}
use Rattle.parsing.specs.declared.fault.Cause.TheVariants.{Expected}
use Rattle.parsing.specs.Terminal.{on}
use Rattle.parsing.specs.Reading.{turns}
use Rattle.omp_clauses.specs.ClauseReading as spec
use Rattle.omp_clauses.proofs.Turns.{one_more}
use Rattle.omp_clauses.proofs.clause.clauses.Goals as goal

pub loop-turn-init : goal.loop-turn-init
unfolding spec.clauses
loop-turn-init c = first_of (search rules, grind (arith, common_steps))

pub loop-turn-preserved : goal.loop-turn-preserved
loop-turn-preserved c =
    let e = one_more (λ n. turns (on spec.goes_on) (λ x. true) Expected (spec.next_clause true) n c.loop-turn.found c.loop-turn.tokens)
    _ c.loop-turn._turn c.loop-turn-test.true c.loop-turn.invariant in
    first_of (search rules, grind (arith, common_steps))
