use Rattle.std.proofs.Common.{◌≡◌, ◌-◌, true}
use Rattle.parsing.specs.declared.fault.Cause.TheVariants.{Expected}
use Rattle.parsing.specs.Terminal.{on}
use Rattle.parsing.specs.Reading.{turns}
use Rattle.omp_clauses.specs.ClauseReading as spec
use Rattle.omp_clauses.proofs.clause.clauses.Given as goal

abbrev pub invariant-loop-turn : goal.invariant-loop-turn
invariant-loop-turn l = spec.clauses true l.fn.found l.initial.tokens
    ≡ turns (on spec.goes_on) (λ x. true) Expected (spec.next_clause true) (l._turn-end - l._turn) l.found l.tokens
