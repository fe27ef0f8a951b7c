use Rattle.std.proofs.Common.{◌≡◌, ◌-◌, true}
use Rattle.parsing.specs.declared.symbol.Symbol.TheVariants as s
use Rattle.parsing.specs.declared.fault.Cause.TheVariants.{Expected}
use Rattle.parsing.specs.Terminal.{is}
use Rattle.parsing.specs.Reading.{turns}
use Rattle.omp_clauses.specs.ClauseReading as spec
use Rattle.omp_clauses.proofs.clause.more_names.Given as goal

abbrev pub invariant-loop-turn : goal.invariant-loop-turn
invariant-loop-turn l = spec.more_names true l.fn.sharing l.fn.found l.initial.tokens
    ≡ turns (is s.Comma) (λ x. true) Expected (spec.another_name true l.sharing) (l._turn-end - l._turn) l.found l.tokens
