use Rattle.std.proofs.Common.{◌≡◌, ◌-◌, true}
use Rattle.parsing.specs.declared.symbol.Symbol.TheVariants as s
use Rattle.parsing.specs.declared.fault.Cause.TheVariants.{Expected}
use Rattle.parsing.specs.Terminal.{is}
use Rattle.parsing.specs.Reading.{turns}
use Rattle.fl_parser.specs.UnitReading as spec
use Rattle.fl_parser.proofs.unit.more_args.Given as goal

abbrev pub invariant-loop-turn : goal.invariant-loop-turn
invariant-loop-turn l = spec.more_args l.fn.found l.initial.tokens
    ≡ turns (is s.Comma) (λ x. true) Expected spec.another_arg (l._turn-end - l._turn) l.found l.tokens
