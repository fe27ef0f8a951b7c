use Rattle.std.proofs.Common.{◌≡◌, ◌-◌}
use Rattle.parsing.specs.declared.symbol.Symbol.TheVariants as s
use Rattle.parsing.specs.declared.fault.Cause.TheVariants.{Many}
use Rattle.fl_statements.specs.Limits.{limits_of}
use Rattle.parsing.specs.Terminal.{is}
use Rattle.parsing.specs.Reading.{turns}
use Rattle.fl_parser.specs.UnitReading as spec
use Rattle.fl_parser.proofs.decl.items.Given as goal

abbrev pub invariant-loop-turn : goal.invariant-loop-turn
invariant-loop-turn l = spec.items (limits_of l.limits) l.fn.head.line (l.fn.head.kind, l.fn.head.bytes) l.fn.head.intent l.fn.found l.initial.tokens
    ≡ turns (is s.Comma) (spec.may_declare (limits_of l.limits)) Many (spec.another_item (limits_of l.limits) l.head.line (l.head.kind, l.head.bytes) l.head.intent) (l._turn-end - l._turn) l.found l.tokens
