use Rattle.std.proofs.Common.{◌≡◌, ◌-◌}
use Rattle.parsing.specs.declared.symbol.Symbol.TheVariants as s
use Rattle.parsing.specs.declared.fault.Cause.TheVariants.{Many}
use Rattle.fl_statements.specs.Limits.{limits_of}
use Rattle.parsing.specs.Terminal.{is}
use Rattle.parsing.specs.Reading.{turns}
use Rattle.fl_parser.specs.UnitReading as spec
use Rattle.fl_parser.proofs.decl.decls.Given as goal

abbrev pub invariant-loop-turn : goal.invariant-loop-turn
invariant-loop-turn l = spec.decls (limits_of l.limits) l.initial.tokens
    ≡ turns (is s.Integer) (spec.may_declare (limits_of l.limits)) Many (spec.decl (limits_of l.limits)) (l._turn-end - l._turn) l.found l.tokens
