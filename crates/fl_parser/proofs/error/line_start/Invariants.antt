use Rattle.std.proofs.Common.{◌≡◌}
use Rattle.fl_parser.specs.Parsed as spec
use Rattle.fl_parser.proofs.error.line_start.Given as goal

abbrev pub invariant-loop-before : goal.invariant-loop-before
invariant-loop-before l = l.start ≡ spec.line_start l.tokens l.before
