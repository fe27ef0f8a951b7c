-- The lines left have the same next class as all of them.
use Rattle.std.proofs.Common.{◌≡◌, length}
use Rattle.fl_lexer.specs.Lines as spec
use Rattle.fl_lexer.proofs.line.next_class.Given as goal

abbrev pub invariant-loop-rest : goal.invariant-loop-rest
invariant-loop-rest l = spec.next_class (spec.lines l.rest) ≡ spec.next_class (spec.lines l.fn.text)

abbrev pub decreases-loop-rest : goal.decreases-loop-rest
decreases-loop-rest l = length l.rest
