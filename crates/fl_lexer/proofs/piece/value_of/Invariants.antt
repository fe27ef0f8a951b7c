-- The number so far and the digits left make the number of all.
use Rattle.std.proofs.Common.{◌≡◌, ◌≤◌, drop}
use Rattle.fl_lexer.specs.Pieces as spec
use Rattle.fl_lexer.proofs.piece.value_of.Given as goal

abbrev pub invariant-loop-digit : goal.invariant-loop-digit
invariant-loop-digit l = record {
  number : spec.number_from l.value (drop l.digit-index l.digits) ≡ spec.number_from 0 l.digits;
  small : l.value ≤ 9223372036854775807;
}
