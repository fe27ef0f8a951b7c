-- The tokens so far and the lines left make the tokens of the text.
use Rattle.std.proofs.Common.{◌≡◌, ◌+◌, ◌≤◌, false, [], length}
use Rattle.fl_lexer.specs.Lines.{lines}
use Rattle.fl_lexer.specs.Reading as spec
use Rattle.fl_lexer.proofs.lexer.all_lines.Given as goal

abbrev pub invariant-loop-rest : goal.invariant-loop-rest
invariant-loop-rest l = record {
  told : spec.all_lines l.place l.continued (lines l.rest) l.tokens.items ≡ spec.all_lines spec.first_place false (lines l.fn.text) [];
  length : l.place.start + length l.rest ≡ length l.fn.text;
  count : l.place.line ≤ l.place.start + 1;
}

abbrev pub decreases-loop-rest : goal.decreases-loop-rest
decreases-loop-rest l = length l.rest
