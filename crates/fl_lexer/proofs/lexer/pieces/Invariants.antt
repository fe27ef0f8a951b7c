-- The tokens so far and the bytes left make the tokens of all.
use Rattle.std.proofs.Common.{◌≡◌, ◌+◌, ◌-◌, length, drop}
use Rattle.fl_lexer.specs.Reading as spec
use Rattle.fl_lexer.proofs.lexer.pieces.Given as goal

abbrev pub invariant-loop-at : goal.invariant-loop-at
invariant-loop-at l =
    spec.pieces l.fn.place 0 (l.fn.from + l.at) (drop l.at l.bytes) l.tokens.items
    ≡ spec.pieces l.fn.place l.fn.skipped l.fn.from l.bytes l.initial.tokens.items

abbrev pub decreases-loop-at : goal.decreases-loop-at
decreases-loop-at l = length l.bytes - l.at
