use Rattle.std.proofs.Common.{◌+◌, ◌-◌, ◌*◌, get_or, drop, arith}
use Rattle.fl_lexer.proofs.NumberLaws.{number_from-drop, number_from-le}
use Rattle.fl_lexer.proofs.piece.value_of.Goals as goal

pub returns-then-value-digit : goal.returns-then-value-digit
returns-then-value-digit c = λ small.
    let ds = c.args.digits.now in
    let i = c.loop-digit.digit-index in
    let v = c.loop-digit.value in
    let more = number_from-drop ds i v c.loop-digit-test.true in
    let least = number_from-le (v * 10 + (get_or ds i 0 - 48)) (drop (i + 1) ds) in
    omega (arith, small, more, least, c.loop-digit.invariant.number, c.from-digit.ensures, c.saturating_sub.ensures, c.if-value-digit.true)
