use Rattle.std.proofs.Common.{sym, ◌∙◌, ◌+◌, ◌-◌, ◌*◌, ◌<◌, get_or, arith}
use Rattle.certificate.proofs.NumbersRead.{no_numeral, too_great, all_read, opened}
use Rattle.certificate.proofs.number.read_above_zero.Goals as goal

pub returns-then-not-is_numeral-clause-value : goal.returns-then-not-is_numeral-clause-value
returns-then-not-is_numeral-clause-value c = sym (no_numeral _ _ (cc))

pub returns-then-number-from-clause-value : goal.returns-then-number-from-clause-value
returns-then-number-from-clause-value c =
    let great : c.args.most < c.loop-byte.number * 10 + (get_or c.args.text.now c.loop-byte.byte-index 0 - 48) =
    omega (arith, c.if-number-from.true, c.from.ensures, c.from-in-loop-byte.ensures, c.saturating_sub.ensures) in
    sym (too_great _ _ _ _ (sym (opened _ _ c.loop-byte.number c.loop-byte-test.true) ∙ c.loop-byte.invariant.whole) great)

pub returns-clause-value : goal.returns-clause-value
returns-clause-value c = sym (all_read _ _ _ _ c.loop-byte.invariant.whole c.loop-byte-test.false c.loop-byte.invariant.small (cc))
