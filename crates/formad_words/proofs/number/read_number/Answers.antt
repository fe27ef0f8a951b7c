use Rattle.std.proofs.Common.{sym, ◌∙◌, ◌+◌, ◌-◌, ◌*◌, ◌<◌, get_or, arith}
use Rattle.formad_words.proofs.NumbersRead.{no_numeral, too_great, all_read, opened}
use Rattle.formad_words.proofs.number.read_number.Goals as goal

pub returns-then-not-is_numeral : goal.returns-then-not-is_numeral
returns-then-not-is_numeral c = sym (no_numeral _ _ (cc))

pub returns-then-number-most : goal.returns-then-number-most
returns-then-number-most c =
    let great : c.args.most < c.loop-byte.number * 10 + (get_or c.args.text.now c.loop-byte.byte-index 0 - 48) =
    omega (arith, c.if-number-most.true, c.from.ensures, c.saturating_sub.ensures) in
    sym (too_great _ _ _ _ (sym (opened _ _ c.loop-byte.number c.loop-byte-test.true) ∙ c.loop-byte.invariant.whole) great)

pub returns : goal.returns
returns c = sym (all_read _ _ _ _ c.loop-byte.invariant.whole c.loop-byte-test.false c.loop-byte.invariant.small (cc))
