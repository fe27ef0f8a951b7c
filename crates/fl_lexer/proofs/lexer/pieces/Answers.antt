use Rattle.std.proofs.Common.{◌+◌, drop, sym, ◌∙◌, arith}
use Rattle.std.proofs.lemmas.Result.{err_from_is_err_and}
use Rattle.fl_lexer.specs.Reading as spec
use Rattle.fl_lexer.proofs.ReadLaws.{pieces-skipped, pieces-turn, pieces-err, pieces-end, piece_fits, piece_is, some_left, rest_none, fails_too}
use Rattle.fl_lexer.proofs.lexer.pieces.Goals as goal

pub loop-at-init : goal.loop-at-init
loop-at-init c = sym (pieces-skipped c.args.place c.args.skipped c.args.from c.args.bytes.now c.args.tokens.now.items)

pub with_piece-requires : goal.with_piece-requires
with_piece-requires c =
    let fits = piece_fits c.args.bytes.now c.loop-at.at c.first_piece-piece.result c.loop-at-test.true c.first_piece-piece.ensures in
    omega (arith, fits.0, c.requires.room)

pub returns-in_err-with_piece : goal.returns-in_err-with_piece
returns-in_err-with_piece c =
    let p = err_from_is_err_and c.from_residual.result c.from_residual.ensures.1 in
    let bs = c.args.bytes.now in
    let at = c.loop-at.at in
    let x = c.first_piece-piece.result in
    rw (p.1, p.2) (fails_too (spec.with_piece c.args.place (c.args.from + at) c.loop-at.tokens.items x.len x.kind) _ _
    (λ e h. sym c.loop-at.invariant
    ∙ pieces-err c.args.place (c.args.from + at) (drop at bs) c.loop-at.tokens.items x e (some_left bs at c.loop-at-test.true) (piece_is bs at x c.first_piece-piece.ensures) h)
    c.in_err-with_piece.ensures)

pub overflow_add-at : goal.overflow_add-at
overflow_add-at c =
    let fits = piece_fits c.args.bytes.now c.loop-at.at c.first_piece-piece.result c.loop-at-test.true c.first_piece-piece.ensures in
    omega (arith, fits.0, c.requires.room)

pub loop-at-smaller : goal.loop-at-smaller
loop-at-smaller c =
    let fits = piece_fits c.args.bytes.now c.loop-at.at c.first_piece-piece.result c.loop-at-test.true c.first_piece-piece.ensures in
    omega (arith, fits.0, fits.1)

pub loop-at-preserved : goal.loop-at-preserved
loop-at-preserved c =
    pieces-turn c.args.place c.args.from c.loop-at.at c.args.bytes.now c.loop-at.tokens.items c.with_piece.new.tokens.items c.first_piece-piece.result
    c.loop-at-test.true c.first_piece-piece.ensures c.in_ok-with_piece.ensures
    ∙ c.loop-at.invariant

pub returns : goal.returns
returns c =
    sym c.loop-at.invariant ∙ pieces-end c.args.place (c.args.from + c.loop-at.at) (drop c.loop-at.at c.args.bytes.now) c.loop-at.tokens.items (rest_none c.args.bytes.now c.loop-at.at c.loop-at-test.false)
