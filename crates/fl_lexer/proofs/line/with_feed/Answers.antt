use Rattle.std.proofs.Common.{sym}
use Rattle.fl_lexer.proofs.LineLaws.{with_feed-cr, with_feed-plain}
use Rattle.fl_lexer.proofs.line.with_feed.Goals as goal

pub returns-then-ends_in_return-clause-line : goal.returns-then-ends_in_return-clause-line
returns-then-ends_in_return-clause-line c =
    let h = c.if-ends_in_return.ensures.yes in
    sym (with_feed-cr c.args.front.now h.0 h.1)

pub returns-else-ends_in_return-clause-line : goal.returns-else-ends_in_return-clause-line
returns-else-ends_in_return-clause-line c = sym (with_feed-plain c.args.front.now c.if-ends_in_return.ensures.no)
