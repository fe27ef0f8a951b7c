use Rattle.std.proofs.Common.{rules}
use Rattle.fl_lexer.proofs.LineLaws.{first_bare, first_feed}
use Rattle.fl_lexer.proofs.line.first_line.Goals as goal

pub returns-then-is_empty-clause-lines : goal.returns-then-is_empty-clause-lines
returns-then-is_empty-clause-lines c =
    let cut = c.split_at.ensures in
    first_bare c.args.text.now _ _ _ c.requires c.before_line_feed.ensures.value cut.front cut.back (search rules)

pub returns-else-is_empty-clause-lines : goal.returns-else-is_empty-clause-lines
returns-else-is_empty-clause-lines c =
    let cut = c.split_at.ensures in
    first_feed c.args.text.now _ _ _ _ c.before_line_feed.ensures.value cut.front cut.back (search rules) c.with_feed.ensures.line
