use Rattle.fl_parser.proofs.Spans.{all_behind}
use Rattle.fl_parser.proofs.error.behind.Goals as goal

pub returns : goal.returns
returns c = all_behind c.args.tokens.now c.args.start
