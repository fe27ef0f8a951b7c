use Rattle.fl_lexer.proofs.Promises.{finds_spelled, finds_all, finds_in_order, finds_spans, finds_spelled_in_order, finds_none, finds_refused}
use Rattle.fl_lexer.proofs.lexer.lex.Goals as goal

pub returns-clause-found : goal.returns-clause-found
returns-clause-found c = finds_spelled c.args.text.now _ c.tokens_of.ensures

pub returns-clause-only : goal.returns-clause-only
returns-clause-only c = finds_all c.args.text.now _ c.tokens_of.ensures

pub returns-clause-in_order : goal.returns-clause-in_order
returns-clause-in_order c = finds_in_order c.args.text.now _ c.tokens_of.ensures

pub returns-clause-spans : goal.returns-clause-spans
returns-clause-spans c = finds_spans c.args.text.now _ c.tokens_of.ensures

pub returns-clause-spelled : goal.returns-clause-spelled
returns-clause-spelled c = finds_spelled_in_order c.args.text.now _ c.tokens_of.ensures

pub returns-clause-accepted : goal.returns-clause-accepted
returns-clause-accepted c = finds_none c.args.text.now _ c.tokens_of.ensures

pub returns-clause-refused : goal.returns-clause-refused
returns-clause-refused c = finds_refused c.args.text.now _ c.tokens_of.ensures
