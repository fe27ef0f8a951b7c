use Rattle.fl_lexer.proofs.ReadBack.{read_back}
use Rattle.fl_lexer.proofs.Lexemes.{lexemes_are}
use Rattle.fl_lexer.proofs.lexer.printed_is_read_back.Goals as goal

pub returns-clause-tokens : goal.returns-clause-tokens
returns-clause-tokens c = read_back

pub returns-clause-lexemes : goal.returns-clause-lexemes
returns-clause-lexemes c = lexemes_are
