-- What is said of a text that has no tokens.
use Rattle.std.specs.Prelude.{ℕ, List, codes, None}
use Rattle.fl_lexer.specs.declared.error.LexError.{LexError}
use Rattle.fl_lexer.specs.declared.error.LexError.TheVariants.{BadByte, LongName, LongLine, OpenContinuation, WideLiteral, Memory}
use Rattle.ending.specs.Plan.{Plan, Saying, or_say}
use Rattle.fl_lexer.specs.Reading.{lexed}
use Rattle.tokens.specs.declared.Token.{Token}
use Rattle.program_stage.specs.Lines.{refused_line, refused_column}

abbrev pub say_lex : LexError → Saying
say_lex (BadByte line col) = refused_column line col (codes "bad byte")
say_lex (LongName line) = refused_line line (codes "long name")
say_lex (LongLine line) = refused_line line (codes "long line")
say_lex (OpenContinuation line) = refused_line line (codes "open continuation")
say_lex (WideLiteral line) = refused_line line (codes "wide literal")
say_lex Memory = None

-- the tokens of a text
unfoldable pub lexed_stage : List ℕ → (List Token → Plan) → Plan
lexed_stage text rest = or_say say_lex (lexed text) rest
