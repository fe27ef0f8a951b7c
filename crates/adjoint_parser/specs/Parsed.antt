-- What the tokens of an adjoint's text are parsed to.
use Rattle.std.specs.Prelude.{ℕ, ◌-◌, Bool, false, ◌&&◌, if◌then◌else◌, List, length, map, slice_get, Option, Some, None, Result, Ok, Err}
use Rattle.tokens.specs.declared.Token.{Token}
use Rattle.tokens.specs.Lexeme.{lexeme}
use Rattle.fl_ast.specs.declared.adjoint.AdjointText.{AdjointText}
use Rattle.parsing.specs.declared.fault.Cause.{Cause}
use Rattle.parsing.specs.declared.fault.Cause.TheVariants as cause
use Rattle.parsing.specs.declared.fault.Fault.{Fault}
use Rattle.parsing.specs.declared.symbol.Symbol.TheVariants as s
use Rattle.parsing.specs.Terminal.{is}
use Rattle.parsing.specs.Refusal.{all_of}
use Rattle.fl_parser.specs.declared.error.ParseError.{ParseError}
use Rattle.fl_parser.specs.Parsed.{spot_of, begins_line, told_apart, word_of, error_by}
use Rattle.adjoint_statements.specs.Rooms.{the_limits}
use Rattle.adjoint_parser.specs.AdjointReading.{unit}

-- `call` begins a statement of an adjoint
abbrev pub names_construct : List ℕ → Option Token → Bool
names_construct text None = false
names_construct text (Some t) = is s.Construct (lexeme text t)

-- Where a statement would begin, such a word is the cause. In a directive it is the directive's own. Else it is the one that reading gives.
abbrev pub cause_at : List ℕ → List Token → ℕ → Cause → Cause
cause_at text tokens at found = if begins_line tokens at && names_construct text (slice_get tokens at) then cause.Construct else told_apart text tokens at found

-- the error of the token with so many before it
abbrev pub error_at : List ℕ → List Token → ℕ → Cause → ParseError
error_at text tokens at found = error_by (cause_at text tokens at found) (spot_of text (slice_get tokens at)) (word_of text (slice_get tokens at))

abbrev pub error_of : List ℕ → List Token → Fault → ParseError
error_of text tokens f = error_at text tokens (length tokens - f.left) f.cause

abbrev pub placed : List ℕ → List Token → Result AdjointText Fault → Result AdjointText ParseError
placed text tokens (Ok t) = Ok t
placed text tokens (Err f) = Err (error_of text tokens f)

unfoldable pub parsed : List ℕ → List Token → Result AdjointText ParseError
parsed text tokens = placed text tokens (all_of (unit the_limits (map (lexeme text) tokens)))
