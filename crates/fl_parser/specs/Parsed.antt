-- What the tokens of a text are parsed to.
use Rattle.std.specs.Prelude.{ℕ, zero, suc, ◌+◌, ◌-◌, ◌==◌, Bool, true, false, not, ◌&&◌, drop, if◌then◌else◌, List, [], length, map, slice_get, reverse, Option, Some, None, Result, Ok, Err}
use Rattle.std.specs.List.{count_by, prefix_len}
use Rattle.tokens.specs.declared.Token.{Token}
use Rattle.tokens.specs.declared.TokenKind.{TokenKind}
use Rattle.tokens.specs.declared.TokenKind.TheVariants.{LineEnd, Sentinel}
use Rattle.tokens.specs.Lexeme.{lexeme}
use Rattle.fl_ast.specs.declared.stmt.Program.{Program}
use Rattle.parsing.specs.declared.fault.Cause.{Cause}
use Rattle.parsing.specs.declared.fault.Cause.TheVariants as cause
use Rattle.parsing.specs.declared.fault.Fault.{Fault}
use Rattle.parsing.specs.declared.fault.ClauseError.TheVariants as clause
use Rattle.parsing.specs.Symbol.{symbol_of}
use Rattle.parsing.specs.Refusal.{all_of}
use Rattle.fl_parser.specs.declared.error.ParseError.{ParseError}
use Rattle.fl_parser.specs.declared.error.ParseError.TheVariants.{Expected, Deep, Many, Construct, Clause}
use Rattle.fl_parser.specs.declared.error.Position.{Position}
use Rattle.omp_clauses.specs.Refused.{own_cause}
use Rattle.fl_statements.specs.Terminals.{is_construct}
use Rattle.fl_statements.specs.Limits.{the_limits}
use Rattle.fl_parser.specs.UnitReading.{unit}

-- where one more byte of the text would be
abbrev pub end_of : List ℕ → Position
end_of text = record { line = count_by (λ b. b == 10) text + 1; col = prefix_len (λ b. not (b == 10)) (reverse text) + 1 }

-- where the token is, or the end of the text
abbrev pub spot_of : List ℕ → Option Token → Position
spot_of text None = end_of text
spot_of text (Some t) = record { line = t.line; col = t.col }

-- ---- where a statement begins

abbrev pub ends_line : TokenKind → Bool
ends_line LineEnd = true
ends_line _ = false

abbrev pub is_line_end : Option Token → Bool
is_line_end None = false
is_line_end (Some t) = ends_line t.kind

-- the token with so many before it is the first of its line
abbrev pub begins_line : List Token → ℕ → Bool
begins_line tokens zero = true
begins_line tokens (suc before) = is_line_end (slice_get tokens before)

abbrev pub names_construct : List ℕ → Option Token → Bool
names_construct text None = false
names_construct text (Some t) = is_construct (symbol_of (lexeme text t))

-- ---- the directive that a token stands in

-- how many tokens stand before the line of the token with so many before it
abbrev pub line_start : List Token → ℕ → ℕ
line_start tokens zero = 0
line_start tokens (suc before) = if is_line_end (slice_get tokens before) then suc before else line_start tokens before

abbrev pub begins_directive : TokenKind → Bool
begins_directive Sentinel = true
begins_directive _ = false

abbrev pub is_sentinel : Option Token → Bool
is_sentinel None = false
is_sentinel (Some t) = begins_directive t.kind

abbrev pub or_else : Cause → Option Cause → Cause
or_else found (Some c) = c
or_else found None = found

-- the cause of the directive, where one begins the line and is refused at that token by itself
abbrev pub in_directive : List ℕ → List Token → ℕ → ℕ → Cause → Cause
in_directive text tokens start at found =
    if is_sentinel (slice_get tokens start) then or_else found (own_cause text (drop start tokens) (length tokens - at)) else found

abbrev pub told_apart : List ℕ → List Token → ℕ → Cause → Cause
told_apart text tokens at cause.Expected = in_directive text tokens (line_start tokens at) at cause.Expected
told_apart text tokens at found = found

-- Where a statement would begin, such a word is the cause. In a directive it is the directive's own. Else it is the one that reading gives.
abbrev pub cause_at : List ℕ → List Token → ℕ → Cause → Cause
cause_at text tokens at found = if begins_line tokens at && names_construct text (slice_get tokens at) then cause.Construct else told_apart text tokens at found

-- ---- errors

-- the bytes of a token, letters lowered
abbrev pub word_of : List ℕ → Option Token → List ℕ
word_of text None = []
word_of text (Some t) = (lexeme text t).bytes

abbrev pub error_by : Cause → Position → List ℕ → ParseError
error_by cause.Expected spot word = Expected spot.line spot.col
error_by cause.Deep spot word = Deep spot.line
error_by cause.Many spot word = Many spot.line
error_by cause.Construct spot word = Construct spot.line word
error_by cause.Unknown spot word = Clause (clause.Unknown spot.line word)
error_by cause.Twice spot word = Clause (clause.Twice spot.line word)
error_by cause.Form spot word = Clause (clause.Form spot.line)

-- the error of the token with so many before it
abbrev pub error_at : List ℕ → List Token → ℕ → Cause → ParseError
error_at text tokens at found = error_by (cause_at text tokens at found) (spot_of text (slice_get tokens at)) (word_of text (slice_get tokens at))

abbrev pub error_of : List ℕ → List Token → Fault → ParseError
error_of text tokens f = error_at text tokens (length tokens - f.left) f.cause

abbrev pub placed : List ℕ → List Token → Result Program Fault → Result Program ParseError
placed text tokens (Ok p) = Ok p
placed text tokens (Err f) = Err (error_of text tokens f)

unfoldable pub parsed : List ℕ → List Token → Result Program ParseError
parsed text tokens = placed text tokens (all_of (unit the_limits (map (lexeme text) tokens)))
