-- Directives as they are read, and what a refusal tells.
use Rattle.std.specs.Prelude.{◌≡◌, ℕ, ◌-◌, ◌==◌, Bool, true, false, not, ◌&&◌, List, [], length, map, take, slice_get, if◌then◌else◌, Option, Some, None, Result, Ok, Err}
use Rattle.std.specs.List.{count_by}
use Rattle.tokens.specs.declared.Token.{Token}
use Rattle.tokens.specs.Lexeme.{lexeme}
use Rattle.fl_ast.specs.Readable.{has_readable_clauses}
use Rattle.parsing.specs.declared.symbol.Symbol.{Symbol}
use Rattle.parsing.specs.declared.symbol.Symbol.TheVariants as s
use Rattle.parsing.specs.declared.fault.Cause.{Cause}
use Rattle.parsing.specs.declared.fault.Cause.TheVariants as cause
use Rattle.parsing.specs.declared.fault.Fault.{Fault}
use Rattle.parsing.specs.declared.fault.ClauseError.{ClauseError}
use Rattle.parsing.specs.declared.fault.ClauseError.TheVariants.{Unknown, Twice, Form}
use Rattle.parsing.specs.Symbol.{symbol_of}
use Rattle.parsing.specs.Terminal.{is, words}
use Rattle.parsing.specs.Reading.{Lexemes, Outcome}
use Rattle.parsing.specs.Refusal.{all_of, Refused_at, Goes_past}
use Rattle.omp_clauses.specs.declared.directive.DirectiveLine.{DirectiveLine}
use Rattle.omp_clauses.specs.declared.directive.DirectiveLine.TheVariants.{ParallelDo, EndParallelDo, Atomic, EndAtomic}
use Rattle.omp_clauses.specs.ClauseReading.{begins_clause}
use Rattle.omp_clauses.specs.LineGrammar as g
use Rattle.omp_clauses.specs.LineReading as p

-- ---- causes

-- words of directives that begin no clause
abbrev pub is_directive_word : Symbol → Bool
is_directive_word s.Parallel = true
is_directive_word s.Do = true
is_directive_word s.End = true
is_directive_word s.Atomic = true
is_directive_word s.Update = true
is_directive_word _ = false

-- a word that no directive has outside brackets
abbrev pub is_unknown : Symbol → Bool
is_unknown a = words a && (not (is_directive_word a) && not (begins_clause a))

abbrev pub names_unknown : List ℕ → Option Token → Bool
names_unknown text None = false
names_unknown text (Some t) = is_unknown (symbol_of (lexeme text t))

abbrev pub count_of : List ℕ → Symbol → List Token → ℕ
count_of text a tokens = count_by (λ t. is a (lexeme text t)) tokens

-- as many brackets are closed as were opened
abbrev pub is_outside : List ℕ → List Token → Bool
is_outside text tokens = count_of text s.Open tokens == count_of text s.Close tokens

-- the cause of a refusal, behind tokens of a directive
abbrev pub cause_by : Cause → Bool → Cause
cause_by cause.Twice unknown = cause.Twice
cause_by _ true = cause.Unknown
cause_by _ false = cause.Form

-- the cause at the token with so many before it
abbrev pub cause_at : List ℕ → List Token → ℕ → Cause → Cause
cause_at text tokens at found = cause_by found (is_outside text (take at tokens) && names_unknown text (slice_get tokens at))

-- the cause of a directive's own refusal, where it is refused with so many tokens left
abbrev pub cause_if : List ℕ → List Token → ℕ → Outcome DirectiveLine → Option Cause
cause_if text tokens left (Ok u) = None
cause_if text tokens left (Err f) = if f.left == left then Some (cause_at text tokens (length tokens - left) f.cause) else None

-- the same of the directive that these tokens begin with
unfoldable pub own_cause : List ℕ → List Token → ℕ → Option Cause
own_cause text tokens left = cause_if text tokens left (p.directive_line true (map (lexeme text) tokens))

-- ---- errors

-- the line of a token; where the tokens end, of the last one
abbrev pub line_of : Option Token → Option Token → ℕ
line_of (Some t) last = t.line
line_of None (Some t) = t.line
line_of None None = 1

abbrev pub line_at : List Token → ℕ → ℕ
line_at tokens at = line_of (slice_get tokens at) (slice_get tokens (length tokens - 1))

-- the bytes of a token, letters lowered
abbrev pub word_of : List ℕ → Option Token → List ℕ
word_of text None = []
word_of text (Some t) = (lexeme text t).bytes

abbrev pub error_by : Cause → ℕ → List ℕ → ClauseError
error_by cause.Unknown line word = Unknown line word
error_by cause.Twice line word = Twice line word
error_by _ line word = Form line

abbrev pub error_at : List ℕ → List Token → ℕ → Cause → ClauseError
error_at text tokens at found = error_by (cause_at text tokens at found) (line_at tokens at) (word_of text (slice_get tokens at))

abbrev pub error_of : List ℕ → List Token → Fault → ClauseError
error_of text tokens f = error_at text tokens (length tokens - f.left) f.cause

abbrev pub placed : List ℕ → List Token → Result DirectiveLine Fault → Result DirectiveLine ClauseError
placed text tokens (Ok d) = Ok d
placed text tokens (Err f) = Err (error_of text tokens f)

unfoldable pub directive_read : List ℕ → List Token → Result DirectiveLine ClauseError
directive_read text tokens = placed text tokens (all_of (p.directive_line true (map (lexeme text) tokens)))

-- ---- what they say

-- A token is told as Twice where a directive goes on with it that may repeat names and clauses; else none does.
abbrev pub Told : Cause → Lexemes → ℕ → Type 0
Told cause.Twice ts left = Goes_past (g.directive_line false) ts left
Told _ ts left = Refused_at (g.directive_line false) ts left

-- The error has the first token at which no directive goes on, and the cause.
abbrev pub Refuses : List ℕ → List Token → ClauseError → Type 0
Refuses text tokens e =
    (f : Fault) × (e ≡ error_of text tokens f) × Refused_at (g.directive_line true) (map (lexeme text) tokens) f.left × Told f.cause (map (lexeme text) tokens) f.left

-- ---- readable trees

abbrev pub is_readable_line : DirectiveLine → Bool
is_readable_line (ParallelDo d) = has_readable_clauses d
is_readable_line EndParallelDo = true
is_readable_line Atomic = true
is_readable_line EndAtomic = true
