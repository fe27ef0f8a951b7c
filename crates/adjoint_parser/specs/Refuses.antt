-- What a refusal of an adjoint's text tells.
use Rattle.std.specs.Prelude.{◌≡◌, ℕ, ◌<◌, true, false, List, map, Some, None}
use Rattle.tokens.specs.declared.Token.{Token}
use Rattle.tokens.specs.Lexeme.{lexeme}
use Rattle.parsing.specs.declared.fault.Cause.{Cause}
use Rattle.parsing.specs.declared.fault.Cause.TheVariants.{Expected, Deep, Many, Construct, Unknown, Twice, Form}
use Rattle.parsing.specs.declared.fault.Fault.{Fault}
use Rattle.parsing.specs.Reading.{Lexemes}
use Rattle.parsing.specs.Refusal.{Refused_at, Goes_past}
use Rattle.fl_parser.specs.declared.error.ParseError.{ParseError}
use Rattle.fl_statements.specs.Limits.{Limits}
use Rattle.adjoint_statements.specs.Rooms.{the_limits}
use Rattle.adjoint_parser.specs.Parsed.{error_of}
use Rattle.adjoint_parser.specs.AdjointGrammar.{unit}

-- without a limit, but for brackets and blocks
abbrev pub unlimited : ℕ → ℕ → Limits
unlimited b n = record { brackets = b; depth = None; blocks = n; statements = None; names = None; once = true }

-- where names and clauses of a directive may stand again
abbrev pub repeated : Limits
repeated = record { brackets = 256; depth = Some 256; blocks = 256; statements = None; names = None; once = false }

-- nothing goes on there, whatever the limits
abbrev pub RefusedAnyhow : Lexemes → ℕ → Type 0
RefusedAnyhow ts left = (b n : ℕ) → 256 < b → 256 < n → Refused_at (unit (unlimited b n)) ts left

-- What a cause says: something goes on with more depth; or with names that stand twice; or nothing does. Numbers have no limit.
abbrev pub Told : Cause → Lexemes → ℕ → Type 0
Told Expected ts left = RefusedAnyhow ts left
Told Deep ts left = Goes_past (unit (unlimited 257 257)) ts left
Told Many ts left = ⊥
Told Construct ts left = RefusedAnyhow ts left
Told Unknown ts left = RefusedAnyhow ts left
Told Twice ts left = Goes_past (unit repeated) ts left
Told Form ts left = RefusedAnyhow ts left

-- The error has the place and the cause.
abbrev pub Refuses : List ℕ → List Token → ParseError → Type 0
Refuses text tokens e =
    (f : Fault) × (e ≡ error_of text tokens f) × Refused_at (unit the_limits) (map (lexeme text) tokens) f.left × Told f.cause (map (lexeme text) tokens) f.left
