-- Where tokens lie in a text, and what their bytes are.
use Rattle.std.specs.Prelude.{◌≡◌, ℕ, ◌≤◌, true, List, [], ◌∷◌, ◌++◌, length, slice_range, ◌⊎◌, codes}
use Rattle.std.specs.Str.{str_to_ascii_lowercase}
use Rattle.tokens.specs.declared.Token.{Token}
use Rattle.tokens.specs.declared.TokenKind.{TokenKind}
use Rattle.tokens.specs.declared.TokenKind.TheVariants.{Word, Number, Mark, Dots, Sentinel, LineEnd}
use Rattle.fl_lexer.specs.declared.line.Ending.{Ending}
use Rattle.fl_lexer.specs.declared.line.Ending.TheVariants.{Missing, LineFeed, CrLf}
use Rattle.fl_lexer.specs.Bytes.{is_mark}
use Rattle.fl_lexer.specs.Lines.{Line}
use Rattle.fl_lexer.specs.Spelling.{IsName, IsNumber, IsDots, IsTwoMarks}

abbrev pub ending_bytes : Ending → List ℕ
ending_bytes Missing = []
ending_bytes LineFeed = 10 ∷ []
ending_bytes CrLf = 13 ∷ 10 ∷ []

-- the text that lines are
abbrev pub text_of_lines : List Line → List ℕ
text_of_lines [] = []
text_of_lines (l ∷ ls) = l.bytes ++ (ending_bytes l.ending ++ text_of_lines ls)

-- the bytes are those of a token of the kind
abbrev pub IsText : TokenKind → List ℕ → Type 0
IsText Word bs = IsName bs × (length bs ≤ 63)
IsText (Number value suffix) bs = IsNumber value suffix bs
IsText Mark bs = ((b : ℕ) × (bs ≡ b ∷ []) × (is_mark b ≡ true)) ⊎ IsTwoMarks bs
IsText Dots bs = IsDots bs
IsText Sentinel bs = str_to_ascii_lowercase bs ≡ codes "!$omp"
IsText LineEnd bs = (ending : Ending) × (bs ≡ ending_bytes ending)

-- each token is its slice of the text, and begins where the one before it has ended
abbrev pub InOrder : List ℕ → ℕ → List Token → Type 0
InOrder text from [] = Unit {0}
InOrder text from (t ∷ ts) = (from ≤ t.start) × (t.start ≤ t.end) × (t.end ≤ length text) × IsText t.kind (slice_range text t.start t.end) × InOrder text t.end ts
