-- Texts as a printer writes them: lines of tokens and blanks, indented, some of which go on.
use Rattle.std.specs.Prelude.{◌≡◌, ℕ, ◌+◌, ◌≤◌, Bool, true, false, ◌||◌, not, ◌==◌, if◌then◌else◌, List, [], ◌∷◌, ◌++◌, length, replicate, codes}
use Rattle.std.specs.Str.{str_to_ascii_lowercase}
use Rattle.tokens.specs.Lexeme.{Lexeme}
use Rattle.tokens.specs.declared.Token.{Token}
use Rattle.tokens.specs.declared.TokenKind.{TokenKind}
use Rattle.tokens.specs.declared.TokenKind.TheVariants.{Sentinel, LineEnd}
use Rattle.fl_lexer.specs.declared.piece.PieceKind.{PieceKind}
use Rattle.fl_lexer.specs.declared.piece.PieceKind.TheVariants.{Lexical}
use Rattle.fl_lexer.specs.declared.line.Ending.TheVariants.{LineFeed}
use Rattle.fl_lexer.specs.declared.line.LinePlace.{LinePlace}
use Rattle.fl_lexer.specs.Bytes.{is_blank, begins}
use Rattle.fl_lexer.specs.Lines.{Line, line}
use Rattle.fl_lexer.specs.Reading.{token, line_end, after}
use Rattle.fl_lexer.specs.Spelling.{Each, Spelt, text_of, AreLongest, tokens_of}

-- a line of a directive or a statement, and whether it goes on
pub record Printed : Type 0 where
  pub indent : ℕ
  pub directive : Bool
  pub words : List Spelt
  pub goes_on : Bool

-- what the first text of a directive is
abbrev pub opening : Bool → List ℕ
opening true = codes "!$omp"
opening false = []

abbrev pub joint_of : Bool → List ℕ
joint_of true = codes "&"
joint_of false = []

-- the bytes of a line without its line feed
abbrev pub content : Printed → List ℕ
content l = replicate l.indent 32 ++ (opening l.directive ++ (text_of l.words ++ joint_of l.goes_on))

-- the text of the lines
abbrev pub printed : List Printed → List ℕ
printed [] = []
printed (l ∷ ls) = content l ++ 10 ∷ printed ls

-- no line feed, carriage return, `!` or `&`
abbrev pub is_plain : ℕ → Bool
is_plain b = not ((b == 10) || (b == 13) || (b == 33) || (b == 38))

-- a blank stands behind a sentinel, and a token at the beginning of a statement
abbrev pub is_first : Bool → ℕ → Bool
is_first true b = is_blank b
is_first false b = not (is_blank b)

-- the words are tokens and blanks, each as long as can be, and begin as they may, on a line within the limit
pub record IsPrinted (l : Printed) : Type 0 where
  pub longest : AreLongest l.words
  pub plain : Each is_plain (text_of l.words)
  pub begun : begins (is_first l.directive) (text_of l.words) ≡ true
  pub short : length (content l) ≤ 1024

-- a line that goes on has one of its kind behind it
abbrev pub Follows : Bool → Bool → List Printed → Type 0
Follows false directive ls = Unit {0}
Follows true directive [] = ⊥
Follows true directive (l ∷ ls) = l.directive ≡ directive

abbrev pub ArePrinted : List Printed → Type 0
ArePrinted [] = Unit {0}
ArePrinted (l ∷ ls) = IsPrinted l × Follows l.goes_on l.directive ls × ArePrinted ls

abbrev pub line_of : Printed → Line
line_of l = line (content l) LineFeed

-- the tokens of a line: no sentinel where a directive goes on, and no end where the line does
abbrev pub sentinel_of : LinePlace → Bool → Printed → List Token
sentinel_of p continued l = if l.directive then (if continued then [] else token p l.indent 5 Sentinel ∷ []) else []

abbrev pub end_of_line : LinePlace → Printed → List Token
end_of_line p l = if l.goes_on then [] else line_end p (line_of l) ∷ []

abbrev pub printed_tokens : LinePlace → Bool → List Printed → List Token
printed_tokens p continued [] = []
printed_tokens p continued (l ∷ ls) =
    (sentinel_of p continued l ++ (tokens_of p (l.indent + length (opening l.directive)) l.words ++ end_of_line p l))
    ++ printed_tokens (after p (line_of l)) l.goes_on ls

-- what the tokens of printed lines are beside their places
abbrev pub lexical : ℕ → TokenKind → List ℕ → Lexeme
lexical line kind bytes = record { line = line; kind = kind; bytes = str_to_ascii_lowercase bytes }

abbrev pub lexeme_of : ℕ → PieceKind → List ℕ → List Lexeme
lexeme_of line (Lexical kind) bytes = lexical line kind bytes ∷ []
lexeme_of line _ bytes = []

abbrev pub word_lexemes : ℕ → List Spelt → List Lexeme
word_lexemes line [] = []
word_lexemes line (x ∷ xs) = lexeme_of line x.kind x.bytes ++ word_lexemes line xs

abbrev pub printed_lexemes : ℕ → Bool → List Printed → List Lexeme
printed_lexemes line continued [] = []
printed_lexemes line continued (l ∷ ls) =
    ((if l.directive then (if continued then [] else lexical line Sentinel (codes "!$omp") ∷ []) else [])
    ++ (word_lexemes line l.words ++ (if l.goes_on then [] else lexical line LineEnd (10 ∷ []) ∷ [])))
    ++ printed_lexemes (line + 1) l.goes_on ls
