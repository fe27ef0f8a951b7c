-- The tokens of rows as a grammar sees them, wherever their lines are broken, line numbers aside.
use Rattle.std.specs.Prelude.{◌≡◌, ℕ, Bool, if◌then◌else◌, List, [], ◌∷◌, ◌++◌, map, Ok, codes}
use Rattle.tokens.specs.declared.Token.{Token}
use Rattle.tokens.specs.declared.TokenKind.TheVariants.{Sentinel, LineEnd}
use Rattle.tokens.specs.Lexeme.{Lexeme, lexeme}
use Rattle.fl_lexer.specs.Pieces.{piece_of}
use Rattle.fl_lexer.specs.Reading.{lexed}
use Rattle.fl_lexer.specs.Printing.{lexical, lexeme_of}
use Rattle.fl_printer.specs.declared.spaced.Spaced.{Spaced}
use Rattle.fl_printer.specs.Rows.{Row}

-- a lexeme without its line
abbrev pub unplaced : Lexeme → Lexeme
unplaced t = record { line = 0; kind = t.kind; bytes = t.bytes }

abbrev pub words_lexemes : List Spaced → List Lexeme
words_lexemes [] = []
words_lexemes (w ∷ ws) = lexeme_of 0 (piece_of w.text).kind w.text ++ words_lexemes ws

abbrev pub sentinel_lexeme : Bool → List Lexeme
sentinel_lexeme directive = if directive then lexical 0 Sentinel (codes "!$omp") ∷ [] else []

abbrev pub end_lexeme : Lexeme
end_lexeme = lexical 0 LineEnd (10 ∷ [])

abbrev pub rows_lexemes : List Row → List Lexeme
rows_lexemes [] = []
rows_lexemes (r ∷ rs) = (sentinel_lexeme r.directive ++ (words_lexemes r.words ++ end_lexeme ∷ [])) ++ rows_lexemes rs

-- the lexer finds the tokens of these rows in the text
abbrev pub IsLexedAs : List ℕ → List Row → Type 0
IsLexedAs text rows = (ts : List Token) × (lexed text ≡ Ok ts) × (map (λ t. unplaced (lexeme text t)) ts ≡ rows_lexemes rows)
