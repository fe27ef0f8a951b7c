-- Lexemes that printed tokens are, line numbers aside.
use Rattle.std.specs.Prelude.{◌≡◌, ℕ, List, [], ◌∷◌}
use Rattle.tokens.specs.Lexeme.{Lexeme}
use Rattle.fl_lexer.specs.Pieces.{piece_of}
use Rattle.fl_lexer.specs.Printing.{lexeme_of}
use Rattle.fl_printer.specs.Lexemes.{unplaced}

-- the lexeme is the one that a token of these bytes has
abbrev pub Fits : Lexeme → List ℕ → Type 0
Fits t bytes = unplaced t ∷ [] ≡ lexeme_of 0 (piece_of bytes).kind bytes
