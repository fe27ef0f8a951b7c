-- What the lexemes of the words of statements are read as.
use Rattle.std.proofs.Common.{◌≡◌, Some, refl}
use Rattle.std.specs.Prelude.{codes}
use Rattle.tokens.specs.declared.TokenKind.TheVariants.{Mark, Word}
use Rattle.tokens.specs.Lexeme.{Lexeme}
use Rattle.parsing.specs.declared.symbol.Symbol.TheVariants as s
use Rattle.parsing.specs.Symbol.{symbol_by}
use Rattle.parsing.specs.Terminal.{marked}
use Rattle.fl_lexer.specs.Pieces.{piece_of}
use Rattle.fl_printed.specs.Fits.{Fits}
use Rattle.fl_printed.proofs.Spelled.{symbol_is, marked_is}

pub equals_read : (t : Lexeme) → Fits t (codes "=") → marked s.Equals t ≡ Some t.line
unfolding piece_of symbol_by
equals_read t f = marked_is s.Equals s.Equals t refl (symbol_is t (codes "=") Mark (codes "=") refl f)

pub do_read : (t : Lexeme) → Fits t (codes "do") → marked s.Do t ≡ Some t.line
unfolding piece_of symbol_by
do_read t f = marked_is s.Do s.Do t refl (symbol_is t (codes "do") Word (codes "do") refl f)
