-- What the lexemes of printed signs are read as.
use Rattle.std.proofs.Common.{◌≡◌, Some, refl}
use Rattle.std.specs.Prelude.{codes}
use Rattle.tokens.specs.declared.TokenKind.TheVariants.{Mark}
use Rattle.tokens.specs.Lexeme.{Lexeme}
use Rattle.parsing.specs.declared.symbol.Symbol.TheVariants as s
use Rattle.parsing.specs.Symbol.{symbol_by}
use Rattle.parsing.specs.Terminal.{marked}
use Rattle.fl_lexer.specs.Pieces.{piece_of}
use Rattle.fl_printed.specs.Fits.{Fits}
use Rattle.fl_printed.proofs.Spelled.{symbol_is, marked_is}

pub open_read : (t : Lexeme) → Fits t (codes "(") → marked s.Open t ≡ Some t.line
unfolding piece_of symbol_by
open_read t f = marked_is s.Open s.Open t refl (symbol_is t (codes "(") Mark (codes "(") refl f)

pub close_read : (t : Lexeme) → Fits t (codes ")") → marked s.Close t ≡ Some t.line
unfolding piece_of symbol_by
close_read t f = marked_is s.Close s.Close t refl (symbol_is t (codes ")") Mark (codes ")") refl f)

pub comma_read : (t : Lexeme) → Fits t (codes ",") → marked s.Comma t ≡ Some t.line
unfolding piece_of symbol_by
comma_read t f = marked_is s.Comma s.Comma t refl (symbol_is t (codes ",") Mark (codes ",") refl f)

pub minus_read : (t : Lexeme) → Fits t (codes "-") → marked s.Minus t ≡ Some t.line
unfolding piece_of symbol_by
minus_read t f = marked_is s.Minus s.Minus t refl (symbol_is t (codes "-") Mark (codes "-") refl f)

pub power_read : (t : Lexeme) → Fits t (codes "**") → marked s.Power t ≡ Some t.line
unfolding piece_of symbol_by
power_read t f = marked_is s.Power s.Power t refl (symbol_is t (codes "**") Mark (codes "**") refl f)
