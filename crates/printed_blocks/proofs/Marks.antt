-- What the lexemes of the words of blocks are read as.
use Rattle.std.proofs.Common.{◌≡◌, Some, None, cond, refl, ap, sym, subst}
use Rattle.std.specs.Prelude.{codes}
use Rattle.tokens.specs.declared.TokenKind.TheVariants.{Word, Sentinel}
use Rattle.tokens.specs.Lexeme.{Lexeme}
use Rattle.parsing.specs.declared.symbol.Symbol.TheVariants as s
use Rattle.parsing.specs.Symbol.{symbol_by}
use Rattle.parsing.specs.Terminal.{marked, same, word_of}
use Rattle.fl_lexer.specs.Pieces.{piece_of}
use Rattle.fl_lexer.specs.Printing.{lexical}
use Rattle.fl_printer.specs.Lexemes.{unplaced}
use Rattle.fl_statements.specs.Terminals.{then_word}
use Rattle.fl_printed.specs.Fits.{Fits}
use Rattle.fl_printed.proofs.Spelled.{symbol_is, marked_is}

pub end_word_read : (t : Lexeme) → Fits t (codes "end") → marked s.End t ≡ Some t.line
unfolding piece_of symbol_by
end_word_read t f = marked_is s.End s.End t refl (symbol_is t (codes "end") Word (codes "end") refl f)

pub if_read : (t : Lexeme) → Fits t (codes "if") → marked s.If t ≡ Some t.line
unfolding piece_of symbol_by
if_read t f = marked_is s.If s.If t refl (symbol_is t (codes "if") Word (codes "if") refl f)

pub else_read : (t : Lexeme) → Fits t (codes "else") → marked s.Else t ≡ Some t.line
unfolding piece_of symbol_by
else_read t f = marked_is s.Else s.Else t refl (symbol_is t (codes "else") Word (codes "else") refl f)

pub then_read : (t : Lexeme) → Fits t (codes "then") → marked s.Then t ≡ Some t.line
unfolding piece_of symbol_by
then_read t f = marked_is s.Then s.Then t refl (symbol_is t (codes "then") Word (codes "then") refl f)

pub then_word_read : (t : Lexeme) → Fits t (codes "then") → then_word t ≡ Some (word_of t)
unfolding piece_of symbol_by
then_word_read t f = ap (λ x. cond (same s.Then x) (Some (word_of t)) None) (symbol_is t (codes "then") Word (codes "then") refl f)

pub atomic_read : (t : Lexeme) → Fits t (codes "atomic") → marked s.Atomic t ≡ Some t.line
unfolding piece_of symbol_by
atomic_read t f = marked_is s.Atomic s.Atomic t refl (symbol_is t (codes "atomic") Word (codes "atomic") refl f)

pub sentinel_read : (t : Lexeme) → unplaced t ≡ lexical 0 Sentinel (codes "!$omp") → marked s.Sentinel t ≡ Some t.line
unfolding symbol_by
sentinel_read t h = is_sentinel t.line t.kind (ap (λ u. u.kind) h)
  where
    is_sentinel : (l : _) (k : _) → k ≡ Sentinel → marked s.Sentinel (record { line = l; kind = k; bytes = t.bytes }) ≡ Some l
    is_sentinel l k h = subst (λ k. marked s.Sentinel (record { line = l; kind = k; bytes = t.bytes }) ≡ Some l) (sym h) refl
