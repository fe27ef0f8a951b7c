-- What the lexemes of printed relations and of `.not.`, `.and.` and `.or.` are read as.
use Rattle.std.proofs.Common.{◌≡◌, Some, refl, ap}
use Rattle.std.specs.Prelude.{codes}
use Rattle.tokens.specs.declared.TokenKind.TheVariants.{Mark, Dots}
use Rattle.tokens.specs.Lexeme.{Lexeme}
use Rattle.fl_ast.specs.declared.kind.RelOp.{RelOp}
use Rattle.fl_ast.specs.declared.kind.RelOp.TheVariants as rel
use Rattle.parsing.specs.declared.symbol.Symbol.TheVariants as s
use Rattle.parsing.specs.Symbol.{symbol_by}
use Rattle.parsing.specs.Terminal.{marked}
use Rattle.fl_lexer.specs.Pieces.{piece_of}
use Rattle.fl_conditions.specs.Terminals.{rel_op_by, rel_op, and_op_by, and_op, or_op_by, or_op}
use Rattle.fl_printer.specs.Words.{relation_text}
use Rattle.fl_printed.specs.Fits.{Fits}
use Rattle.fl_printed.proofs.Spelled.{symbol_is, marked_is}

pub relation_read : (o : RelOp) (t : Lexeme) → Fits t (relation_text o) → rel_op t ≡ Some o
unfolding piece_of symbol_by
relation_read rel.Eq t f = ap rel_op_by (symbol_is t (codes "==") Mark (codes "==") refl f)
relation_read rel.Ne t f = ap rel_op_by (symbol_is t (codes "/=") Mark (codes "/=") refl f)
relation_read rel.Lt t f = ap rel_op_by (symbol_is t (codes "<") Mark (codes "<") refl f)
relation_read rel.Le t f = ap rel_op_by (symbol_is t (codes "<=") Mark (codes "<=") refl f)
relation_read rel.Gt t f = ap rel_op_by (symbol_is t (codes ">") Mark (codes ">") refl f)
relation_read rel.Ge t f = ap rel_op_by (symbol_is t (codes ">=") Mark (codes ">=") refl f)

pub not_read : (t : Lexeme) → Fits t (codes ".not.") → marked s.Not t ≡ Some t.line
unfolding piece_of symbol_by
not_read t f = marked_is s.Not s.Not t refl (symbol_is t (codes ".not.") Dots (codes ".not.") refl f)

pub and_read : (t : Lexeme) → Fits t (codes ".and.") → and_op t ≡ Some tt
unfolding piece_of symbol_by
and_read t f = ap and_op_by (symbol_is t (codes ".and.") Dots (codes ".and.") refl f)

pub or_read : (t : Lexeme) → Fits t (codes ".or.") → or_op t ≡ Some tt
unfolding piece_of symbol_by
or_read t f = ap or_op_by (symbol_is t (codes ".or.") Dots (codes ".or.") refl f)
