-- What the lexemes of printed declarations are read as.
use Rattle.std.proofs.Common.{◌≡◌, ℕ, ◌≤◌, Bool, true, cond, ◌&&◌, List, [], ◌∷◌, Some, None, refl, ap, sym, subst, ◌∙◌, arith}
use Rattle.std.specs.Prelude.{codes, decimal, nat_le}
use Rattle.std.specs.Fmt.{digits}
use Rattle.std.proofs.lemmas.Bool.Decides.{nat_tests}
use Rattle.tokens.specs.declared.TokenKind.TheVariants.{Mark, Word, Number}
use Rattle.tokens.specs.Lexeme.{Lexeme}
use Rattle.fl_ast.specs.declared.kind.Kind.{Kind}
use Rattle.fl_ast.specs.declared.kind.Kind.TheVariants as kind
use Rattle.fl_ast.specs.declared.decl.Sign.{Sign}
use Rattle.fl_ast.specs.declared.decl.Sign.TheVariants as sign
use Rattle.parsing.specs.declared.symbol.Symbol.TheVariants as s
use Rattle.parsing.specs.Symbol.{symbol_by}
use Rattle.parsing.specs.Terminal.{marked, without_eight, spelled_number}
use Rattle.fl_lexer.specs.Pieces.{piece_of}
use Rattle.fl_lexer.specs.Printing.{lexical, lexeme_of}
use Rattle.fl_parser.specs.Terminals.{bound_number, bound_sign, sign_by, kind_number, one_text, two_text}
use Rattle.fl_printer.specs.Words.{literal_text, sign_text}
use Rattle.fl_printer.specs.Lexemes.{unplaced}
use Rattle.fl_printer.proofs.Tokens.{plain_literal, kind_of_number}
use Rattle.fl_printed.specs.Fits.{Fits}
use Rattle.fl_printed.proofs.Spelled.{symbol_is, marked_is, number_read}
use Rattle.fl_printed.proofs.Operators.{plain}

pub star_read : (t : Lexeme) → Fits t (codes "*") → marked s.Star t ≡ Some t.line
unfolding piece_of symbol_by
star_read t f = marked_is s.Star s.Star t refl (symbol_is t (codes "*") Mark (codes "*") refl f)

pub colons_read : (t : Lexeme) → Fits t (codes "::") → marked s.Colons t ≡ Some t.line
unfolding piece_of symbol_by
colons_read t f = marked_is s.Colons s.Colons t refl (symbol_is t (codes "::") Mark (codes "::") refl f)

pub equals_read : (t : Lexeme) → Fits t (codes "=") → marked s.Equals t ≡ Some t.line
unfolding piece_of symbol_by
equals_read t f = marked_is s.Equals s.Equals t refl (symbol_is t (codes "=") Mark (codes "=") refl f)

pub integer_read : (t : Lexeme) → Fits t (codes "integer") → marked s.Integer t ≡ Some t.line
unfolding piece_of symbol_by
integer_read t f = marked_is s.Integer s.Integer t refl (symbol_is t (codes "integer") Word (codes "integer") refl f)

pub kind_read : (t : Lexeme) → Fits t (codes "kind") → marked s.Kind t ≡ Some t.line
unfolding piece_of symbol_by
kind_read t f = marked_is s.Kind s.Kind t refl (symbol_is t (codes "kind") Word (codes "kind") refl f)

pub intent_read : (t : Lexeme) → Fits t (codes "intent") → marked s.Intent t ≡ Some t.line
unfolding piece_of symbol_by
intent_read t f = marked_is s.Intent s.Intent t refl (symbol_is t (codes "intent") Word (codes "intent") refl f)

pub in_read : (t : Lexeme) → Fits t (codes "in") → marked s.In t ≡ Some t.line
unfolding piece_of symbol_by
in_read t f = marked_is s.In s.In t refl (symbol_is t (codes "in") Word (codes "in") refl f)

pub out_read : (t : Lexeme) → Fits t (codes "out") → marked s.Out t ≡ Some t.line
unfolding piece_of symbol_by
out_read t f = marked_is s.Out s.Out t refl (symbol_is t (codes "out") Word (codes "out") refl f)

pub inout_read : (t : Lexeme) → Fits t (codes "inout") → marked s.InOut t ≡ Some t.line
unfolding piece_of symbol_by
inout_read t f = marked_is s.InOut s.InOut t refl (symbol_is t (codes "inout") Word (codes "inout") refl f)

pub sign_read : (g : Sign) (t : Lexeme) → Fits t (sign_text g) → bound_sign t ≡ Some g
unfolding piece_of symbol_by
sign_read sign.Plus t f = ap sign_by (symbol_is t (codes "+") Mark (codes "+") refl f)
sign_read sign.Minus t f = ap sign_by (symbol_is t (codes "-") Mark (codes "-") refl f)

-- ---- numbers

and_true : (a b : Bool) → a ≡ true → b ≡ true → (a && b) ≡ true
and_true a b h k = rw (h, k) refl

pub limit_read : (t : Lexeme) (n : ℕ) → nat_le n 4294967295 ≡ true → Fits t (decimal n) → bound_number t ≡ Some (plain n)
limit_read t n h f =
    let small : n ≤ 4294967295 = grind (arith, nat_tests) in
    ap (without_eight 4294967295) (number_read t n kind.Index (omega (arith, small)) (subst (λ (bs : List ℕ). Fits t bs) (sym (plain_literal n)) f))
    ∙ ap (λ c. cond c (Some (plain n)) None) (and_true (nat_le n 4294967295) true h refl)

abbrev first_of : Lexeme → List Lexeme → Lexeme
first_of d [] = d
first_of d (t ∷ ts) = t

number_lexeme : (t : Lexeme) (n : ℕ) → n ≤ 8 → Fits t (decimal n) → unplaced t ≡ lexical 0 (Number n None) (literal_text n kind.Index)
number_lexeme t n h f =
    ap (first_of (unplaced t)) (subst (λ (bs : List ℕ). Fits t bs) (sym (plain_literal n)) f ∙ ap (λ k. lexeme_of 0 k (literal_text n kind.Index)) (kind_of_number n kind.Index (omega (arith, h))))

pub one_read : (t : Lexeme) → Fits t (decimal 1) → spelled_number one_text t ≡ Some tt
unfolding symbol_by digits
one_read t f = ap (λ u. spelled_number one_text u) (number_lexeme t 1 (omega arith) f)

pub two_read : (t : Lexeme) → Fits t (decimal 2) → spelled_number two_text t ≡ Some tt
unfolding symbol_by digits
two_read t f = ap (λ u. spelled_number two_text u) (number_lexeme t 2 (omega arith) f)

pub four_read : (t : Lexeme) → Fits t (decimal 4) → kind_number t ≡ Some (kind.Index, 4)
unfolding symbol_by digits
four_read t f = ap (λ u. kind_number u) (number_lexeme t 4 (omega arith) f)

pub eight_read : (t : Lexeme) → Fits t (decimal 8) → kind_number t ≡ Some (kind.Ring, 8)
unfolding symbol_by digits
eight_read t f = ap (λ u. kind_number u) (number_lexeme t 8 (omega arith) f)
