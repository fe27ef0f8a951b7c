-- What the lexemes of printed operators, functions and exponents are read as.
use Rattle.std.proofs.Common.{◌≡◌, ℕ, ◌≤◌, true, cond, Some, None, refl, ap, sym, subst, ◌∙◌, arith, List}
use Rattle.std.specs.Prelude.{codes, decimal, nat_le}
use Rattle.std.proofs.lemmas.Bool.Decides.{nat_tests}
use Rattle.tokens.specs.declared.TokenKind.TheVariants.{Mark, Word}
use Rattle.tokens.specs.Lexeme.{Lexeme}
use Rattle.fl_ast.specs.declared.kind.Kind.TheVariants as kind
use Rattle.fl_ast.specs.declared.kind.BinOp.TheVariants as op
use Rattle.fl_ast.specs.declared.kind.Fun.TheVariants as fun
use Rattle.parsing.specs.declared.symbol.Symbol.TheVariants as s
use Rattle.parsing.specs.declared.cursor.Number.{Number}
use Rattle.parsing.specs.Symbol.{symbol_by, symbol_of}
use Rattle.parsing.specs.Terminal.{at_most}
use Rattle.fl_expressions.specs.Terminals.{sum_op_by, sum_op, product_op_by, product_op, pairing_by, pairing, single_by, single, exponent}
use Rattle.fl_lexer.specs.Pieces.{piece_of}
use Rattle.fl_printer.specs.Words.{literal_text}
use Rattle.fl_printer.proofs.Tokens.{plain_literal}
use Rattle.fl_printed.specs.Fits.{Fits}
use Rattle.fl_printed.proofs.Spelled.{symbol_is, number_read}

pub plus_op : (t : Lexeme) → Fits t (codes "+") → sum_op t ≡ Some op.Add
unfolding piece_of symbol_by
plus_op t f = ap sum_op_by (symbol_is t (codes "+") Mark (codes "+") refl f)

pub minus_op : (t : Lexeme) → Fits t (codes "-") → sum_op t ≡ Some op.Sub
unfolding piece_of symbol_by
minus_op t f = ap sum_op_by (symbol_is t (codes "-") Mark (codes "-") refl f)

pub star_op : (t : Lexeme) → Fits t (codes "*") → product_op t ≡ Some op.Mul
unfolding piece_of symbol_by
star_op t f = ap product_op_by (symbol_is t (codes "*") Mark (codes "*") refl f)

pub slash_op : (t : Lexeme) → Fits t (codes "/") → product_op t ≡ Some op.Div
unfolding piece_of symbol_by
slash_op t f = ap product_op_by (symbol_is t (codes "/") Mark (codes "/") refl f)

pub max_read : (t : Lexeme) → Fits t (codes "max") → pairing t ≡ Some fun.Max
unfolding piece_of symbol_by
max_read t f = ap pairing_by (symbol_is t (codes "max") Word (codes "max") refl f)

pub min_read : (t : Lexeme) → Fits t (codes "min") → pairing t ≡ Some fun.Min
unfolding piece_of symbol_by
min_read t f = ap pairing_by (symbol_is t (codes "min") Word (codes "min") refl f)

pub mod_read : (t : Lexeme) → Fits t (codes "mod") → pairing t ≡ Some fun.Mod
unfolding piece_of symbol_by
mod_read t f = ap pairing_by (symbol_is t (codes "mod") Word (codes "mod") refl f)

pub abs_read : (t : Lexeme) → Fits t (codes "abs") → single t ≡ Some fun.Abs
unfolding piece_of symbol_by
abs_read t f = ap single_by (symbol_is t (codes "abs") Word (codes "abs") refl f)

at_most_as_long : (n : ℕ) → nat_le n 2147483647 ≡ true → n ≤ 9223372036854775807
at_most_as_long n h = let small : n ≤ 2147483647 = grind (arith, nat_tests) in omega (arith, small)

-- an exponent has no suffix
abbrev pub plain : ℕ → Number
plain n = record { value = n; suffix = None }

pub exponent_read : (t : Lexeme) (n : ℕ) → nat_le n 2147483647 ≡ true → Fits t (decimal n) → exponent t ≡ Some (plain n)
exponent_read t n h f =
    ap (at_most 2147483647) (number_read t n kind.Index (at_most_as_long n h) (subst (λ (bs : List ℕ). Fits t bs) (sym (plain_literal n)) f))
    ∙ ap (λ c. cond c (Some (plain n)) None) h
