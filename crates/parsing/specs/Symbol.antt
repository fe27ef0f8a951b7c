-- What tokens are to a grammar.
use Rattle.std.specs.Prelude.{ℕ, List, [], ◌∷◌, bytes_eq, cond, map}
use Rattle.std.specs.Str.{str_to_ascii_lowercase}
use denote.Ref.{Bor}
use Rattle.tokens.specs.declared.TokenKind.{TokenKind}
use Rattle.tokens.specs.declared.TokenKind.TheVariants as kind
use Rattle.tokens.specs.Lexeme.{Lexeme}
use Rattle.parsing.specs.declared.symbol.Symbol.{Symbol}
use Rattle.parsing.specs.declared.symbol.Symbol.TheVariants as s
use Rattle.parsing.specs.declared.symbol.TheConstants.{KINDS, MARKS, DOTS, WORDS}

-- a spelling, and the symbol that it has
abbrev pub Entry : Type 0
Entry = List ℕ × Symbol

abbrev pub entries : List (Bor (List ℕ) × Symbol) → List Entry
entries = map (λ e. (e.0.now, e.1))

-- the symbol beside the first such spelling
abbrev pub look_up : List Entry → List ℕ → Symbol → Symbol
look_up [] bytes otherwise = otherwise
look_up (entry ∷ table) bytes otherwise = cond (bytes_eq bytes (str_to_ascii_lowercase entry.0)) entry.1 (look_up table bytes otherwise)

abbrev pub words : List Entry
words = map (λ e. (e.0.now, e.1)) WORDS

abbrev pub kind_numbers : List Entry
kind_numbers = map (λ e. (e.0.now, e.1)) KINDS

abbrev pub marks : List Entry
marks = map (λ e. (e.0.now, e.1)) MARKS

abbrev pub dot_words : List Entry
dot_words = map (λ e. (e.0.now, e.1)) DOTS

unfoldable pub symbol_by : TokenKind → List ℕ → Symbol
symbol_by kind.Word bytes = look_up words bytes s.Name
symbol_by (kind.Number value suffix) bytes = look_up kind_numbers bytes s.Number
symbol_by kind.Mark bytes = look_up marks bytes s.Other
symbol_by kind.Dots bytes = look_up dot_words bytes s.Other
symbol_by kind.Sentinel bytes = s.Sentinel
symbol_by kind.LineEnd bytes = s.LineEnd

abbrev pub symbol_of : Lexeme → Symbol
symbol_of t = symbol_by t.kind t.bytes
