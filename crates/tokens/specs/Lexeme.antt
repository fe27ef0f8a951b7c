-- Tokens as grammars see them: without their places, since a text that goes on has tokens that stand nowhere yet.
use Rattle.std.specs.Prelude.{ℕ, List, slice_range}
use Rattle.std.specs.Str.{str_to_ascii_lowercase}
use Rattle.tokens.specs.declared.TokenKind.{TokenKind}
use Rattle.tokens.specs.declared.Token.{Token}

-- a token's line, kind and bytes, letters lowered
pub record Lexeme : Type 0 where
  pub line : ℕ
  pub kind : TokenKind
  pub bytes : List ℕ

-- the lexeme of a token of a text
abbrev pub lexeme : List ℕ → Token → Lexeme
lexeme text t = record { line = t.line; kind = t.kind; bytes = str_to_ascii_lowercase (slice_range text t.start t.end) }
