-- What the tokens of a text are spelled like.
use Rattle.std.specs.Prelude.{◌≡◌, ℕ, ◌≤◌, Bool, true, false, ◌&&◌, nat_le, List, [], ◌∷◌, length}
use Rattle.fl_base.specs.Spelling.{is_name}
use Rattle.tokens.specs.declared.TokenKind.{TokenKind}
use Rattle.tokens.specs.declared.TokenKind.TheVariants.{Word, Number, Mark, Dots, Sentinel, LineEnd}
use Rattle.tokens.specs.declared.Token.{Token}
use Rattle.tokens.specs.Lexeme.{Lexeme, lexeme}

abbrev pub has_bytes : List ℕ → Bool
has_bytes [] = false
has_bytes (b ∷ bs) = true

-- a word is a name, a number is at most 2^63-1, and only the end of a line may have no bytes
abbrev pub is_spelled_as : TokenKind → List ℕ → Bool
is_spelled_as Word bs = is_name bs
is_spelled_as (Number value suffix) bs = has_bytes bs && nat_le value 9223372036854775807
is_spelled_as Mark bs = has_bytes bs
is_spelled_as Dots bs = has_bytes bs
is_spelled_as Sentinel bs = has_bytes bs
is_spelled_as LineEnd bs = true

abbrev pub is_spelled : Lexeme → Bool
is_spelled t = is_spelled_as t.kind t.bytes

-- each token begins where the one before it has ended or later, and is spelled as its kind is
abbrev pub AreSpelled : List ℕ → ℕ → List Token → Type 0
AreSpelled text from [] = Unit {0}
AreSpelled text from (t ∷ ts) =
    (from ≤ t.start) × (t.start ≤ t.end) × (t.end ≤ length text) × (is_spelled (lexeme text t) ≡ true) × AreSpelled text t.end ts
