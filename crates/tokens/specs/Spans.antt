-- Where the tokens of a text lie.
use Rattle.std.specs.Prelude.{ℕ, ◌≤◌, List, [], ◌∷◌, length}
use Rattle.tokens.specs.declared.Token.{Token}

-- the token is a piece of a text that has so many bytes
abbrev pub Is_span : ℕ → Token → Type 0
Is_span size t = (t.start ≤ t.end) × (t.end ≤ size)

-- each token is a piece of the text
abbrev pub Are_spans : List ℕ → List Token → Type 0
Are_spans text [] = Unit {0}
Are_spans text (t ∷ ts) = Is_span (length text) t × Are_spans text ts
