-- What a text looks like that spells tokens: the same as a relation, piece by piece and line by line.
use Rattle.std.specs.Prelude.{◌≡◌, ℕ, ◌+◌, ◌≤◌, Bool, true, false, if◌then◌else◌, List, [], ◌∷◌, ◌++◌, length, drop, Option, Some, None, ◌⊎◌, codes}
use Rattle.std.specs.List.{prefix_len}
use Rattle.tokens.specs.declared.Token.{Token}
use Rattle.tokens.specs.declared.TokenKind.{TokenKind}
use Rattle.tokens.specs.declared.TokenKind.TheVariants.{Word, Number, Mark, Dots, Sentinel, LineEnd}
use Rattle.fl_lexer.specs.declared.piece.PieceKind.{PieceKind}
use Rattle.fl_lexer.specs.declared.piece.PieceKind.TheVariants.{Blank, Lexical, BadByte, LongName, WideLiteral}
use Rattle.fl_lexer.specs.declared.line.LineClass.{LineClass}
use Rattle.fl_lexer.specs.declared.line.LineClass.TheVariants.{Empty, Conditional, Statement, Directive}
use Rattle.fl_lexer.specs.declared.line.LinePlace.{LinePlace}
use Rattle.fl_lexer.specs.Bytes.{is_blank, is_letter, is_digit, is_word, is_mark, is_pair, begins}
use Rattle.fl_lexer.specs.Pieces.{number_from, suffix_of, is_dot_word}
use Rattle.fl_lexer.specs.Lines.{Line, lines, class_of, text_from, goes_on, body_of, next_class, continues}
use Rattle.fl_lexer.specs.Reading.{token, line_end, joint, after, first_place, leaves_open}

-- each byte is of the class
abbrev pub Each : (ℕ → Bool) → List ℕ → Type 0
Each test [] = Unit {0}
Each test (b ∷ bs) = (test b ≡ true) × Each test bs

-- a letter, and then letters, digits and underscores
abbrev pub IsName : List ℕ → Type 0
IsName [] = ⊥
IsName (b ∷ bs) = (is_letter b ≡ true) × Each is_word bs

abbrev pub IsDigits : List ℕ → Type 0
IsDigits [] = ⊥
IsDigits (b ∷ bs) = (is_digit b ≡ true) × Each is_digit bs

-- no suffix, `_4` or `_8`
abbrev pub IsSuffix : Option ℕ → List ℕ → Type 0
IsSuffix None bs = bs ≡ []
IsSuffix (Some k) bs = ((k ≡ 4) × (bs ≡ codes "_4")) ⊎ ((k ≡ 8) × (bs ≡ codes "_8"))

-- digits with a suffix or not, and their number
abbrev pub IsNumber : ℕ → Option ℕ → List ℕ → Type 0
IsNumber value suffix bs = (ds es : List ℕ) × (bs ≡ ds ++ es) × IsDigits ds × IsSuffix suffix es × (value ≡ number_from 0 ds) × (value ≤ 9223372036854775807)

-- what may stand behind a number: no digit and no suffix where it has none
abbrev pub EndsNumber : Option ℕ → List ℕ → Type 0
EndsNumber None rest = (begins is_digit rest ≡ false) × (suffix_of rest ≡ None)
EndsNumber (Some k) rest = Unit {0}

abbrev pub IsDots : List ℕ → Type 0
IsDots bs = (w : List ℕ) × (bs ≡ 46 ∷ w ++ 46 ∷ []) × Each is_letter w × (is_dot_word w ≡ true)

abbrev pub IsOneMark : List ℕ → List ℕ → Type 0
IsOneMark bs rest = (b : ℕ) × (bs ≡ b ∷ []) × (is_mark b ≡ true) × (begins (is_pair b) rest ≡ false)

abbrev pub IsTwoMarks : List ℕ → Type 0
IsTwoMarks bs = (a b : ℕ) × (bs ≡ a ∷ b ∷ []) × (is_mark a ≡ true) × (is_pair a b ≡ true)

-- the bytes are a token of the kind that could be no longer, the rest standing behind them
abbrev pub IsLexical : TokenKind → List ℕ → List ℕ → Type 0
IsLexical Word bs rest = IsName bs × (length bs ≤ 63) × (begins is_word rest ≡ false)
IsLexical (Number value suffix) bs rest = IsNumber value suffix bs × EndsNumber suffix rest
IsLexical Mark bs rest = IsOneMark bs rest ⊎ IsTwoMarks bs
IsLexical Dots bs rest = IsDots bs
IsLexical Sentinel bs rest = ⊥
IsLexical LineEnd bs rest = ⊥

-- the bytes are a blank or a token
abbrev pub IsPiece : PieceKind → List ℕ → List ℕ → Type 0
IsPiece Blank bs rest = (b : ℕ) × (bs ≡ b ∷ []) × (is_blank b ≡ true)
IsPiece (Lexical kind) bs rest = IsLexical kind bs rest
IsPiece BadByte bs rest = ⊥
IsPiece LongName bs rest = ⊥
IsPiece WideLiteral bs rest = ⊥

-- a blank or token with its bytes
pub record Spelt : Type 0 where
  pub kind : PieceKind
  pub bytes : List ℕ

abbrev pub spelt : PieceKind → List ℕ → Spelt
spelt kind bytes = record { kind = kind; bytes = bytes }

abbrev pub text_of : List Spelt → List ℕ
text_of [] = []
text_of (x ∷ xs) = x.bytes ++ text_of xs

-- none of the pieces could be longer
abbrev pub AreLongest : List Spelt → Type 0
AreLongest [] = Unit {0}
AreLongest (x ∷ xs) = IsPiece x.kind x.bytes (text_of xs) × AreLongest xs

-- the token that a piece is in a line, from a byte on
abbrev pub token_of : LinePlace → ℕ → ℕ → PieceKind → List Token
token_of p at n (Lexical kind) = token p at n kind ∷ []
token_of p at n _ = []

abbrev pub tokens_of : LinePlace → ℕ → List Spelt → List Token
tokens_of p at [] = []
tokens_of p at (x ∷ xs) = token_of p at (length x.bytes) x.kind ++ tokens_of p (at + length x.bytes) xs

-- where a text goes on, a line of its kind continues it; else the line's end is a token
abbrev pub Goes : Bool → LineClass → List Line → Type 0
Goes true class ls = continues class (next_class ls) ≡ true
Goes false class ls = Unit {0}

abbrev pub end_of : Bool → LinePlace → Line → List Token
end_of true p l = []
end_of false p l = line_end p l ∷ []

-- the text of a line from a byte on, some bytes aside, spells these tokens
abbrev pub SpellsText : LinePlace → LineClass → ℕ → ℕ → Line → List Line → List Token → Type 0
SpellsText p class from skipped l ls us =
    let text = text_from from l.bytes in
    (xs : List Spelt) × (drop skipped (body_of text) ≡ text_of xs) × AreLongest xs × Goes (goes_on text) class ls
    × (us ≡ tokens_of p (from + skipped) xs ++ end_of (goes_on text) p l)

abbrev pub SpellsClass : LinePlace → Bool → LineClass → Line → List Line → List Token → Type 0
SpellsClass p continued Empty l ls us = us ≡ []
SpellsClass p continued Conditional l ls us = ⊥
SpellsClass p continued Statement l ls us =
    let from = prefix_len is_blank l.bytes in
    SpellsText p Statement from (joint continued from l) l ls us
SpellsClass p continued Directive l ls us =
    let from = prefix_len is_blank l.bytes in
    (vs : List Token) × SpellsText p Directive (from + 5) 0 l ls vs × (us ≡ (if continued then [] else token p from 5 Sentinel ∷ []) ++ vs)

-- lines within the limit that spell these tokens
abbrev pub SpellLines : LinePlace → Bool → List Line → List Token → Type 0
SpellLines p continued [] us = us ≡ []
SpellLines p continued (l ∷ ls) us =
    (vs ws : List Token) × (length l.bytes ≤ 1024) × SpellsClass p continued (class_of l.bytes) l ls vs
    × SpellLines (after p l) (leaves_open continued (class_of l.bytes) l.bytes) ls ws × (us ≡ vs ++ ws)

-- a text that spells these tokens
abbrev pub Spells : List ℕ → List Token → Type 0
Spells text us = SpellLines first_place false (lines text) us
