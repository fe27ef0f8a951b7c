-- The pieces of a line outside comments: blanks, tokens and what is refused, one behind the other, each as long as can be.
use Rattle.std.specs.Prelude.{ℕ, ◌+◌, ◌-◌, ◌*◌, Bool, ◌||◌, ◌&&◌, ◌==◌, nat_le, if◌then◌else◌, List, [], ◌∷◌, take, drop, Option, Some, None, is_some, codes, bytes_eq}
use Rattle.std.specs.List.{prefix_len, list_any}
use Rattle.std.specs.Str.{str_to_ascii_lowercase}
use Rattle.tokens.specs.declared.TokenKind.TheVariants.{Word, Number, Mark, Dots}
use Rattle.fl_lexer.specs.declared.piece.Piece.{Piece}
use Rattle.fl_lexer.specs.declared.piece.PieceKind.{PieceKind}
use Rattle.fl_lexer.specs.declared.piece.PieceKind.TheVariants.{Blank, Lexical, BadByte, LongName, WideLiteral}
use Rattle.fl_lexer.specs.Bytes.{is_blank, is_letter, is_digit, is_word, is_mark, is_pair, begins}

abbrev pub piece : ℕ → PieceKind → Piece
piece n kind = record { len = n; kind = kind }

-- the number that digits stand for, behind those whose number is v
abbrev pub number_from : ℕ → List ℕ → ℕ
number_from v [] = v
number_from v (d ∷ ds) = number_from (v * 10 + (d - 48)) ds

-- `_4` or `_8`
abbrev pub suffix_of : List ℕ → Option ℕ
suffix_of (c ∷ d ∷ bs) = if (c == 95) && ((d == 52) || (d == 56)) then Some (d - 48) else None
suffix_of _ = None

abbrev pub literal : ℕ → Option ℕ → PieceKind
literal value suffix = if nat_le value 9223372036854775807 then Lexical (Number value suffix) else WideLiteral

-- the length of a suffix
abbrev pub suffix_len_of : Option ℕ → ℕ
suffix_len_of s = if is_some s then 2 else 0

-- digits, and the suffix where there is one
abbrev pub number_of : List ℕ → Piece
number_of bs =
    let n = prefix_len is_digit bs in
    let suffix = suffix_of (drop n bs) in
    piece (n + suffix_len_of suffix) (literal (number_from 0 (take n bs)) suffix)

-- a name of so many bytes
abbrev pub name_of : ℕ → Piece
name_of n = piece n (if nat_le n 63 then Lexical Word else LongName)

-- the words that stand between dots
abbrev pub dot_words : List (List ℕ)
dot_words = codes "eq" ∷ codes "ne" ∷ codes "lt" ∷ codes "le" ∷ codes "gt" ∷ codes "ge" ∷ codes "and" ∷ codes "or" ∷ codes "not" ∷ []

abbrev pub is_dot_word : List ℕ → Bool
is_dot_word w = list_any (λ v. bytes_eq (str_to_ascii_lowercase w) v) dot_words

-- what a dot begins, by what stands behind it
abbrev pub dots_of : List ℕ → Piece
dots_of bs =
    let n = prefix_len is_letter bs in
    if is_dot_word (take n bs) && begins (λ b. b == 46) (drop n bs) then piece (n + 2) (Lexical Dots) else piece 1 BadByte

abbrev pub mark_of : ℕ → List ℕ → Piece
mark_of b bs = piece (if begins (is_pair b) bs then 2 else 1) (Lexical Mark)

-- the piece that bytes begin with
unfoldable pub piece_of : List ℕ → Piece
piece_of [] = piece 0 Blank
piece_of (b ∷ bs) =
    if is_blank b then piece 1 Blank
    else (if is_letter b then name_of (1 + prefix_len is_word bs)
    else (if is_digit b then number_of (b ∷ bs)
    else (if b == 46 then dots_of bs
    else (if is_mark b then mark_of b bs
    else piece 1 BadByte))))
