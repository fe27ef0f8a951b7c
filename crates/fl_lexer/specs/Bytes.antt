-- Classes of bytes.
use Rattle.std.specs.Prelude.{ℕ, Bool, false, ◌||◌, ◌&&◌, ◌==◌, List, [], ◌∷◌}
use Rattle.std.specs.Char.{is_ascii_digit, is_ascii_alphabetic, to_ascii_lowercase}

-- a blank or a tab
abbrev pub is_blank : ℕ → Bool
is_blank b = (b == 32) || (b == 9)

abbrev pub is_letter : ℕ → Bool
is_letter b = is_ascii_alphabetic b

abbrev pub is_digit : ℕ → Bool
is_digit b = is_ascii_digit b

-- what a name goes on with
abbrev pub is_word : ℕ → Bool
is_word b = is_ascii_alphabetic b || is_ascii_digit b || (b == 95)

-- `!`, which begins a comment
abbrev pub is_bang : ℕ → Bool
is_bang b = b == 33

-- LF
abbrev pub is_line_feed : ℕ → Bool
is_line_feed b = b == 10

-- one of `( ) , = + - * / < > : &`
abbrev pub is_mark : ℕ → Bool
is_mark b = (b == 40) || (b == 41) || (b == 44) || (b == 61) || (b == 43) || (b == 45) || (b == 42) || (b == 47) || (b == 60) || (b == 62) || (b == 58) || (b == 38)

-- one of `** == /= <= >= ::`
abbrev pub is_pair : ℕ → ℕ → Bool
is_pair a b = ((b == 61) && ((a == 61) || (a == 47) || (a == 60) || (a == 62))) || ((a == 42) && (b == 42)) || ((a == 58) && (b == 58))

-- the letter or its capital
abbrev pub is_either : ℕ → ℕ → Bool
is_either b letter = to_ascii_lowercase b == letter

-- whether a byte of this class stands first
abbrev pub begins : (ℕ → Bool) → List ℕ → Bool
begins test [] = false
begins test (b ∷ bs) = test b
