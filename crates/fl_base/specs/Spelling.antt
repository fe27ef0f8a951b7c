-- How names are spelled.
use Rattle.std.specs.Prelude.{ℕ, Bool, false, ◌&&◌, ◌||◌, ◌==◌, nat_le, List, [], ◌∷◌, length}
use Rattle.std.specs.List.{list_all}
use Rattle.std.specs.Char.{is_ascii_digit}

-- a to z
abbrev pub is_small_letter : ℕ → Bool
is_small_letter b = nat_le 97 b && nat_le b 122

-- a small letter, a digit or an underscore
abbrev pub is_name_byte : ℕ → Bool
is_name_byte b = is_small_letter b || (is_ascii_digit b || (b == 95))

-- a small letter, and then such bytes, 63 in all at most
abbrev pub is_name : List ℕ → Bool
is_name [] = false
is_name (b ∷ bs) = is_small_letter b && (list_all is_name_byte bs && nat_le (length bs) 62)
