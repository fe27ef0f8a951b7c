-- Lists of names.
use Rattle.std.specs.Prelude.{ℕ, Bool, true, not, ◌&&◌, ◌||◌, ◌==◌, nat_le, slice_index, if◌then◌else◌, List, [], ◌∷◌, length, map, Option, Some, None, bytes_eq}
use Rattle.std.specs.Char.{is_ascii_alphabetic, is_ascii_alphanumeric}
use Rattle.std.specs.List.{list_all, list_any, slice_split}
use Rattle.std.specs.Str.{str_to_ascii_lowercase}

-- a letter, a digit or an underscore
abbrev pub is_name_byte : ℕ → Bool
is_name_byte b = is_ascii_alphanumeric b || b == 95

-- a letter, and then letters, digits and underscores, at most 63
abbrev pub is_name : List ℕ → Bool
is_name bs = is_ascii_alphabetic (slice_index bs 0) && nat_le (length bs) 63 && list_all is_name_byte bs

-- a name, lowered
abbrev pub name_in : List ℕ → Option (List ℕ)
name_in text = if is_name text then Some (str_to_ascii_lowercase text) else None

-- no two are the same
abbrev pub is_distinct : List (List ℕ) → Bool
is_distinct [] = true
is_distinct (name ∷ names) = not (list_any (bytes_eq name) names) && is_distinct names

-- the parts with their letters lowered, where each is a name and no two are then the same
abbrev pub names_from : List (List ℕ) → Option (List (List ℕ))
names_from parts = if list_all is_name parts && is_distinct (map str_to_ascii_lowercase parts) then Some (map str_to_ascii_lowercase parts) else None

-- the names of a list with commas between; it has at least one
unfoldable pub names_in : List ℕ → Option (List (List ℕ))
names_in text = names_from (slice_split (λ b. b == 44) text)
