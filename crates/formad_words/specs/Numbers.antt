-- Numbers in words.
use Rattle.std.specs.Prelude.{ℕ, ◌+◌, ◌-◌, ◌*◌, Bool, true, false, not, ◌&&◌, ◌==◌, nat_le, if◌then◌else◌, List, [], ◌∷◌, Option, Some, None}
use Rattle.std.specs.Char.{is_ascii_digit}
use Rattle.std.specs.List.{list_all}

-- digits, of which the first isn't 0
abbrev pub is_numeral : List ℕ → Bool
is_numeral [] = false
is_numeral (d ∷ ds) = not (d == 48) && list_all is_ascii_digit (d ∷ ds)

-- the number that digits stand for, behind those whose number is n
abbrev pub number_from : ℕ → List ℕ → ℕ
number_from n [] = n
number_from n (d ∷ ds) = number_from (n * 10 + (d - 48)) ds

-- a number of at most `most`
unfoldable pub number_up_to : ℕ → List ℕ → Option ℕ
number_up_to most text = if is_numeral text && nat_le (number_from 0 text) most then Some (number_from 0 text) else None
