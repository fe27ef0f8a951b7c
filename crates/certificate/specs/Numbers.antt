-- Numbers in words.
use Rattle.std.specs.Prelude.{ℕ, ◌+◌, ◌-◌, ◌*◌, Bool, false, not, ◌&&◌, ◌==◌, nat_le, if◌then◌else◌, ℤ, pos, neg_ℤ, List, [], ◌∷◌, codes, bytes_eq, option_map, Option, Some, None}
use Rattle.std.specs.Char.{is_ascii_digit}
use Rattle.std.specs.List.{list_all}

-- digits, of which the first isn't 0
abbrev pub is_numeral : List ℕ → Bool
is_numeral [] = false
is_numeral (d ∷ ds) = not (d == 48) && list_all is_ascii_digit (d ∷ ds)

-- the number that digits stand for, behind those whose number is n
abbrev pub number_from : ℕ → List ℕ → ℕ
number_from n [] = n
number_from n (d ∷ ds) = number_from (n * 10 + (d - 48)) ds

-- a number from 1 to `most`
unfoldable pub above_zero : ℕ → List ℕ → Option ℕ
above_zero most text = if is_numeral text && nat_le (number_from 0 text) most then Some (number_from 0 text) else None

-- a number from 0 to `most`
abbrev pub number_up_to : ℕ → List ℕ → Option ℕ
number_up_to most text = if bytes_eq text (codes "0") then Some 0 else above_zero most text

-- a number of 32 bits
abbrev pub number_in : List ℕ → Option ℕ
number_in text = number_up_to 4294967295 text

-- a number of 32 bits with a sign where it is below 0
abbrev pub multiplier_in : List ℕ → Option ℤ
multiplier_in [] = None
multiplier_in (c ∷ ds) = if c == 45 then option_map (λ n. neg_ℤ (pos n)) (above_zero 2147483648 ds) else option_map pos (number_up_to 2147483647 (c ∷ ds))
