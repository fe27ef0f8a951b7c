-- The turns of the inner one of two collapsed loops.
use Rattle.std.specs.Prelude.{ℕ, ◌/◌, if◌then◌else◌, ℤ, pos, ◌-ℤ◌, int_lt, int_le, unsigned_abs, Option, Some, None}
use Rattle.fl_types.specs.Nests.{Head}
use Rattle.index_forms.specs.Loops.{signed_number, step_number}

-- the number of the last turn from a first value to a last one by a step, from 0, where there is a turn
abbrev pub last_turn : (first last step : ℤ) → Option ℕ
last_turn a b c =
    if int_lt b a then None
    else if int_le c (pos 0) then None
    else Some (unsigned_abs (b -ℤ a) / unsigned_abs c)

-- where all three are literals
abbrev pub last_turn_by : (first last step : Option ℤ) → Option ℕ
last_turn_by (Some a) (Some b) (Some c) = last_turn a b c
last_turn_by a b c = None

-- of a head, where there is one
abbrev pub last_turn_of : Option Head → Option ℕ
last_turn_of None = None
last_turn_of (Some h) = last_turn_by (signed_number h.first) (signed_number h.last) (step_number h.step)
