-- The text of a place.
use Rattle.std.specs.Prelude.{◌≡◌, Option, Some, option_map, slice_get, ℕ, ◌/◌, ◌%◌, List, [], ◌∷◌, ◌++◌, ℤ, pos, ◌+ℤ◌}
use Rattle.std.specs.Fmt.{signed_decimal}
use Rattle.store_core.specs.declared.bound.Axis.{Axis}

-- the subscripts at a column-major position
abbrev pub subscripts_at : List Axis → ℕ → List ℤ
subscripts_at [] k = []
subscripts_at (a ∷ axes) k = (a.lower +ℤ pos (k % a.extent)) ∷ subscripts_at axes (k / a.extent)

-- the subscripts after the first, and the bracket
abbrev pub rest_text : List ℤ → List ℕ
rest_text [] = 41 ∷ []
rest_text (s ∷ ss) = 44 ∷ (signed_decimal s ++ rest_text ss)

abbrev pub brackets : List ℤ → List ℕ
brackets [] = []
brackets (s ∷ ss) = 40 ∷ (signed_decimal s ++ rest_text ss)

-- as `y(2,3)`
abbrev pub text_of : List ℕ × List ℤ → List ℕ
text_of k = k.0 ++ brackets k.1

abbrev pub map_text : Option (List ℕ × List ℤ) → Option (List ℕ)
map_text o = option_map text_of o

-- the text of the key at a place
abbrev pub IsTextAt : List (List ℕ × List ℤ) → ℕ → List ℕ → Type 0
IsTextAt keys place text = map_text (slice_get keys place) ≡ Some text
