-- Names in the order of their bytes, each once.
use Rattle.std.specs.Prelude.{ℕ, Bool, true, ◌&&◌, insert, List, [], ◌∷◌, Option, Some, None}
use Rattle.std.specs.Cmp.Lexicographic.{slice_cmp}
use Rattle.std.specs.declared.cmp.Ordering.{Ordering}
use Rattle.std.specs.declared.cmp.Ordering.TheVariants.{Less, Equal, Greater}
use Rattle.std.specs.Ordering.{nat_cmp, is_lt}

abbrev pub is_before : List ℕ → List ℕ → Bool
is_before x y = is_lt (slice_cmp nat_cmp x y)

-- each name is before the next
abbrev pub are_ordered : List (List ℕ) → Bool
are_ordered [] = true
are_ordered (x ∷ []) = true
are_ordered (x ∷ y ∷ ys) = is_before x y && are_ordered (y ∷ ys)

-- x and y as they compare, the names behind y being ys, and with x zs
abbrev pub put_by : Ordering → List ℕ → List ℕ → (ys zs : List (List ℕ)) → List (List ℕ)
put_by Less x y ys zs = x ∷ y ∷ ys
put_by Equal x y ys zs = y ∷ ys
put_by Greater x y ys zs = y ∷ zs

-- a name among names that are ordered
abbrev pub put_in : List ℕ → List (List ℕ) → List (List ℕ)
put_in x [] = x ∷ []
put_in x (y ∷ ys) = put_by (slice_cmp nat_cmp x y) x y ys (put_in x ys)

-- the same, with the last one first
abbrev pub put_all : List (List ℕ) → List (List ℕ) → List (List ℕ)
put_all [] ys = ys
put_all (x ∷ xs) ys = put_in x (put_all xs ys)

-- a name at a position, or nowhere where it is there already
abbrev pub placed : Option ℕ → List ℕ → List (List ℕ) → List (List ℕ)
placed None x ys = ys
placed (Some i) x ys = insert ys i x
