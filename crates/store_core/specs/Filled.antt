-- The words of stores.
use Rattle.std.specs.Prelude.{ℕ, zero, suc, ◌+◌, cond, bytes_eq, List, [], ◌∷◌, ◌++◌, flat_map, map, take, drop, length, replicate, slice_set, Bool, false, Option, Some, None, find}
use Rattle.store_core.specs.declared.layout.Shape.{Shape}
use Rattle.store_core.specs.declared.values.Entry.{Entry}
use Rattle.store_core.specs.Values.{words_in}
use Rattle.store_core.specs.Keys.{keys_of, size_of}
use Rattle.store_core.specs.Places.{is_empty}

-- the first n words, and zeros where there are fewer
abbrev pub fitted : ℕ → List ℕ → List ℕ
fitted zero ws = []
fitted (suc n) [] = 0 ∷ fitted n []
fitted (suc n) (w ∷ ws) = w ∷ fitted n ws

-- the words of a shape's places
abbrev pub shape_words : List Entry → Shape → List ℕ
shape_words values s = fitted (size_of s.axes) (words_in values s.name)

-- the words of all places, 0 where a name has none
abbrev pub place_words : List Shape → List Entry → List ℕ
place_words shapes values = flat_map (shape_words values) shapes

-- the words of a run's start: the values, and zeros for the adjoints
abbrev pub opening_words : List Shape → List Entry → List ℕ
opening_words shapes values = place_words shapes values ++ replicate (length (keys_of shapes)) 0

-- the values as they are, and the weights as adjoints
abbrev pub seeded_words : List Shape → List Entry → List ℕ → List ℕ
seeded_words shapes weights store = take (length (keys_of shapes)) store ++ place_words shapes weights

-- words written one after another from a cell on
abbrev pub written : List ℕ → ℕ → List ℕ → List ℕ
written store at [] = store
written store at (w ∷ ws) = written (slice_set store at w) (at + 1) ws

-- among the words of all places those of a name, none where it has no place
abbrev pub name_words : List Shape → List ℕ → List ℕ → List ℕ
name_words [] name words = []
name_words (s ∷ es) name words = cond (bytes_eq name s.name) (take (size_of s.axes) words) (name_words es name (drop (size_of s.axes) words))

-- whether a name is laid out as a scalar
abbrev pub is_scalar : Option Shape → Bool
is_scalar None = false
is_scalar (Some s) = is_empty s.axes

abbrev pub entry_at : List Shape → List ℕ → List ℕ → Entry
entry_at shapes words name = record {
  name = name;
  scalar = is_scalar (find (λ (s : Shape). bytes_eq name s.name) shapes);
  words = name_words shapes name words;
}

-- the words of names
abbrev pub entries_at : List Shape → List ℕ → List (List ℕ) → List Entry
entries_at shapes words names = map (entry_at shapes words) names
