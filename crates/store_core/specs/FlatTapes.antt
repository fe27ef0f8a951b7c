-- How tapes lie in memory.
use Rattle.std.specs.Prelude.{ℕ, ◌-◌, ◌≤◌, ◌+◌, if◌then◌else◌, nat_lt, List, [], ◌∷◌, length, slice_index_or, take, drop}

-- the pieces of words that begin at these starts, each up to the next
abbrev pub pieces : List ℕ → List ℕ → List (List ℕ)
pieces words [] = []
pieces words (s ∷ []) = drop s words ∷ []
pieces words (s ∷ t ∷ ts) = take (t - s) (drop s words) ∷ pieces words (t ∷ ts)

-- none begins before the one before it, nor past this number of words
abbrev pub AreStarts : List ℕ → ℕ → Type 0
AreStarts [] n = Unit {0}
AreStarts (s ∷ []) n = s ≤ n
AreStarts (s ∷ t ∷ ts) n = (s ≤ t) × AreStarts (t ∷ ts) n

-- where the piece with this number ends, of so many words
abbrev pub end_of : List ℕ → ℕ → ℕ → ℕ
end_of starts k n = if nat_lt (k + 1) (length starts) then slice_index_or starts (k + 1) 0 else n
