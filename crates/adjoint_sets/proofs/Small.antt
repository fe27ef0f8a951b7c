-- Small graphs compute.
use Rattle.std.proofs.Common.{◌≡◌, ℕ, List, [], ◌∷◌, codes, refl}
use Rattle.reachability.specs.Reached.{Edge}
use Rattle.adjoint_sets.specs.Reach.{reach}

abbrev from : List ℕ → List ℕ → Edge (List ℕ)
from x y = record { tail = x; head = y }

abbrev a : List ℕ
a = codes "a"

abbrev b : List ℕ
b = codes "b"

abbrev c : List ℕ
c = codes "c"

-- edges lead on in whatever order they stand, and not back
in_order : reach (from a b ∷ from b c ∷ []) (a ∷ []) ≡ c ∷ b ∷ a ∷ []
in_order = refl

out_of_order : reach (from b c ∷ from a b ∷ []) (a ∷ []) ≡ b ∷ c ∷ b ∷ a ∷ []
out_of_order = refl

not_back : reach (from a b ∷ []) (b ∷ []) ≡ b ∷ []
not_back = refl
