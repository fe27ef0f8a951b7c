-- The number that digits stand for.
use Rattle.std.proofs.Common.{◌≡◌, ℕ, ◌+◌, ◌-◌, ◌*◌, ◌<◌, ◌≤◌, List, [], ◌∷◌, length, get_or, drop, refl, arith, drop-cons, add-one}
use Rattle.fl_lexer.specs.Pieces.{number_from}

-- more digits make no number less
pub number_from-le : (v : ℕ) (ds : List ℕ) → v ≤ number_from v ds
number_from-le v [] = omega arith
number_from-le v (d ∷ ds) = let h : v * 10 + (d - 48) ≤ number_from (v * 10 + (d - 48)) ds = number_from-le (v * 10 + (d - 48)) ds in omega (arith, h)

-- one digit more
pub number_from-drop : (ds : List ℕ) (i v : ℕ) → i < length ds → number_from v (drop i ds) ≡ number_from (v * 10 + (get_or ds i 0 - 48)) (drop (i + 1) ds)
number_from-drop ds i v h = rw (add-one, drop-cons ds i 0) refl
