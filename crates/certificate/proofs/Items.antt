-- Lists that are read word by word.
use Rattle.std.proofs.Common.{◌≡◌, ◌==◌, ℕ, ◌<◌, false, Bor, List, [], ◌∷◌, ◌++◌, length, Option, Some, None, refl, arith}
use Rattle.certificate.specs.Reading.{texts, multiples_in}

-- items so far, and those that the rest gives
abbrev pub behind : {A : Type 0} → List A → Option (List A) → Option (List A)
behind xs None = None
behind xs (Some ys) = Some (xs ++ ys)

-- one word alone
pub no-multiple : (words : List (Bor (List ℕ))) → length words < 2 → (length words == 0) ≡ false → multiples_in (texts words) ≡ None
no-multiple [] h e = cc
no-multiple (x ∷ []) h e = refl
no-multiple (x ∷ y ∷ words) h e = absurd (omega arith)
