-- Where texts are cut.
use Rattle.std.proofs.Common.{◌≡◌, ℕ, ◌==◌, Bool, true, false, List, [], ◌∷◌, ◌++◌, refl}
use Rattle.std.specs.List.{slice_split}
use Rattle.certificate.proofs.Decimals.{Free}

abbrev pub cut : ℕ → List ℕ → List (List ℕ)
cut c xs = slice_split (λ b. b == c) xs

-- behind a text without the byte
pub cut-at : (c : ℕ) (xs ys : List ℕ) → (c == c) ≡ true → Free c xs → cut c (xs ++ c ∷ ys) ≡ xs ∷ cut c ys
cut-at c [] ys e f = rw e refl
cut-at c (x ∷ xs) ys e f = rw (f.0, cut-at c xs ys e f.1) refl

pub cut-end : (c : ℕ) (xs : List ℕ) → Free c xs → cut c xs ≡ xs ∷ []
cut-end c [] f = refl
cut-end c (x ∷ xs) f = rw (f.0, cut-end c xs f.1) refl

-- there is always a first part
pub some-part : (c : ℕ) (xs : List ℕ) → (x : List ℕ) × (parts : List (List ℕ)) × (cut c xs ≡ x ∷ parts)
some-part c [] = ([], [], refl)
some-part c (x ∷ xs) = by-test (x == c) refl (some-part c xs) where
  by-test : (b : Bool) → (x == c) ≡ b → (y : List ℕ) × (parts : List (List ℕ)) × (cut c xs ≡ y ∷ parts) → (y : List ℕ) × (parts : List (List ℕ)) × (cut c (x ∷ xs) ≡ y ∷ parts)
  by-test true t r = ([], cut c xs, rw t refl)
  by-test false t r = (x ∷ r.0, r.1, rw (t, r.2) refl)
