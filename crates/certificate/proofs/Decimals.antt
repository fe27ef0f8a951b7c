-- Numbers in texts are read back.
use Rattle.std.proofs.Common.{◌≡◌, ℕ, zero, suc, ◌+◌, ◌-◌, ◌*◌, ◌%◌, ◌^◌, ◌<◌, ◌≤◌, ◌==◌, ◌&&◌, Bool, true, false, not, nat_le, List, [], ◌∷◌, ◌++◌, get_or, Some, refl, ◌∙◌, arith}
use Rattle.std.specs.Prelude.{codes, bytes_eq}
use Rattle.std.specs.Char.{is_ascii_digit}
use Rattle.std.specs.List.{list_all}
use Rattle.std.specs.Fmt.{decimal}
use Rattle.std.proofs.lemmas.Bool.Decides.{nat_tests}
use Rattle.std.proofs.lemmas.Fmt.{decimal_by_steps, decimal_digit, first_decimal}
use Rattle.certificate.specs.Numbers.{is_numeral, number_from, above_zero, number_up_to}

-- ---- a byte that a text doesn't have

abbrev pub Free : ℕ → List ℕ → Type 0
Free c [] = Unit {0}
Free c (x ∷ xs) = ((x == c) ≡ false) × Free c xs

pub free-join : (c : ℕ) (xs ys : List ℕ) → Free c xs → Free c ys → Free c (xs ++ ys)
free-join c [] ys f g = g
free-join c (x ∷ xs) ys f g = (f.0, free-join c xs ys f.1 g)

-- shown by a test that computes
abbrev pub is_free : ℕ → List ℕ → Bool
is_free c [] = true
is_free c (x ∷ xs) = not (x == c) && is_free c xs

pub free-by : (c : ℕ) (xs : List ℕ) → is_free c xs ≡ true → Free c xs
free-by c [] h = tt
free-by c (x ∷ xs) h = parts (x == c) (is_free c xs) h (free-by c xs) where
  parts : {P : Type 0} (a b : Bool) → (not a && b) ≡ true → (b ≡ true → P) → (a ≡ false) × P
  parts true b h f = cc
  parts false b h f = (refl, f h)

digit_free : (c d : ℕ) → c < 48 → ((48 + d) == c) ≡ false
digit_free c d h = grind (arith, nat_tests)

pub free-decimal : (c n : ℕ) → c < 48 → n < 2 ^ 64 → Free c (decimal n)
free-decimal c n low h =
    decimal_by_steps (λ n ds. Free c ds) (λ n digit. (digit_free c n low, tt)) (λ n ds big below. free-join c ds ((48 + n % 10) ∷ []) below (digit_free c (n % 10) low, tt)) n h

-- ---- the number of a text

value-join : (n : ℕ) (xs : List ℕ) (d : ℕ) → number_from n (xs ++ d ∷ []) ≡ number_from n xs * 10 + (d - 48)
value-join n [] d = refl
value-join n (x ∷ xs) d = value-join (n * 10 + (x - 48)) xs d

pub value-decimal : (n : ℕ) → n < 2 ^ 64 → number_from 0 (decimal n) ≡ n
value-decimal n h =
    decimal_by_steps (λ n ds. number_from 0 ds ≡ n) (λ n digit. omega arith)
    (λ n ds big below. value-join 0 ds (48 + n % 10) ∙ omega (arith, below)) n h

all-join : (xs : List ℕ) (d : ℕ) → list_all is_ascii_digit xs ≡ true → is_ascii_digit d ≡ true → list_all is_ascii_digit (xs ++ d ∷ []) ≡ true
all-join [] d h k = rw k refl
all-join (x ∷ xs) d h k = both (is_ascii_digit x) (list_all is_ascii_digit xs) (list_all is_ascii_digit (xs ++ d ∷ [])) h (λ g. all-join xs d g k) where
  both : (a b e : Bool) → (a && b) ≡ true → (b ≡ true → e ≡ true) → (a && e) ≡ true
  both true b e h f = f h
  both false b e h f = h

digit_is : (d : ℕ) → d < 10 → is_ascii_digit (48 + d) ≡ true
digit_is d h = grind (arith, nat_tests)

pub all-decimal : (n : ℕ) → n < 2 ^ 64 → list_all is_ascii_digit (decimal n) ≡ true
all-decimal n h =
    decimal_by_steps (λ n ds. list_all is_ascii_digit ds ≡ true) (λ n digit. all-join [] (48 + n) refl (digit_is n digit))
    (λ n ds big below. all-join ds (48 + n % 10) below (digit_is (n % 10) (omega arith))) n h

numeral-by : (ds : List ℕ) → 48 < get_or ds 0 0 → list_all is_ascii_digit ds ≡ true → is_numeral ds ≡ true
numeral-by [] h a = absurd (omega arith)
numeral-by (d ∷ ds) h a = let t : (d == 48) ≡ false = grind (arith, nat_tests) in rw (t, a) refl

no-zero : (ds : List ℕ) → 48 < get_or ds 0 0 → bytes_eq ds (codes "0") ≡ false
no-zero [] h = absurd (omega arith)
no-zero (d ∷ ds) h = let t : (d == 48) ≡ false = grind (arith, nat_tests) in rw t refl

pub above-decimal : (most n : ℕ) → 0 < n → n ≤ most → n < 2 ^ 64 → above_zero most (decimal n) ≡ Some n
unfolding above_zero
above-decimal most n p m h =
    let v = value-decimal n h in
    let t : nat_le n most ≡ true = grind (arith, nat_tests) in
    let a = numeral-by (decimal n) (first_decimal n p h) (all-decimal n h) in
    rw (a, v, t) refl

pub number-decimal : (most n : ℕ) → n ≤ most → n < 2 ^ 64 → number_up_to most (decimal n) ≡ Some n
number-decimal most zero m h = rw (decimal_digit 0 (omega arith)) refl
number-decimal most (suc n) m h = rw (no-zero (decimal (suc n)) (first_decimal (suc n) (omega arith) h)) (above-decimal most (suc n) (omega arith) m h)
