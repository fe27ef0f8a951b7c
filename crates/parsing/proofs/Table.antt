-- A look-up in a table, an entry at a time.
use Rattle.std.proofs.Common.{◌≡◌, ℕ, ◌+◌, ◌<◌, List, Bool, true, false, bytes_eq, cond, drop, get_or, length, refl, sym, ap, ◌∙◌, Bor, add-one, IsTrue}
use Rattle.std.proofs.Math.Seq.{drop-cons}
use Rattle.std.proofs.lemmas.Slice.Eq.{bytes_eq-Decides}
use Rattle.std.specs.Str.{str_to_ascii_lowercase}
use Rattle.parsing.specs.declared.symbol.Symbol.{Symbol}
use Rattle.parsing.specs.Symbol.{entries, look_up}

pub same_bytes : (a b : List ℕ) → a ≡ b → bytes_eq a b ≡ true
same_bytes a b e = (bytes_eq-Decides a b).1 e

no_bytes : (a b : List ℕ) → (a ≡ b → ⊥) → bytes_eq a b ≡ false
no_bytes a b n = by (bytes_eq a b) refl
  where
    by : (r : Bool) → bytes_eq a b ≡ r → bytes_eq a b ≡ false
    by true e = absurd (n ((bytes_eq-Decides a b).0 e))
    by false e = e

look_up_drop : (table : List (Bor (List ℕ) × Symbol)) (i : ℕ) (d : Bor (List ℕ) × Symbol) (bytes : List ℕ) (otherwise : Symbol) → i < length table →
    look_up (entries (drop i table)) bytes otherwise
    ≡ cond (bytes_eq bytes (str_to_ascii_lowercase (get_or table i d).0.now)) (get_or table i d).1 (look_up (entries (drop (i + 1) table)) bytes otherwise)
look_up_drop table i d bytes otherwise h = rw (add-one, drop-cons table i d)

pub hit : (table : List (Bor (List ℕ) × Symbol)) (i : ℕ) (d : Bor (List ℕ) × Symbol) (bytes : List ℕ) (otherwise : Symbol) → i < length table →
    bytes ≡ str_to_ascii_lowercase (get_or table i d).0.now → look_up (entries (drop i table)) bytes otherwise ≡ (get_or table i d).1
hit table i d bytes otherwise h e =
    look_up_drop table i d bytes otherwise h ∙ ap (λ b. cond b (get_or table i d).1 (look_up (entries (drop (i + 1) table)) bytes otherwise)) (same_bytes _ _ e)

pub miss : (table : List (Bor (List ℕ) × Symbol)) (i : ℕ) (d : Bor (List ℕ) × Symbol) (bytes : List ℕ) (otherwise : Symbol) → i < length table →
    (bytes ≡ str_to_ascii_lowercase (get_or table i d).0.now → ⊥) → look_up (entries (drop i table)) bytes otherwise ≡ look_up (entries (drop (i + 1) table)) bytes otherwise
miss table i d bytes otherwise h n =
    look_up_drop table i d bytes otherwise h ∙ ap (λ b. cond b (get_or table i d).1 (look_up (entries (drop (i + 1) table)) bytes otherwise)) (no_bytes _ _ n)

-- a test that says whether two texts are equal
pub test_is : (r : Bool) (a b : List ℕ) → (IsTrue r → a ≡ b) → (a ≡ b → IsTrue r) → r ≡ bytes_eq a b
test_is true a b to from = sym (same_bytes a b (to refl))
test_is false a b to from = sym (no_bytes a b (λ e. let no = from e in cc))
