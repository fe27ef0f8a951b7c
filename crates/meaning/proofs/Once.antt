-- What is reported of touches is one thing.
use Rattle.std.specs.Prelude.{◌≡◌, ℕ, true, ◌&&◌, ◌||◌, nat_lt, nat_le, nat_eq, List, Option, Some, None, refl}
use Rattle.std.proofs.Common.{ap, arith}
use Rattle.std.proofs.lemmas.Bool.Decides.{nat_tests}
use Rattle.meaning.specs.Logs.{Touch}
use Rattle.meaning.specs.Conflicts.{Clash, no_later, Reports}
use Rattle.meaning.specs.Laws.{ReportsAreOne}

places : (p i j q k l : ℕ) → (nat_lt p q || (nat_eq p q && (nat_lt i k || (nat_eq i k && nat_le j l)))) ≡ true
    → (nat_lt q p || (nat_eq q p && (nat_lt k i || (nat_eq k i && nat_le l j)))) ≡ true → p ≡ q
places p i j q k l h g = grind (arith, nat_tests)

firsts : (p i j q k l : ℕ) → (nat_lt p q || (nat_eq p q && (nat_lt i k || (nat_eq i k && nat_le j l)))) ≡ true
    → (nat_lt q p || (nat_eq q p && (nat_lt k i || (nat_eq k i && nat_le l j)))) ≡ true → i ≡ k
firsts p i j q k l h g = grind (arith, nat_tests)

seconds : (p i j q k l : ℕ) → (nat_lt p q || (nat_eq p q && (nat_lt i k || (nat_eq i k && nat_le j l)))) ≡ true
    → (nat_lt q p || (nat_eq q p && (nat_lt k i || (nat_eq k i && nat_le l j)))) ≡ true → j ≡ l
seconds p i j q k l h g = grind (arith, nat_tests)

same_clash : (c d : Clash) → no_later c d ≡ true → no_later d c ≡ true → c ≡ d
same_clash c d h g =
    rw (places c.place c.first c.second d.place d.first d.second h g, firsts c.place c.first c.second d.place d.first d.second h g, seconds c.place c.first c.second d.place d.first d.second h g) refl

one : (ts : List Touch) (o p : Option Clash) → Reports ts o → Reports ts p → o ≡ p
one ts None None h g = refl
one ts None (Some d) h g = absurd (h d g.0)
one ts (Some c) None h g = absurd (g c h.0)
one ts (Some c) (Some d) h g = ap Some (same_clash c d (h.1 d g.0) (g.1 c h.0))

pub reports_one : ReportsAreOne
reports_one = one
