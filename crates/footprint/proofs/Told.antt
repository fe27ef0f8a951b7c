-- What a table says of the touches that it stands for.
use Rattle.std.specs.Prelude.{◌≡◌, ℕ, ◌<◌, ◌≤◌, ◌⊎◌, true, ◌&&◌, ◌||◌, nat_lt, nat_le, nat_eq, List, length, Option, Some, None, option_map, refl}
use Rattle.std.proofs.Common.{ap, sym, subst, inl, inr, arith}
use Rattle.std.proofs.lemmas.Bool.{cases_eq}
use Rattle.std.proofs.lemmas.Bool.Decides.{nat_tests}
use Rattle.meaning.specs.Logs.{Touch}
use Rattle.meaning.specs.Conflicts.{Clash, IsClash, no_later, Reports, conflict}
use Rattle.meaning.proofs.Once.{reports_one}
use Rattle.meaning.proofs.Reported.{reported}
use Rattle.touches.specs.Touching.{conflict_at}
use Rattle.footprint.specs.declared.iterations.IterationPair.{IterationPair}
use Rattle.footprint.specs.Known.{least_pair}
use Rattle.footprint.specs.Standing.{Table, known_there, found_at, IsLeastPlace, StandsFor}
use Rattle.footprint.proofs.Pairs.{LeastPair}
use Rattle.footprint.proofs.Reading.{clash, read_off}

further : (p i j q k l : ℕ) → p < q → (nat_lt p q || (nat_eq p q && (nat_lt i k || (nat_eq i k && nat_le j l)))) ≡ true
further p i j q k l h = grind (arith, nat_tests)

level : (p i j k l : ℕ) → (nat_lt i k || (nat_eq i k && nat_le j l)) ≡ true → (nat_lt p p || (nat_eq p p && (nat_lt i k || (nat_eq i k && nat_le j l)))) ≡ true
level p i j k l h = grind (arith, nat_tests)

at : (ts : List Touch) (c : Clash) (p : ℕ) → IsClash ts c → c.place ≡ p → IsClash ts (clash p c.first c.second)
at ts c p h e = let F : ℕ → Type 0 = λ r. IsClash ts (clash r c.first c.second) in subst F e h

reports : (ts : List Touch) (p : ℕ) (o : Option IterationPair) → LeastPair (λ i j. IsClash ts (clash p i j)) o → IsLeastPlace ts (Some p)
    → (q : IterationPair) × ((o ≡ Some q) × Reports ts (Some (clash p q.first q.second)))
reports ts p None f g = absurd (f g.0.0.first g.0.0.second (at ts g.0.0 p g.0.1.0 g.0.1.1))
reports ts p (Some q) f g = (q, (refl, (f.0, λ d h. by_cases d h (cases_eq d.place p))))
  where
    by_cases : (d : Clash) → IsClash ts d → (d.place ≡ p) ⊎ (d.place ≡ p → ⊥) → no_later (clash p q.first q.second) d ≡ true
    by_cases d h (inl e) =
        let F : ℕ → Type 0 = λ r. no_later (clash p q.first q.second) (clash r d.first d.second) ≡ true in
        subst F (sym e) (level p q.first q.second d.first d.second (f.1 d.first d.second (at ts d p h e)))
    by_cases d h (inr e) = let l : p ≤ d.place = g.1 d h in further p q.first q.second d.place d.first d.second (omega arith)

pub none_told : (t : Table) (line : ℕ) (ts : List Touch) → StandsFor t line ts → t.least ≡ None → None ≡ option_map (conflict_at line) (conflict ts)
none_told t line ts s e =
    let F : Option ℕ → Type 0 = IsLeastPlace ts in
    let f : IsLeastPlace ts None = subst F e s.least in
    ap (option_map (conflict_at line)) (reports_one ts None (conflict ts) f (reported ts))

pub some_told : (t : Table) (line : ℕ) (ts : List Touch) → StandsFor t line ts → (p : ℕ) → t.least ≡ Some p → found_at t p ≡ option_map (conflict_at line) (conflict ts)
some_told t line ts s p e =
    let F : Option ℕ → Type 0 = IsLeastPlace ts in
    let f : IsLeastPlace ts (Some p) = subst F e s.least in
    let within : p < length t.touchers = inside f in
    let r : (q : IterationPair) × ((least_pair (known_there t p) ≡ Some q) × Reports ts (Some (clash p q.first q.second))) =
    reports ts p (least_pair (known_there t p)) (read_off ts p (known_there t p) (s.known p within)) f in
    rw (r.1.0, s.of_line) (ap (option_map (conflict_at line)) (reports_one ts (Some (clash p r.0.first r.0.second)) (conflict ts) r.1.1 (reported ts)))
  where
    inside : IsLeastPlace ts (Some p) → p < length t.touchers
    inside f = let l : f.0.0.place < length t.touchers = s.inside _ f.0.1.0.has_one in let g : f.0.0.place ≡ p = f.0.1.1 in omega arith
