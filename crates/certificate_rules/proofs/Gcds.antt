-- Common divisors of coefficients.
use Rattle.std.proofs.Common.{◌≡◌, ℕ, zero, suc, ◌<◌, ◌%◌, unsigned_abs, Bool, true, false, not, if◌then◌else◌, nat_eq, refl, sym, subst, arith}
use Rattle.std.specs.Int.{IsGcd}
use Prim.Native.Nat.{◌∣◌}
use Rattle.std.proofs.lemmas.Bool.Decides.{nat_tests}
use Rattle.std.proofs.lemmas.Nat.Gcd.{dvd-zero, dvd_trans, dvd_antisymm, dvd_of_mod-eq-zero, mod-eq-zero_of_dvd, IsGcd-from_mod, IsGcd-from_zero}
use Rattle.std.proofs.Math.Nat.{eq-zero_of_zero-dvd}
use Rattle.index_forms.specs.Form.{Form, form, Terms, no_terms, term}
use Rattle.certificate_rules.specs.Accepted.{DividesAll, IsGcdOf, HasResidue}
use Rattle.certificate_rules.specs.Tests.{gcd_in, gcd, common_divisor, divides, has_residue}

less-left : (a b : ℕ) → ¬ (b ≡ 0) → a % b < b
less-left a b h = omega arith

gcd-step : (n a b : ℕ) (t : Bool) → nat_eq b 0 ≡ t → (¬ (b ≡ 0) → IsGcd b (a % b) (gcd_in n b (a % b))) → IsGcd a b (if t then a else gcd_in n b (a % b))
gcd-step n a b true e h = IsGcd-from_zero a b (grind (arith, nat_tests))
gcd-step n a b false e h = IsGcd-from_mod a b (gcd_in n b (a % b)) (h (λ p. absurd (grind (arith, nat_tests))))

gcd-in : (n a b : ℕ) → b < n → IsGcd a b (gcd_in n a b)
gcd-in zero a b h = absurd (omega arith)
gcd-in (suc n) a b h = gcd-step n a b (nat_eq b 0) refl (λ p. gcd-in n b (a % b) (let q = less-left a b p in omega arith))

pub gcd-is : (a b : ℕ) → IsGcd a b (gcd a b)
gcd-is a b = gcd-in (suc b) a b (omega arith)

divides-trans : (d g : ℕ) (ts : Terms) → d ∣ g → DividesAll g ts → DividesAll d ts
divides-trans d g no_terms p h = tt
divides-trans d g (term a k ts) p h = (dvd_trans d p h.0, divides-trans d g ts p h.1)

pub common-is : (ts : Terms) → IsGcdOf (common_divisor ts) ts
common-is no_terms = (tt, λ d h. dvd-zero d)
common-is (term a k ts) =
    let w = gcd-is (unsigned_abs k) (common_divisor ts) in
    let h = common-is ts in
    ((w.0, divides-trans (gcd (unsigned_abs k) (common_divisor ts)) (common_divisor ts) ts w.1 h.0), λ d e. w.2 d e.0 (h.1 d e.1))

same-gcd : (ts : Terms) (g r : ℕ) → IsGcdOf g ts → IsGcdOf r ts → g ≡ r
same-gcd ts g r h w = dvd_antisymm (w.1 g h.0) (h.1 r w.0)

by-zero-to : (g n : ℕ) (t : Bool) → nat_eq g 0 ≡ t → (if t then nat_eq n 0 else nat_eq (n % g) 0) ≡ true → g ∣ n
by-zero-to g n true e h = let z : n ≡ 0 = grind (arith, nat_tests) in subst (λ (y : ℕ). g ∣ y) (sym z) (dvd-zero g)
by-zero-to g n false e h = dvd_of_mod-eq-zero g (grind (arith, nat_tests))

divides-to : (g n : ℕ) → divides g n ≡ true → g ∣ n
divides-to g n h = by-zero-to g n (nat_eq g 0) refl h

by-zero-from : (g n : ℕ) (t : Bool) → nat_eq g 0 ≡ t → g ∣ n → (if t then nat_eq n 0 else nat_eq (n % g) 0) ≡ true
by-zero-from g n true e h =
    let p : g ≡ 0 = grind (arith, nat_tests) in
    let z : n ≡ 0 = eq-zero_of_zero-dvd (subst (λ (y : ℕ). y ∣ n) p h) in grind (arith, nat_tests, z)
by-zero-from g n false e h = let z = mod-eq-zero_of_dvd g h in grind (arith, nat_tests, z)

divides-from : (g n : ℕ) → g ∣ n → divides g n ≡ true
divides-from g n h = by-zero-from g n (nat_eq g 0) refl h

not-divided : (g n : ℕ) (t : Bool) → divides g n ≡ t → not t ≡ true → ¬ (g ∣ n)
not-divided g n true e h d = cc
not-divided g n false e h d = let p = divides-from g n d in cc

undivided : (g n : ℕ) (t : Bool) → divides g n ≡ t → ¬ (g ∣ n) → not t ≡ true
undivided g n true e h = absurd (h (divides-to g n e))
undivided g n false e h = refl

pub residue-to : (f : Form) → has_residue f ≡ true → HasResidue f
residue-to (form c ts) e = (common_divisor ts, common-is ts, not-divided (common_divisor ts) (unsigned_abs c) (divides (common_divisor ts) (unsigned_abs c)) refl e)

pub residue-from : (f : Form) → HasResidue f → has_residue f ≡ true
residue-from (form c ts) h =
    undivided (common_divisor ts) (unsigned_abs c) (divides (common_divisor ts) (unsigned_abs c)) refl
    (λ d. h.2 (subst (λ (z : ℕ). z ∣ unsigned_abs c) (same-gcd ts (common_divisor ts) h.0 (common-is ts) h.1) d))
