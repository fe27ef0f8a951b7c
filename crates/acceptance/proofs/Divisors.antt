-- Common divisors of coefficients.
use Rattle.std.proofs.Common.{◌≡◌, ℕ, zero, suc, ◌<◌, ◌%◌, ◌↔◌, ℤ, unsigned_abs, List, [], ◌∷◌, map, drop, length, get_or, Bool, true, false, not, eqb, IsTrue, rules, refl, sym, subst, arith}
use Rattle.std.specs.Int.{IsGcd}
use Prim.Native.Nat.{◌∣◌}
use Rattle.std.proofs.lemmas.Bool.Decides.{nat_tests}
use Rattle.std.proofs.lemmas.Nat.Gcd.{dvd-zero, dvd_trans, dvd_antisymm, dvd_of_mod-eq-zero, mod-eq-zero_of_dvd}
use Rattle.std.proofs.Math.Nat.{eq-zero_of_zero-dvd}
use Rattle.index_forms.specs.declared.form.Atom as program
use Rattle.index_forms.specs.Form.{Atom, form, Terms, no_terms, term}
use Rattle.index_forms.specs.Seen.{terms_of, term_tree}
use Rattle.certificate_rules.specs.Accepted.{DividesAll, IsGcdOf, HasResidue}

divides-trans : (d g : ℕ) (ts : Terms) → d ∣ g → DividesAll g ts → DividesAll d ts
divides-trans d g no_terms p h = tt
divides-trans d g (term a k ts) p h = (dvd_trans d p h.0, divides-trans d g ts p h.1)

pub gcd-none : IsGcdOf 0 no_terms
gcd-none = (tt, λ d h. dvd-zero d)

pub gcd-more : (a : Atom) (k : ℤ) (ts : Terms) (g r : ℕ) → IsGcdOf g ts → IsGcd (unsigned_abs k) g r → IsGcdOf r (term a k ts)
gcd-more a k ts g r h w = ((w.0, divides-trans r g ts w.1 h.0), λ d e. w.2 d e.0 (h.1 d e.1))

abbrev L : Type 0
L = List (program.Atom × ℤ)

-- the coefficients from the i-th on
pub gcd-at : (xs : L) (i : ℕ) (x : program.Atom × ℤ) (g r : ℕ) → i < length xs → get_or xs i x ≡ x → IsGcdOf g (terms_of (map term_tree (drop (suc i) xs))) → IsGcd (unsigned_abs x.1) g r → IsGcdOf r (terms_of (map term_tree (drop i xs)))
gcd-at [] i x g r h e w u = absurd (omega arith)
gcd-at (y ∷ xs) zero x g r h e w u =
    let P : (program.Atom × ℤ) → Type 0 = λ z. IsGcd (unsigned_abs z.1) g r in
    gcd-more (term_tree y).0 y.1 (terms_of (map term_tree xs)) g r w (subst P (sym e) u)
gcd-at (y ∷ xs) (suc i) x g r h e w u = gcd-at xs i x g r (omega arith) e w u

pub same-gcd : (ts : Terms) (g r : ℕ) → IsGcdOf g ts → IsGcdOf r ts → g ≡ r
same-gcd ts g r h w = dvd_antisymm (w.1 g h.0) (h.1 r w.0)

-- the test
pub residue-from : (c : ℤ) (ts : Terms) (g : ℕ) → IsGcdOf g ts → HasResidue (form c ts) → ¬ (g ∣ unsigned_abs c)
residue-from c ts g h w d = w.2 (subst (λ (z : ℕ). z ∣ unsigned_abs c) (same-gcd ts g w.0 h w.1) d)

pub not-divided : (g n : ℕ) → ¬ (n % g ≡ 0) → ¬ (g ∣ n)
not-divided g n h d = h (mod-eq-zero_of_dvd g d)

both-ways : (c : ℤ) (ts : Terms) (g : ℕ) (b : Bool) → IsGcdOf g ts → (b ≡ true → g ∣ unsigned_abs c) → (b ≡ false → ¬ (g ∣ unsigned_abs c)) → IsTrue (not b) ↔ HasResidue (form c ts)
both-ways c ts g true h y n = (λ t. absurd (search rules), λ w. absurd (residue-from c ts g h w (y refl)))
both-ways c ts g false h y n = (λ t. (g, h, n refl), λ w. search rules)

pub residue-test : (c : ℤ) (ts : Terms) (g : ℕ) → IsGcdOf g ts → IsTrue (not (eqb (unsigned_abs c % g) 0)) ↔ HasResidue (form c ts)
residue-test c ts g h = both-ways c ts g (eqb (unsigned_abs c % g) 0) h (λ e. dvd_of_mod-eq-zero g (grind (arith, nat_tests))) (λ e d. (let z = mod-eq-zero_of_dvd g d in absurd (grind (arith, nat_tests, z, e))))

pub residue-zero : (c : ℤ) (ts : Terms) (g : ℕ) → g ≡ 0 → IsGcdOf g ts → IsTrue (not (eqb (unsigned_abs c) 0)) ↔ HasResidue (form c ts)
residue-zero c ts g n h = both-ways c ts g (eqb (unsigned_abs c) 0) h
    (λ e. (let z : unsigned_abs c ≡ 0 = grind (arith, nat_tests) in rw z (dvd-zero g)))
    (λ e d. (let P : ℕ → Type 0 = (λ (y : ℕ). y ∣ unsigned_abs c) in let z : unsigned_abs c ≡ 0 = eq-zero_of_zero-dvd (subst P n d) in absurd (grind (arith, nat_tests, z, e))))
