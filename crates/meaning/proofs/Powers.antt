-- The power of a dual, by one power of its value.
use Rattle.std.specs.Prelude.{◌≡◌, ℕ, zero, suc, ◌*◌, ◌-◌, ◌^◌, ◌%◌, ◌<◌}
use Rattle.std.proofs.Common.{ap, sym, ◌∙◌, arith}
use Rattle.std.proofs.Math.Nat.{pow-suc, pow-zero}
use Rattle.std.proofs.lemmas.Nat.{mul-mod_first}
use Rattle.ring_core.specs.Ring.{ring_add, ring_mul, ring_pow}
use Rattle.ring_core.proofs.Modular.{modular, modulo}
use Rattle.meaning.specs.declared.value.Dual.{Dual}
use Rattle.meaning.specs.Values.{dual_pow}

pub value_of_pow : (a : Dual) (n : ℕ) → (dual_pow a n).value ≡ ring_pow a.value n
value_of_pow a zero = ap (λ (m : ℕ). m % 2 ^ 64) (sym (pow-zero a.value))
value_of_pow a (suc n) =
    ap (λ (m : ℕ). ring_mul m a.value) (value_of_pow a n) ∙ (mul-mod_first (a.value ^ n) a.value (2 ^ 64) ∙ ap (λ (m : ℕ). m % 2 ^ 64) (sym (pow-suc a.value n)))

first_step : (v t x : ℕ) → x ≡ 1 → ring_add (ring_mul 1 t) (ring_mul 0 v) ≡ ring_mul (ring_mul 1 (x % 2 ^ 64)) t
first_step v t x e = rw e (simp modular (modulo (omega arith)))

step : (p q v t x n : ℕ) → p ≡ (x * v) % 2 ^ 64 → q ≡ ring_mul (ring_mul (suc n) (x % 2 ^ 64)) t
    → ring_add (ring_mul p t) (ring_mul q v) ≡ ring_mul (ring_mul (suc (suc n)) ((x * v) % 2 ^ 64)) t
step p q v t x n e f = rw (e, f) (simp modular (modulo (omega arith)))

tangent_of_pow : (a : Dual) (n : ℕ) → (dual_pow a (suc n)).tangent ≡ ring_mul (ring_mul (suc n) (ring_pow a.value n)) a.tangent
tangent_of_pow a zero = first_step a.value a.tangent (a.value ^ 0) (pow-zero a.value)
tangent_of_pow a (suc n) =
    step (dual_pow a (suc n)).value (dual_pow a (suc n)).tangent a.value a.tangent (a.value ^ n) n
    (value_of_pow a (suc n) ∙ ap (λ (m : ℕ). m % 2 ^ 64) (pow-suc a.value n)) (tangent_of_pow a n)
    ∙ ap (λ (m : ℕ). ring_mul (ring_mul (suc (suc n)) (m % 2 ^ 64)) a.tangent) (sym (pow-suc a.value n))

of_parts : (a : Dual) (v t : ℕ) → a.value ≡ v → a.tangent ≡ t → a ≡ record { value = v; tangent = t }
of_parts a v t e f = ap (λ (m : ℕ). record { value = m; tangent = a.tangent }) e ∙ ap (λ (m : ℕ). record { value = v; tangent = m }) f

pub power_of_none : (a : Dual) (n : ℕ) → n ≡ 0 → dual_pow a n ≡ record { value = 1; tangent = 0 }
power_of_none a n e = ap (λ (m : ℕ). dual_pow a m) e

pub power_of_more : (a : Dual) (n : ℕ) → dual_pow a (suc n) ≡ record { value = ring_pow a.value (suc n); tangent = ring_mul (ring_mul (suc n) (ring_pow a.value n)) a.tangent }
power_of_more a n = of_parts (dual_pow a (suc n)) _ _ (value_of_pow a (suc n)) (tangent_of_pow a n)

pub power_of_some : (a : Dual) (n : ℕ) → 0 < n → dual_pow a n ≡ record { value = ring_pow a.value n; tangent = ring_mul (ring_mul n (ring_pow a.value (n - 1))) a.tangent }
power_of_some a zero h = absurd (omega arith)
power_of_some a (suc n) h =
    let e : suc n - 1 ≡ n = omega arith in
    power_of_more a n ∙ ap (λ (m : ℕ). record { value = ring_pow a.value (suc n); tangent = ring_mul (ring_mul (suc n) (ring_pow a.value m)) a.tangent }) (sym e)

pub ruleset powers = (power_of_none, power_of_some)
