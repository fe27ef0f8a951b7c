-- Numbers of iterations.
use Rattle.std.specs.Prelude.{◌≡◌, ℕ, zero, suc, ◌+◌, ◌<◌, ◌*◌, ◌/◌, min, List, [], ◌∷◌, ◌++◌, length, take, get_or, refl}
use Rattle.std.proofs.Common.{arith, ap, ◌∙◌}
use Rattle.std.proofs.lemmas.Bool.Decides.{nat_tests}
use Rattle.std.proofs.Math.Nat.{div-lt_iff_lt-mul}
use Rattle.sweep_law.specs.Telling.{Standing}
use Rattle.sweep_steps.specs.declared.step.PrivateScalar.{PrivateScalar}
use Rattle.forward_state.specs.Steps.{unset_at, scalar_pushed}
use Rattle.forward_sweep.specs.Machine.{capped, unset_all, privates_run}

pub capped_min : (n : ℕ) → min n 18446744073709551615 ≡ capped n
capped_min n = grind (arith, nat_tests)

pub below_capped : (k n : ℕ) → k < capped n → k < n
below_capped k n h = grind (arith, nat_tests)

some_room : (k a b : ℕ) → k < a * b → 0 < b
some_room k a zero h = absurd (omega arith)
some_room k a (suc b) h = omega arith

-- a row of so many columns
pub has_columns : (k a b : ℕ) → k < capped (a * b) → 0 < b
has_columns k a b h = some_room k a b (below_capped k (a * b) h)

pub in_rows : (k a b : ℕ) → k < capped (a * b) → k / b < a
in_rows k a b h = (div-lt_iff_lt-mul {k = b} {x = k} {y = a} (has_columns k a b h)).1 (below_capped k (a * b) h)

pub ruleset counts = (capped_min)

pub ruleset rows = (has_columns, in_rows)

-- ---- private scalars, one more

taken_suc : {A : Type 0} (xs : List A) (i : ℕ) (d : A) → i < length xs → take (suc i) xs ≡ take i xs ++ get_or xs i d ∷ []
taken_suc [] i d l = absurd (omega (arith, l))
taken_suc (x ∷ xs) zero d l = refl
taken_suc (x ∷ xs) (suc i) d l = ap (λ ys. x ∷ ys) (taken_suc xs i d (omega (arith, l)))

taken_or : {A : Type 0} (xs : List A) (i : ℕ) (d : A) → i < length xs → take (i + 1) xs ≡ take i xs ++ get_or xs i d ∷ []
taken_or {A = A} xs i d l =
    let n : i + 1 ≡ suc i = omega arith in
    ap (λ (m : ℕ). take m xs) n ∙ taken_suc {A = A} xs i d l

unset_last : (xs : List PrivateScalar) (q : PrivateScalar) (s : Standing) → unset_all (xs ++ q ∷ []) s ≡ unset_at q.place (unset_all xs s)
unset_last [] q s = refl
unset_last (x ∷ xs) q s = unset_last xs q (unset_at x.place s)

pub unset_more : (xs : List PrivateScalar) (i : ℕ) (d : PrivateScalar) (s : Standing) → i < length xs → unset_all (take (i + 1) xs) s ≡ unset_at (get_or xs i d).place (unset_all (take i xs) s)
unset_more xs i d s l = ap (λ ys. unset_all ys s) (taken_or xs i d l) ∙ unset_last (take i xs) (get_or xs i d) s

pushed_last : (xs : List PrivateScalar) (q : PrivateScalar) (s : Standing) → privates_run (xs ++ q ∷ []) s ≡ scalar_pushed q.pushes q.place (privates_run xs s)
pushed_last [] q s = refl
pushed_last (x ∷ xs) q s = pushed_last xs q (scalar_pushed x.pushes x.place s)

pub pushed_more : (xs : List PrivateScalar) (i : ℕ) (d : PrivateScalar) (s : Standing) → i < length xs
    → privates_run (take (i + 1) xs) s ≡ scalar_pushed (get_or xs i d).pushes (get_or xs i d).place (privates_run (take i xs) s)
pushed_more xs i d s l = ap (λ ys. privates_run ys s) (taken_or xs i d l) ∙ pushed_last (take i xs) (get_or xs i d) s
