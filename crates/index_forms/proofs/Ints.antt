-- Products of integers.
use Rattle.std.proofs.Common.{◌≡◌, ℕ, zero, suc, ◌+◌, ◌-◌, ◌*◌, ℤ, pos, negsuc, ◌+ℤ◌, ◌*ℤ◌, ◌-ℤ◌, ◌≤ℤ◌, ◌<ℤ◌, neg_ℤ, unsigned_abs, ◌<◌, ◌≤◌, refl, ap, arith}
use Rattle.std.proofs.lemmas.Int.{ints, unsigned_abs-mul}
use Rattle.std.proofs.Math.Nat.{le-mul_of_pos_right, mul-le-mul_left, dvd-add, dvd-sub, dvd-mul_right}
use Prim.Native.Nat.{◌∣◌}
use Rattle.std.proofs.lemmas.Nat.Gcd.{dvd-zero, dvd_trans}
use borrow.Author.Differences.{up, down, product_is, neg_is}

sum-parts : (k m : ℤ) → up (k +ℤ m) + (down k + down m) ≡ down (k +ℤ m) + (up k + up m)
sum-parts k m = omega (arith, ints)

pub sum-times : (k m x : ℤ) → (k +ℤ m) *ℤ x ≡ (k *ℤ x) +ℤ (m *ℤ x)
sum-times k m x =
    let p = ap (λ (t : ℕ). t * up x) (sum-parts k m) in
    let q = ap (λ (t : ℕ). t * down x) (sum-parts k m) in
    omega (arith, ints, p, q)

pub times-sum : (k x y : ℤ) → k *ℤ (x +ℤ y) ≡ (k *ℤ x) +ℤ (k *ℤ y)
times-sum k x y =
    let p = ap (λ (t : ℕ). up k * t) (sum-parts x y) in
    let q = ap (λ (t : ℕ). down k * t) (sum-parts x y) in
    omega (arith, ints, p, q)

pub times-assoc : (k m x : ℤ) → (k *ℤ m) *ℤ x ≡ k *ℤ (m *ℤ x)
times-assoc k m x =
    let p = product_is k m in
    let q = product_is m x in
    let a = ap (λ (t : ℕ). t * up x) p.0 in
    let b = ap (λ (t : ℕ). t * down x) p.0 in
    let c = ap (λ (t : ℕ). t * up x) p.1 in
    let d = ap (λ (t : ℕ). t * down x) p.1 in
    let e = ap (λ (t : ℕ). up k * t) q.0 in
    let f = ap (λ (t : ℕ). down k * t) q.0 in
    let g = ap (λ (t : ℕ). up k * t) q.1 in
    let h = ap (λ (t : ℕ). down k * t) q.1 in
    omega (arith, ints, a, b, c, d, e, f, g, h)

-- a factor that isn't 0 and a difference that isn't 0 have a product at least as great as the factor
abs-zero : (z : ℤ) → unsigned_abs z ≡ 0 → z ≡ pos 0
abs-zero (pos n) e = ap pos e
abs-zero (negsuc n) e = absurd (omega arith)

positive : (n : ℕ) → ¬ (n ≡ 0) → 0 < n
positive zero h = absurd (h refl)
positive (suc n) h = omega arith

pub abs-positive : (z : ℤ) → ¬ (z ≡ pos 0) → 0 < unsigned_abs z
abs-positive z h = positive (unsigned_abs z) (λ e. h (abs-zero z e))

pub neg-times : (a y : ℤ) → neg_ℤ a *ℤ y ≡ a *ℤ neg_ℤ y
neg-times a y =
    let n = neg_is a in
    let m = neg_is y in
    let p = ap (λ (t : ℕ). t * up y) n.0 in
    let q = ap (λ (t : ℕ). t * down y) n.0 in
    let r = ap (λ (t : ℕ). t * up y) n.1 in
    let s = ap (λ (t : ℕ). t * down y) n.1 in
    let e = ap (λ (t : ℕ). up a * t) m.0 in
    let f = ap (λ (t : ℕ). down a * t) m.0 in
    let g = ap (λ (t : ℕ). up a * t) m.1 in
    let h = ap (λ (t : ℕ). down a * t) m.1 in
    omega (arith, ints, p, q, r, s, e, f, g, h)

pub apart : (a x y : ℤ) → ¬ (x ≡ y) → unsigned_abs a ≤ unsigned_abs ((a *ℤ x) +ℤ (neg_ℤ a *ℤ y))
apart a x y h =
    let d : ¬ ((x -ℤ y) ≡ pos 0) = (λ e. h (omega (arith, ints, e))) in
    let e : (a *ℤ x) +ℤ (neg_ℤ a *ℤ y) ≡ a *ℤ (x -ℤ y) = omega (arith, ints, times-sum a x (neg_ℤ y), neg-times a y) in
    let p : unsigned_abs a ≤ unsigned_abs a * unsigned_abs (x -ℤ y) = le-mul_of_pos_right (unsigned_abs a) (abs-positive (x -ℤ y) d) in
    let q : unsigned_abs (a *ℤ (x -ℤ y)) ≡ unsigned_abs a * unsigned_abs (x -ℤ y) = unsigned_abs-mul a (x -ℤ y) in
    rw (e, q) p

-- ---- divisors
pub abs-is : (z : ℤ) → unsigned_abs z ≡ (up z - down z) + (down z - up z)
abs-is (pos n) = omega arith
abs-is (negsuc n) = omega arith

dvd-up : (d : ℕ) (z : ℤ) → d ∣ unsigned_abs z → d ∣ up z
dvd-up d (pos n) p = p
dvd-up d (negsuc n) p = dvd-zero d

dvd-down : (d : ℕ) (z : ℤ) → d ∣ unsigned_abs z → d ∣ down z
dvd-down d (pos n) p = dvd-zero d
dvd-down d (negsuc n) p = p

pub abs-sum-dvd : (d : ℕ) (x y : ℤ) → d ∣ unsigned_abs x → d ∣ unsigned_abs y → d ∣ unsigned_abs (x +ℤ y)
abs-sum-dvd d x y p q =
    let m : d ∣ (up x + up y) = dvd-add d (dvd-up d x p) (dvd-up d y q) in
    let n : d ∣ (down x + down y) = dvd-add d (dvd-down d x p) (dvd-down d y q) in
    let e : unsigned_abs (x +ℤ y) ≡ ((up x + up y) - (down x + down y)) + ((down x + down y) - (up x + up y)) = omega (arith, ints, abs-is (x +ℤ y)) in
    rw e (dvd-add d (dvd-sub d m n) (dvd-sub d n m))

pub abs-product-dvd : (d : ℕ) (k x : ℤ) → d ∣ unsigned_abs k → d ∣ unsigned_abs (k *ℤ x)
abs-product-dvd d k x p = rw (unsigned_abs-mul k x) (dvd_trans d p (dvd-mul_right (unsigned_abs k) (unsigned_abs x)))

pub abs-opposite : (c t : ℤ) → c +ℤ t ≡ pos 0 → unsigned_abs c ≡ unsigned_abs t
abs-opposite c t e = omega (arith, ints, abs-is c, abs-is t)

-- ---- intervals
pub times-low : (k : ℕ) (x y : ℤ) → x ≤ℤ y → (pos k *ℤ x) ≤ℤ (pos k *ℤ y)
times-low k x y h = omega (arith, ints, mul-le-mul_left k (parts x y h)) where
  parts : (x y : ℤ) → x ≤ℤ y → up x + down y ≤ up y + down x
  parts x y h = omega (arith, ints)

pub times-high : (k : ℕ) (x y : ℤ) → x ≤ℤ y → (negsuc k *ℤ y) ≤ℤ (negsuc k *ℤ x)
times-high k x y h = omega (arith, ints, mul-le-mul_left (suc k) (parts x y h)) where
  parts : (x y : ℤ) → x ≤ℤ y → up x + down y ≤ up y + down x
  parts x y h = omega (arith, ints)

-- a number strictly between -n and n has a lesser absolute value
pub abs-between : (n : ℕ) (r : ℤ) → neg_ℤ (pos n) <ℤ r → r <ℤ pos n → unsigned_abs r < n
abs-between n r p q = omega (arith, ints, abs-is r)
