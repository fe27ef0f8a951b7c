-- The column-major position, from the last subscript on.
use Rattle.std.proofs.Common.{◌≡◌, ◌≢◌, ℕ, zero, suc, ◌+◌, ◌*◌, ◌<◌, ◌≤◌, ◌^◌, Bool, true, false, cond, List, [], ◌∷◌, length, drop, get_or, ℤ, pos, negsuc, ◌-ℤ◌, nat_lt, Option, Some, None, refl, sym, ap, ◌∙◌, subst, arith}
use Rattle.std.proofs.lemmas.Nat.{mul-le}
use Rattle.std.proofs.Math.Nat.{mul-le-mul_left}
use Rattle.store_core.specs.declared.bound.Axis.{Axis}
use Rattle.store_core.specs.Keys.{size_of, within, step_of, with_step, offset_of}

-- what the loop knows of the subscripts from i on
pub record Reached (axes : List Axis) (ss : List ℤ) (i offset : ℕ) : Type 0 where
  pub inside : i ≤ length axes
  pub reached : Some offset ≡ offset_of (drop i axes) (drop i ss)
  pub below : offset < size_of (drop i axes)

none_with : (n : ℕ) (o : Option ℕ) → with_step n o None ≡ None
none_with n None = refl
none_with n (Some k) = refl

pub unequal : (axes : List Axis) (ss : List ℤ) → length axes ≢ length ss → offset_of axes ss ≡ None
unequal [] [] h = absurd (h refl)
unequal [] (s ∷ ss) h = refl
unequal (a ∷ axes) [] h = refl
unequal (a ∷ axes) (s ∷ ss) h = rw (unequal axes ss (λ e. h (ap suc e))) (none_with a.extent (step_of a s))

-- one subscript more
pub offset_more : (axes : List Axis) (ss : List ℤ) (i : ℕ) (d : Axis) → i < length axes → length axes ≡ length ss
    → offset_of (drop i axes) (drop i ss) ≡ with_step (get_or axes i d).extent (step_of (get_or axes i d) (get_or ss i (pos 0))) (offset_of (drop (suc i) axes) (drop (suc i) ss))
offset_more [] ss i d h e = absurd (omega arith)
offset_more (a ∷ axes) [] i d h e = absurd (omega arith)
offset_more (a ∷ axes) (s ∷ ss) zero d h e = refl
offset_more (a ∷ axes) (s ∷ ss) (suc i) d h e = offset_more axes ss i d (omega arith) (omega arith)

pub size_more : (axes : List Axis) (i : ℕ) (d : Axis) → i < length axes → size_of (drop i axes) ≡ (get_or axes i d).extent * size_of (drop (suc i) axes)
size_more [] i d h = absurd (omega arith)
size_more (a ∷ axes) zero d h = refl
size_more (a ∷ axes) (suc i) d h = size_more axes i d (omega arith)

-- a subscript outside its bounds
pub none_after : (axes : List Axis) (ss : List ℤ) (i : ℕ) → length axes ≡ length ss → offset_of (drop i axes) (drop i ss) ≡ None → offset_of axes ss ≡ None
none_after axes ss zero e h = h
none_after [] [] (suc i) e h = h
none_after [] (s ∷ ss) (suc i) e h = refl
none_after (a ∷ axes) [] (suc i) e h = refl
none_after (a ∷ axes) (s ∷ ss) (suc i) e h = rw (none_after axes ss i (omega arith) h) (none_with a.extent (step_of a s))

positive_parts : (a b : ℕ) → 0 < a * b → (0 < a) × (0 < b)
positive_parts zero b h = absurd (omega arith)
positive_parts (suc a) zero h = absurd (omega arith)
positive_parts (suc a) (suc b) h = (omega arith, omega arith)

-- each part of an array with elements has elements, and no more than the array
pub size_part : (axes : List Axis) (i : ℕ) → 0 < size_of axes → (0 < size_of (drop i axes)) × (size_of (drop i axes) ≤ size_of axes)
size_part axes zero h = (h, omega arith)
size_part [] (suc i) h = (h, omega arith)
size_part (a ∷ axes) (suc i) h =
    let p : (0 < a.extent) × (0 < size_of axes) = positive_parts a.extent (size_of axes) h in
    let q : (0 < size_of (drop i axes)) × (size_of (drop i axes) ≤ size_of axes) = size_part axes i p.1 in
    let m : 1 * size_of axes ≤ a.extent * size_of axes = grind (arith, mul-le) in
    (q.0, omega arith)

tested : (m n k : ℕ) (b : Bool) → nat_lt m n ≡ b → Some k ≡ cond b (Some m) None → k < n
tested m n k true t e = let f : k ≡ m = cc in let g : m < n = grind arith in omega arith
tested m n k false t e = absurd (let f : Some k ≡ None = e in cc)

below_extent : (n : ℕ) (d : ℤ) (k : ℕ) → Some k ≡ within n d → k < n
below_extent n (pos m) k e = tested m n k (nat_lt m n) refl e
below_extent n (negsuc m) k e = absurd (let f : Some k ≡ None = e in cc)

-- the bounds of one step
pub record Fitting (axes : List Axis) (i offset : ℕ) (a : Axis) : Type 0 where
  pub extent : a.extent ≤ 2 ^ 21
  pub times : a.extent * offset + a.extent ≤ 2 ^ 21
  pub inside : a.extent * offset + a.extent ≤ size_of (drop i axes)

pub fitting : (axes : List Axis) (ss : List ℤ) (i j offset : ℕ) (d : Axis) → suc j ≡ i → Reached axes ss i offset → 0 < size_of axes → size_of axes ≤ 2 ^ 21 → Fitting axes j offset (get_or axes j d)
fitting axes ss i j offset d e h some room =
    let lt : j < length axes = omega (arith, h.inside) in
    let at_i : size_of (drop (suc j) axes) ≡ size_of (drop i axes) = ap (λ k. size_of (drop k axes)) e in
    let more : size_of (drop j axes) ≡ (get_or axes j d).extent * size_of (drop (suc j) axes) = size_more axes j d lt in
    let part : (0 < size_of (drop j axes)) × (size_of (drop j axes) ≤ size_of axes) = size_part axes j some in
    let m : (get_or axes j d).extent * (offset + 1) ≤ (get_or axes j d).extent * size_of (drop (suc j) axes) = let below : offset + 1 ≤ size_of (drop (suc j) axes) = omega (arith, h.below) in mul-le-mul_left (get_or axes j d).extent below in
    let all : (get_or axes j d).extent * offset + (get_or axes j d).extent ≤ size_of (drop j axes) = omega arith in
    record { extent = omega arith; times = omega arith; inside = omega arith }

pub step_below : (a : Axis) (s : ℤ) (k : ℕ) → Some k ≡ step_of a s → k < a.extent
step_below a s k e = below_extent a.extent (s -ℤ a.lower) k e

-- the next subscript to the front is within its bounds
pub reached_more : (axes : List Axis) (ss : List ℤ) (i j offset k : ℕ) (d : Axis) → suc j ≡ i → Reached axes ss i offset → length axes ≡ length ss → 0 < size_of axes → size_of axes ≤ 2 ^ 21
    → Some k ≡ step_of (get_or axes j d) (get_or ss j (pos 0)) → Reached axes ss j (k + (get_or axes j d).extent * offset)
reached_more axes ss i j offset k d e h same some room is =
    let lt : j < length axes = omega (arith, h.inside) in
    let f = fitting axes ss i j offset d e h some room in
    let b : k < (get_or axes j d).extent = step_below (get_or axes j d) (get_or ss j (pos 0)) k is in
    let rest : Some offset ≡ offset_of (drop (suc j) axes) (drop (suc j) ss) = subst (λ q. Some offset ≡ offset_of (drop q axes) (drop q ss)) (sym e) h.reached in
    record {
      inside = omega arith;
      reached = sym (offset_more axes ss j d lt same ∙ rw (← is, ← rest) refl);
      below = omega (arith, f.inside);
    }

-- it is not
pub none_more : (axes : List Axis) (ss : List ℤ) (i j offset : ℕ) (d : Axis) → suc j ≡ i → Reached axes ss i offset → length axes ≡ length ss
    → None ≡ step_of (get_or axes j d) (get_or ss j (pos 0)) → None ≡ offset_of axes ss
none_more axes ss i j offset d e h same is =
    let lt : j < length axes = omega (arith, h.inside) in
    sym (none_after axes ss j same (offset_more axes ss j d lt same ∙ rw (← is) refl))
