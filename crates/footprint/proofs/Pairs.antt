-- The least pair of iterations of which something holds.
use Rattle.std.specs.Prelude.{◌≡◌, ℕ, ◌<◌, ◌≤◌, ◌⊎◌, Bool, true, false, ◌&&◌, ◌||◌, if◌then◌else◌, nat_lt, nat_le, nat_eq, Option, Some, None, option_map, refl}
use Rattle.std.proofs.Common.{inl, inr, arith}
use Rattle.std.proofs.lemmas.Bool.{ltb-true, ltb-false}
use Rattle.std.proofs.lemmas.Bool.Decides.{nat_tests}
use Rattle.footprint.specs.declared.iterations.Iterations.{Iterations}
use Rattle.footprint.specs.declared.iterations.Iterations.TheVariants.{Nobody, One, More}
use Rattle.footprint.specs.declared.iterations.IterationPair.{IterationPair}
use Rattle.footprint.specs.Known.{AreLeast, lesser, pair, within, crossing, is_before, lesser_pair}

abbrev pub LeastPair : (ℕ → ℕ → Type 0) → Option IterationPair → Type 0
LeastPair Q None = (i j : ℕ) → Q i j → ⊥
LeastPair Q (Some p) = Q p.first p.second × ((i j : ℕ) → Q i j → is_before p (pair i j) ≡ true)

earlier : (i j k l : ℕ) → i < k → (nat_lt i k || (nat_eq i k && nat_le j l)) ≡ true
earlier i j k l h = grind (arith, nat_tests)

no_later : (i j k l : ℕ) → i ≤ k → j ≤ l → (nat_lt i k || (nat_eq i k && nat_le j l)) ≡ true
no_later i j k l h g = grind (arith, nat_tests)

either : (i j k l : ℕ) → (nat_lt i k || (nat_eq i k && nat_le j l)) ≡ false → (nat_lt k i || (nat_eq k i && nat_le l j)) ≡ true
either i j k l h = grind (arith, nat_tests)

both : (i j k l m n : ℕ) → (nat_lt i k || (nat_eq i k && nat_le j l)) ≡ true → (nat_lt k m || (nat_eq k m && nat_le l n)) ≡ true
    → (nat_lt i m || (nat_eq i m && nat_le j n)) ≡ true
both i j k l m n h g = grind (arith, nat_tests)

pub change : (Q R : ℕ → ℕ → Type 0) → ((i j : ℕ) → Q i j → R i j) → ((i j : ℕ) → R i j → Q i j) → (o : Option IterationPair) → LeastPair Q o → LeastPair R o
change Q R to from None f = λ i j r. f i j (from i j r)
change Q R to from (Some p) f = (to p.first p.second f.0, λ i j r. f.1 i j (from i j r))

pub lesser_is : (Q R : ℕ → ℕ → Type 0) (a b : Option IterationPair) → LeastPair Q a → LeastPair R b → LeastPair (λ i j. Q i j ⊎ R i j) (lesser_pair a b)
lesser_is Q R None None f g = λ i j h. none i j h
  where
    none : (i j : ℕ) → Q i j ⊎ R i j → ⊥
    none i j (inl x) = f i j x
    none i j (inr y) = g i j y
lesser_is Q R None (Some q) f g = (inr g.0, after)
  where
    after : (i j : ℕ) → Q i j ⊎ R i j → is_before q (pair i j) ≡ true
    after i j (inl x) = absurd (f i j x)
    after i j (inr y) = g.1 i j y
lesser_is Q R (Some p) None f g = (inl f.0, after)
  where
    after : (i j : ℕ) → Q i j ⊎ R i j → is_before p (pair i j) ≡ true
    after i j (inl x) = f.1 i j x
    after i j (inr y) = absurd (g i j y)
lesser_is Q R (Some p) (Some q) f g = by_test (is_before p q) refl
  where
    of_p : is_before p q ≡ true → (i j : ℕ) → Q i j ⊎ R i j → is_before p (pair i j) ≡ true
    of_p e i j (inl x) = f.1 i j x
    of_p e i j (inr y) = both p.first p.second q.first q.second i j e (g.1 i j y)

    of_q : is_before q p ≡ true → (i j : ℕ) → Q i j ⊎ R i j → is_before q (pair i j) ≡ true
    of_q e i j (inl x) = both q.first q.second p.first p.second i j e (f.1 i j x)
    of_q e i j (inr y) = g.1 i j y

    by_test : (t : Bool) → is_before p q ≡ t → LeastPair (λ i j. Q i j ⊎ R i j) (if t then Some p else Some q)
    by_test true e = (inl f.0, of_p e)
    by_test false e = (inr g.0, of_q (either p.first p.second q.first q.second e))

-- ---- of one property

abbrev pub Both : (ℕ → Type 0) → ℕ → ℕ → Type 0
Both A i j = (i < j) × (A i × A j)

pub within_is : (A : ℕ → Type 0) (a : Iterations) → AreLeast A a → LeastPair (Both A) (within a)
within_is A Nobody f = λ i j h. f i h.1.0
within_is A (One n) f = λ i j h. let a : i ≡ n = f.1 i h.1.0 in let b : j ≡ n = f.1 j h.1.1 in let c : i < j = h.0 in omega arith
within_is A (More m n) f = ((f.2, (f.0, f.1)), λ i j h. no_later m n i j (first i (f.3 i h.1.0)) (second i j h.0 (first i (f.3 i h.1.0)) (f.3 j h.1.1)))
  where
    first : (i : ℕ) → (i ≡ m) ⊎ (n ≤ i) → m ≤ i
    first i (inl e) = omega arith
    first i (inr l) = let k : m < n = f.2 in omega arith

    second : (i j : ℕ) → i < j → m ≤ i → (j ≡ m) ⊎ (n ≤ j) → n ≤ j
    second i j h g (inl e) = absurd (omega arith)
    second i j h g (inr l) = l

-- ---- across two properties

abbrev pub Across : (ℕ → Type 0) → (ℕ → Type 0) → ℕ → ℕ → Type 0
Across A B i j = (i < j) × ((A i × B j) ⊎ (B i × A j))

-- all others of which P holds than the least, i
abbrev Others : (ℕ → Type 0) → ℕ → Option ℕ → Type 0
Others P i None = (k : ℕ) → P k → k ≡ i
Others P i (Some j) = P j × (i < j) × ((k : ℕ) → P k → (k ≡ i) ⊎ (j ≤ k))

record Lowest (P : ℕ → Type 0) (i : ℕ) (o : Option ℕ) : Type 0 where
  pub holds : P i
  pub below : (k : ℕ) → P k → i ≤ k
  pub others : Others P i o

lowest_one : (P : ℕ → Type 0) (i : ℕ) → AreLeast P (One i) → Lowest P i None
lowest_one P i f = record { holds = f.0; below = λ k h. let e : k ≡ i = f.1 k h in omega arith; others = f.1 }

lowest_more : (P : ℕ → Type 0) (i j : ℕ) → AreLeast P (More i j) → Lowest P i (Some j)
lowest_more P i j f = record { holds = f.0; below = λ k h. below k (f.3 k h); others = (f.1, f.2, f.3) }
  where
    below : (k : ℕ) → (k ≡ i) ⊎ (j ≤ k) → i ≤ k
    below k (inl e) = omega arith
    below k (inr l) = let m : i < j = f.2 in omega arith

-- where both have the same least one
same_least : (A B : ℕ → Type 0) (i : ℕ) (m n : Option ℕ) → Lowest A i m → Lowest B i n → LeastPair (Across A B) (option_map (pair i) (lesser m n))
same_least A B i None None a b = none
  where
    none : (k l : ℕ) → Across A B k l → ⊥
    none k l (h, inl x) = let e : k ≡ i = a.others k x.0 in let f : l ≡ i = b.others l x.1 in omega arith
    none k l (h, inr y) = let e : k ≡ i = b.others k y.0 in let f : l ≡ i = a.others l y.1 in omega arith
same_least A B i (Some m) None a b = ((a.others.1, inr (b.holds, a.others.0)), after)
  where
    second : (k l : ℕ) → k < l → k ≡ i → (l ≡ i) ⊎ (m ≤ l) → m ≤ l
    second k l h e (inl f) = absurd (omega arith)
    second k l h e (inr f) = f

    after : (k l : ℕ) → Across A B k l → is_before (pair i m) (pair k l) ≡ true
    after k l (h, inl x) = let e : i ≤ k = a.below k x.0 in let f : l ≡ i = b.others l x.1 in absurd (omega arith)
    after k l (h, inr y) = let e : k ≡ i = b.others k y.0 in no_later i m k l (omega arith) (second k l h e (a.others.2 l y.1))
same_least A B i None (Some n) a b = ((b.others.1, inl (a.holds, b.others.0)), after)
  where
    second : (k l : ℕ) → k < l → k ≡ i → (l ≡ i) ⊎ (n ≤ l) → n ≤ l
    second k l h e (inl f) = absurd (omega arith)
    second k l h e (inr f) = f

    after : (k l : ℕ) → Across A B k l → is_before (pair i n) (pair k l) ≡ true
    after k l (h, inl x) = let e : k ≡ i = a.others k x.0 in no_later i n k l (omega arith) (second k l h e (b.others.2 l x.1))
    after k l (h, inr y) = let e : i ≤ k = b.below k y.0 in let f : l ≡ i = a.others l y.1 in absurd (omega arith)
same_least A B i (Some m) (Some n) a b = by_test (nat_lt m n) refl
  where
    second : (j k l : ℕ) → k < l → i ≤ k → (l ≡ i) ⊎ (j ≤ l) → j ≤ l
    second j k l h e (inl f) = absurd (omega arith)
    second j k l h e (inr f) = f

    after : (j : ℕ) → j ≤ m → j ≤ n → (k l : ℕ) → Across A B k l → is_before (pair i j) (pair k l) ≡ true
    after j o p k l (h, inl x) = let e : i ≤ k = a.below k x.0 in let f : n ≤ l = second n k l h e (b.others.2 l x.1) in no_later i j k l e (omega arith)
    after j o p k l (h, inr y) = let e : i ≤ k = b.below k y.0 in let f : m ≤ l = second m k l h e (a.others.2 l y.1) in no_later i j k l e (omega arith)

    by_test : (t : Bool) → nat_lt m n ≡ t → LeastPair (Across A B) (option_map (pair i) (if t then Some m else Some n))
    by_test true e = let l : m < n = ltb-true m n e in ((a.others.1, inr (b.holds, a.others.0)), after m (omega arith) (omega arith))
    by_test false e = let l : n ≤ m = ltb-false m n e in ((b.others.1, inl (a.holds, b.others.0)), after n (omega arith) (omega arith))

lowest_crossed : (A B : ℕ → Type 0) (i j : ℕ) (m n : Option ℕ) → Lowest A i m → Lowest B j n
    → LeastPair (Across A B) (if nat_lt i j then Some (pair i j) else if nat_lt j i then Some (pair j i) else option_map (pair i) (lesser m n))
lowest_crossed A B i j m n a b = by_tests (nat_lt i j) (nat_lt j i) refl refl
  where
    a_first : i < j → (k l : ℕ) → Across A B k l → is_before (pair i j) (pair k l) ≡ true
    a_first h k l (g, inl x) = no_later i j k l (a.below k x.0) (b.below l x.1)
    a_first h k l (g, inr y) = let e : j ≤ k = b.below k y.0 in earlier i j k l (omega arith)

    b_first : j < i → (k l : ℕ) → Across A B k l → is_before (pair j i) (pair k l) ≡ true
    b_first h k l (g, inl x) = let e : i ≤ k = a.below k x.0 in earlier j i k l (omega arith)
    b_first h k l (g, inr y) = no_later j i k l (b.below k y.0) (a.below l y.1)

    alike : (k : ℕ) → k ≡ i → Lowest B k n → LeastPair (Across A B) (option_map (pair i) (lesser m n))
    alike k e c = same_least A B i m n a (rw e at c)

    by_tests : (t s : Bool) → nat_lt i j ≡ t → nat_lt j i ≡ s → LeastPair (Across A B) (if t then Some (pair i j) else if s then Some (pair j i) else option_map (pair i) (lesser m n))
    by_tests true s e f = let h : i < j = ltb-true i j e in ((h, inl (a.holds, b.holds)), a_first h)
    by_tests false true e f = let h : j < i = ltb-true j i f in ((h, inr (b.holds, a.holds)), b_first h)
    by_tests false false e f = let h : j ≤ i = ltb-false i j e in let g : i ≤ j = ltb-false j i f in alike j (omega arith) b

pub crossing_is : (A B : ℕ → Type 0) (a b : Iterations) → AreLeast A a → AreLeast B b → LeastPair (Across A B) (crossing a b)
crossing_is A B Nobody b f g = none
  where
    none : (k l : ℕ) → Across A B k l → ⊥
    none k l (h, inl x) = f k x.0
    none k l (h, inr y) = f l y.1
crossing_is A B (One i) Nobody f g = none
  where
    none : (k l : ℕ) → Across A B k l → ⊥
    none k l (h, inl x) = g l x.1
    none k l (h, inr y) = g k y.0
crossing_is A B (More i m) Nobody f g = none
  where
    none : (k l : ℕ) → Across A B k l → ⊥
    none k l (h, inl x) = g l x.1
    none k l (h, inr y) = g k y.0
crossing_is A B (One i) (One j) f g = lowest_crossed A B i j None None (lowest_one A i f) (lowest_one B j g)
crossing_is A B (One i) (More j n) f g = lowest_crossed A B i j None (Some n) (lowest_one A i f) (lowest_more B j n g)
crossing_is A B (More i m) (One j) f g = lowest_crossed A B i j (Some m) None (lowest_more A i m f) (lowest_one B j g)
crossing_is A B (More i m) (More j n) f g = lowest_crossed A B i j (Some m) (Some n) (lowest_more A i m f) (lowest_more B j n g)
