-- Sums by their positions.
use Rattle.std.specs.Prelude.{◌≡◌, ◌≢◌, ◌<◌, ◌==◌, if◌then◌else◌, ℕ, zero, suc, Bool, true, false, List, [], ◌∷◌, ◌++◌, length, map, reverse, drop, Option, Some, None, slice_index_or, slice_set, refl}
use Rattle.std.proofs.Common.{ap, ◌∙◌, arith}
use Rattle.std.proofs.lemmas.List.{reverse-append, map-append}
use Rattle.std.proofs.lemmas.Bool.Decides.{nat_tests}
use Rattle.ring_core.specs.Ring.{ring_add}
use Rattle.reverse_sweep.specs.Reversing.{Sums, behind, summed}
use Rattle.reverse_state.specs.declared.sums.Sum.{Sum}
use Rattle.reverse_state.specs.Holding.{sum_pair, sums_back, with_added, cell_in}

pub cell_by : (ss : List Sum) (i : ℕ) (d : Sum) → i < length ss → (slice_index_or ss i d).cell ≡ cell_in ss i
cell_by [] i d h = absurd (omega (arith, h))
cell_by (s ∷ ss) zero d h = refl
cell_by (s ∷ ss) (suc i) d h = cell_by ss i d (omega (arith, h))

pub added_by : (ss : List Sum) (i a : ℕ) (s d : Sum) → i < length ss → s ≡ slice_index_or ss i d → slice_set ss i (record { cell = s.cell; amount = ring_add s.amount a }) ≡ with_added i a ss
added_by [] i a s d h e = refl
added_by (r ∷ ss) zero a s d h e = rw e refl
added_by (r ∷ ss) (suc i) a s d h e = ap (λ ts. r ∷ ts) (added_by ss i a s d (omega (arith, h)) e)

back_more : (s : Sum) (ss : List Sum) → sums_back (s ∷ ss) ≡ sums_back ss ++ sum_pair s ∷ []
back_more s ss = ap (λ ts. map sum_pair ts) (reverse-append (s ∷ []) ss) ∙ map-append sum_pair (reverse ss) (s ∷ [])

test_true : (p q : ℕ) → p ≡ q → (q == p) ≡ true
test_true p q e = grind (arith, nat_tests)

test_false : (p q : ℕ) → p ≢ q → (q == p) ≡ false
test_false p q e = grind (arith, nat_tests)

-- none of the newer ones is of the cell
summed_last : (q a : ℕ) (rs : Sums) (r : ℕ × ℕ) → summed q a rs ≡ None → (q == r.0) ≡ true → summed q a (rs ++ r ∷ []) ≡ Some (rs ++ (r.0, ring_add r.1 a) ∷ [])
summed_last q a [] r h e = rw e refl
summed_last q a (s ∷ rs) r h e = by_test (λ g. summed_last q a rs r g e) (q == s.0) refl
  where
    rest_none : (o : Option Sums) → behind s o ≡ None → o ≡ None
    rest_none None g = refl
    rest_none (Some x) g = cc

    by_test : (summed q a rs ≡ None → summed q a (rs ++ r ∷ []) ≡ Some (rs ++ (r.0, ring_add r.1 a) ∷ [])) → (b : Bool) → (q == s.0) ≡ b
        → (if q == s.0 then Some ((s.0, ring_add s.1 a) ∷ rs ++ r ∷ []) else behind s (summed q a (rs ++ r ∷ []))) ≡ Some (s ∷ rs ++ (r.0, ring_add r.1 a) ∷ [])
    by_test f true t = let g : Some ((s.0, ring_add s.1 a) ∷ rs) ≡ None = rw t at h in cc
    by_test f false t = let g : behind s (summed q a rs) ≡ None = rw t at h in rw (t, f (rest_none (summed q a rs) g)) refl

summed_none : (q a : ℕ) (rs : Sums) (r : ℕ × ℕ) → summed q a rs ≡ None → (q == r.0) ≡ false → summed q a (rs ++ r ∷ []) ≡ None
summed_none q a [] r h e = rw e refl
summed_none q a (s ∷ rs) r h e = by_test (λ g. summed_none q a rs r g e) (q == s.0) refl
  where
    rest_none : (o : Option Sums) → behind s o ≡ None → o ≡ None
    rest_none None g = refl
    rest_none (Some x) g = cc

    by_test : (summed q a rs ≡ None → summed q a (rs ++ r ∷ []) ≡ None) → (b : Bool) → (q == s.0) ≡ b
        → (if q == s.0 then Some ((s.0, ring_add s.1 a) ∷ rs ++ r ∷ []) else behind s (summed q a (rs ++ r ∷ []))) ≡ None
    by_test f true t = let g : Some ((s.0, ring_add s.1 a) ∷ rs) ≡ None = rw t at h in cc
    by_test f false t = let g : behind s (summed q a rs) ≡ None = rw t at h in rw (t, f (rest_none (summed q a rs) g)) refl

summed_first : (q a : ℕ) (rs us : Sums) (r : ℕ × ℕ) → summed q a rs ≡ Some us → summed q a (rs ++ r ∷ []) ≡ Some (us ++ r ∷ [])
summed_first q a [] us r h = cc
summed_first q a (s ∷ rs) us r h = by_test (λ vs g. summed_first q a rs vs r g) (q == s.0) refl
  where
    by_rest : (o p : Option Sums) → ((vs : Sums) → o ≡ Some vs → p ≡ Some (vs ++ r ∷ [])) → behind s o ≡ Some us → behind s p ≡ Some (us ++ r ∷ [])
    by_rest None p f g = cc
    by_rest (Some vs) p f g =
        let e : s ∷ vs ≡ us = cc in
        rw (f vs refl) (ap (λ ws. Some (ws ++ r ∷ [])) e)

    by_test : ((vs : Sums) → summed q a rs ≡ Some vs → summed q a (rs ++ r ∷ []) ≡ Some (vs ++ r ∷ [])) → (b : Bool) → (q == s.0) ≡ b
        → (if q == s.0 then Some ((s.0, ring_add s.1 a) ∷ rs ++ r ∷ []) else behind s (summed q a (rs ++ r ∷ []))) ≡ Some (us ++ r ∷ [])
    by_test f true t =
        let g : Some ((s.0, ring_add s.1 a) ∷ rs) ≡ Some us = rw t at h in
        let e : (s.0, ring_add s.1 a) ∷ rs ≡ us = cc in
        rw t (ap (λ ws. Some (ws ++ r ∷ [])) e)
    by_test f false t =
        let g : behind s (summed q a rs) ≡ Some us = rw t at h in
        rw t (by_rest (summed q a rs) (summed q a (rs ++ r ∷ [])) f g)

-- no newer one is of the cell, and this one isn't
pub passed : (ss : List Sum) (i q a : ℕ) → i < length ss → cell_in ss i ≢ q → summed q a (sums_back (drop (suc i) ss)) ≡ None → summed q a (sums_back (drop i ss)) ≡ None
passed [] i q a h n e = absurd (omega (arith, h))
passed (s ∷ ss) zero q a h n e = rw (back_more s ss) (summed_none q a (sums_back ss) (sum_pair s) e (test_false s.cell q n))
passed (s ∷ ss) (suc i) q a h n e = passed ss i q a (omega (arith, h)) n e

-- no newer one is of the cell, and this one is
pub found : (ss : List Sum) (i q a : ℕ) → i < length ss → cell_in ss i ≡ q → summed q a (sums_back (drop (suc i) ss)) ≡ None → summed q a (sums_back ss) ≡ Some (sums_back (with_added i a ss))
found [] i q a h n e = absurd (omega (arith, h))
found (s ∷ ss) zero q a h n e =
    rw (back_more s ss, back_more (record s { amount = ring_add s.amount a }) ss) (summed_last q a (sums_back ss) (sum_pair s) e (test_true s.cell q n))
found (s ∷ ss) (suc i) q a h n e =
    rw (back_more s ss, back_more s (with_added i a ss)) (summed_first q a (sums_back ss) (sums_back (with_added i a ss)) (sum_pair s) (found ss i q a (omega (arith, h)) n e))
