-- Trees of operations over a stage: where additions may go to sums.
use Rattle.std.proofs.Common.{◌≡◌, ℕ, suc, ◌+◌, List, [], ◌∷◌, ◌++◌, refl, ap, sym, ◌∙◌, append_assoc, append-nil, Bool, true, false, cond, Option, Some, None, arith}
use Rattle.std.specs.Prelude.{slice_index, ◌==◌, if◌then◌else◌}
use Rattle.ring_core.specs.Ring.{ring_add}
use Rattle.operations.specs.declared.op.Op.{Op}
use Rattle.operations.specs.declared.op.Op.TheVariants.{Load, Store, Bump, Add}
use Rattle.operations.specs.Tree.{Tree, done, loads, does, ◌giving◌, Played, play}
use Rattle.operations.specs.Ops.{acts}
use Rattle.operations.specs.Collect.{collect, collect_add}
use Rattle.transposition.specs.Worlds.{Local}
use Rattle.sweep_evaluation.specs.Machine.{Ran, ran}
use Rattle.std.proofs.lemmas.Bool.Decides.{nat_tests}
use Rattle.reverse_law.specs.Adds.{adds_on}
use Rattle.reverse_sweep.specs.Reversing.{Sums, Stage, Reversing, reversing, loaded_cell, acted, behind, summed, added_by, added, first_sum, later_sums}

abbrev pub tallied : Bool → Stage → Stage
tallied true g = record g { adds = suc g.adds }
tallied false g = g

-- an operation, with additions to these cells counted
abbrev pub made : (ℕ → Bool) → Op → Stage → Stage
made cells (Load p) g = loaded_cell p g
made cells (Store p x) g = acted (Store p x) g
made cells (Bump p a) g = acted (Bump p a) g
made cells (Add p a) g = tallied (cells p) (added p a g)

abbrev pub go : {A : Type 0} → (ℕ → Bool) → Tree A → Stage → Ran Stage A
go cells (done a) g = ran a g
go cells (loads p k) g = go cells (k (slice_index g.cells p)) (loaded_cell p g)
go cells (does o t) g = go cells t (made cells o g)

pub go_giving : {A B : Type 0} (cells : ℕ → Bool) (t : Tree A) (f : A → Tree B) (g : Stage) → go cells (t giving f) g ≡ go cells (f (go cells t g).out) (go cells t g).state
go_giving cells (done a) f g = refl
go_giving cells (loads p k) f g = go_giving cells (k (slice_index g.cells p)) f (loaded_cell p g)
go_giving cells (does o t) f g = go_giving cells t f (made cells o g)

-- a function of what a tree gives, then a tree
pub go_through : {A B C : Type 0} (cells : ℕ → Bool) (t : Tree A) (f : A → B) (h : B → Tree C) (g : Stage) → go cells ((t giving (λ a. done (f a))) giving h) g ≡ go cells (t giving (λ a. h (f a))) g
go_through cells (done a) f h g = refl
go_through cells (loads p k) f h g = go_through cells (k (slice_index g.cells p)) f h (loaded_cell p g)
go_through cells (does o t) f h g = go_through cells t f h (made cells o g)

-- ---- with what was counted, or without

abbrev pub seen : Bool → Stage → Stage
seen true g = g
seen false g = record g { adds = 0 }

abbrev pub veiled : {A : Type 0} → Bool → Ran Stage A → Ran Stage A
veiled b r = ran r.out (seen b r.state)

unseen_add : (b : Bool) (p a : ℕ) (o : Option Sums) (g : Stage) → seen false (tallied b (added_by p a o g)) ≡ seen false (tallied b (added_by p a o (seen false g)))
unseen_add true p a None g = refl
unseen_add true p a (Some rs) g = refl
unseen_add false p a None g = refl
unseen_add false p a (Some rs) g = refl

unseen : (cells : ℕ → Bool) (o : Op) (g : Stage) → seen false (made cells o g) ≡ seen false (made cells o (seen false g))
unseen cells (Load p) g = refl
unseen cells (Store p x) g = refl
unseen cells (Bump p a) g = refl
unseen cells (Add p a) g = unseen_add (cells p) p a (summed p a g.sums) g

go_unseen : {A : Type 0} (cells : ℕ → Bool) (t : Tree A) (g : Stage) → veiled false (go cells t g) ≡ veiled false (go cells t (seen false g))
go_unseen cells (done a) g = refl
go_unseen cells (loads p k) g = go_unseen cells (k (slice_index g.cells p)) (loaded_cell p g)
go_unseen cells (does o t) g = go_unseen cells t (made cells o g) ∙ (ap (λ (x : Stage). veiled false (go cells t x)) (unseen cells o g) ∙ sym (go_unseen cells t (made cells o (seen false g))))

pub alike : {A : Type 0} (b : Bool) (cells : ℕ → Bool) (t : Tree A) (g h : Stage) → seen b g ≡ seen b h → veiled b (go cells t g) ≡ veiled b (go cells t h)
alike true cells t g h e = ap (λ (x : Stage). veiled true (go cells t x)) e
alike false cells t g h e = go_unseen cells t g ∙ (ap (λ (x : Stage). veiled false (go cells t x)) e ∙ sym (go_unseen cells t h))

-- where a tree of the iteration's own words leaves a sweep
abbrev pub landed : Ran Stage Local → Reversing
landed r = reversing r.out r.state

-- ---- without sums a tree is played

abbrev pub plain_stage : List ℕ → List Op → ℕ → Stage
plain_stage c os n = record { cells = c; sums = []; ops = os; adds = n }

abbrev pub played_from : {A : Type 0} → (ℕ → Bool) → List Op → ℕ → Played A → Ran Stage A
played_from cells os n r = ran r.out (plain_stage r.cells (os ++ r.ops) (n + adds_on cells r.ops))

pub adds_append : (cells : ℕ → Bool) (os us : List Op) → adds_on cells (os ++ us) ≡ adds_on cells os + adds_on cells us
adds_append cells [] us = none_before (adds_on cells us)
  where
    none_before : (n : ℕ) → n ≡ 0 + n
    none_before n = omega arith
adds_append cells (Load p ∷ os) us = adds_append cells os us
adds_append cells (Store p x ∷ os) us = adds_append cells os us
adds_append cells (Bump p a ∷ os) us = adds_append cells os us
adds_append cells (Add p a ∷ os) us = regrouped (cond (cells p) 1 0) (adds_on cells os) (adds_on cells us) (adds_on cells (os ++ us)) (adds_append cells os us)
  where
    regrouped : (k m n r : ℕ) → r ≡ m + n → k + r ≡ (k + m) + n
    regrouped k m n r e = omega arith

summed_adds : (n k m r : ℕ) → r ≡ k + m → (n + k) + m ≡ n + r
summed_adds n k m r e = omega arith

one_more : {A : Type 0} (cells : ℕ → Bool) (o : Op) (os : List Op) (n : ℕ) (r : Played A)
    → played_from cells (os ++ o ∷ []) (n + adds_on cells (o ∷ [])) r ≡ played_from cells os n (record { out = r.out; cells = r.cells; ops = o ∷ r.ops })
one_more cells o os n r =
    ap (λ (us : List Op). ran r.out (plain_stage r.cells us ((n + adds_on cells (o ∷ [])) + adds_on cells r.ops))) (append_assoc os (o ∷ []) r.ops)
    ∙ ap (λ (k : ℕ). ran r.out (plain_stage r.cells (os ++ o ∷ r.ops) k)) (summed_adds n (adds_on cells (o ∷ [])) (adds_on cells r.ops) (adds_on cells (o ∷ r.ops)) (adds_append cells (o ∷ []) r.ops))

none_more : (n : ℕ) → n ≡ n + 0
none_more n = omega arith

plainly : (cells : ℕ → Bool) (o : Op) (c : List ℕ) (os : List Op) (n : ℕ) → made cells o (plain_stage c os n) ≡ plain_stage (acts o c) (os ++ o ∷ []) (n + adds_on cells (o ∷ []))
plainly cells (Load p) c os n = ap (plain_stage c (os ++ Load p ∷ [])) (none_more n)
plainly cells (Store p x) c os n = ap (plain_stage (acts (Store p x) c) (os ++ Store p x ∷ [])) (none_more n)
plainly cells (Bump p a) c os n = ap (plain_stage (acts (Bump p a) c) (os ++ Bump p a ∷ [])) (none_more n)
plainly cells (Add p a) c os n = by_cell (cells p)
  where
    one_added : (n : ℕ) → suc n ≡ n + (1 + 0)
    one_added n = omega arith

    by_cell : (b : Bool) → tallied b (plain_stage (acts (Add p a) c) (os ++ Add p a ∷ []) n) ≡ plain_stage (acts (Add p a) c) (os ++ Add p a ∷ []) (n + (cond b 1 0 + 0))
    by_cell true = ap (plain_stage (acts (Add p a) c) (os ++ Add p a ∷ [])) (one_added n)
    by_cell false = ap (plain_stage (acts (Add p a) c) (os ++ Add p a ∷ [])) (none_more n)

pub go_plain : {A : Type 0} (cells : ℕ → Bool) (t : Tree A) (c : List ℕ) (os : List Op) (n : ℕ) → go cells t (plain_stage c os n) ≡ played_from cells os n (play t c)
go_plain cells (done a) c os n = ap (λ (us : List Op). ran a (plain_stage c us n)) (sym (append-nil os)) ∙ ap (λ (k : ℕ). ran a (plain_stage c (os ++ []) k)) (none_more n)
go_plain cells (loads p k) c os n =
    ap (go cells (k (slice_index c p))) (plainly cells (Load p) c os n)
    ∙ (go_plain cells (k (slice_index c p)) c (os ++ Load p ∷ []) (n + adds_on cells (Load p ∷ [])) ∙ one_more cells (Load p) os n (play (k (slice_index c p)) c))
go_plain cells (does o t) c os n =
    ap (go cells t) (plainly cells o c os n) ∙ (go_plain cells t (acts o c) (os ++ o ∷ []) (n + adds_on cells (o ∷ [])) ∙ one_more cells o os n (play t (acts o c)))

-- ---- sums

abbrev over_sum : ℕ → ℕ → Stage → Stage
over_sum q x g = record g { sums = (q, x) ∷ g.sums }

-- the innermost sum apart
abbrev apart : {A : Type 0} → Ran Stage A → Ran Stage (A × ℕ)
apart r = ran (r.out, first_sum r.state.sums) (record r.state { sums = later_sums r.state.sums })

other_sum : (b : Bool) (p a q x : ℕ) (g : Stage) (o : Option Sums) → tallied b (added_by p a (behind (q, x) o) (over_sum q x g)) ≡ over_sum q x (tallied b (added_by p a o g))
other_sum true p a q x g None = refl
other_sum true p a q x g (Some rs) = refl
other_sum false p a q x g None = refl
other_sum false p a q x g (Some rs) = refl

same_cell : (p q : ℕ) → (p == q) ≡ true → p ≡ q
same_cell p q e = grind (arith, nat_tests)

-- additions to a cell that isn't counted
pub go_collect : {A : Type 0} (cells : ℕ → Bool) (q : ℕ) → cells q ≡ false → (t : Tree A) (x : ℕ) (g : Stage) → go cells (collect q t x) g ≡ apart (go cells t (over_sum q x g))
go_collect cells q n (done a) x g = refl
go_collect cells q n (loads p k) x g = go_collect cells q n (k (slice_index g.cells p)) x (loaded_cell p g)
go_collect cells q n (does (Load p) t) x g = go_collect cells q n t x (loaded_cell p g)
go_collect cells q n (does (Store p v) t) x g = go_collect cells q n t x (acted (Store p v) g)
go_collect cells q n (does (Bump p a) t) x g = go_collect cells q n t x (acted (Bump p a) g)
go_collect cells q n (does (Add p a) t) x g = by_cell (p == q) refl (go_collect cells q n t (ring_add x a) g) (go_collect cells q n t x (made cells (Add p a) g))
  where
    by_cell : (b : Bool) → (p == q) ≡ b → go cells (collect q t (ring_add x a)) g ≡ apart (go cells t (over_sum q (ring_add x a) g)) → go cells (collect q t x) (made cells (Add p a) g) ≡ apart (go cells t (over_sum q x (made cells (Add p a) g)))
        → go cells (collect_add b (Add p a) a x (collect q t)) g ≡ apart (go cells t (tallied (cells p) (added_by p a (if b then Some ((q, ring_add x a) ∷ g.sums) else behind (q, x) (summed p a g.sums)) (over_sum q x g))))
    by_cell true e h k = h ∙ ap (λ (b : Bool). apart (go cells t (tallied b (over_sum q (ring_add x a) g)))) (sym (ap cells (same_cell p q e) ∙ n))
    by_cell false e h k = k ∙ ap (λ (h : Stage). apart (go cells t h)) (sym (other_sum (cells p) p a q x g (summed p a g.sums)))
