-- The machine with holders reaches the joint states.
use Rattle.std.proofs.Common.{◌≡◌, ◌≢◌, ℕ, zero, suc, ◌+◌, ◌<◌, ◌≤◌, List, [], ◌∷◌, ◌++◌, length, take, drop, refl, sym, ap, ◌∙◌, subst, arith, Option, Some, None, eq-eqb, ne_eqb}
use mathlib.Core.Logic.{dite}
use native.Mathlib.Decide.{ℕ_discrete}
use Rattle.operations.specs.declared.op.Op.{Op}
use Rattle.operations.specs.Ops.{acts_all}
use Rattle.operations.specs.Order.{joint_cells, put, next, Follows}
use Rattle.operations.specs.Holders.{Crew, Event, claims, makes, crew_after, crew_after_all, AllMayHappen, crew_start, IsReached}
use Rattle.operations.proofs.Orders.{went_here, went_else, drop_next, Ready, ready_follows, ready_next, made}

put_here : (k x : ℕ) (f : ℕ → ℕ) → put k x f k ≡ x
put_here k x f = rw (eq-eqb k k refl) refl

put_else : (k x : ℕ) (f : ℕ → ℕ) (j : ℕ) → j ≢ k → put k x f j ≡ f j
put_else k x f j ne = rw (ne_eqb j k ne) refl

-- list k makes its next i operations
abbrev many : ℕ → ℕ → List Event
many zero k = []
many (suc i) k = makes k ∷ many i k

-- where list k has made i operations more, the other lists are where they were
record Goes (ops : ℕ → List Op) (k : ℕ) (m : Crew) (i : ℕ) (c : List ℕ) : Type 0 where
  pub may : AllMayHappen ops (many i k) m
  pub cells : (crew_after_all ops (many i k) m).machine.cells ≡ c
  pub here : (crew_after_all ops (many i k) m).machine.at k ≡ m.machine.at k + i
  pub there : (j : ℕ) → j ≢ k → (crew_after_all ops (many i k) m).machine.at j ≡ m.machine.at j
  pub held : (j : ℕ) → (crew_after_all ops (many i k) m).holder j ≡ m.holder j

within_next : (os : List Op) (i : ℕ) (o : Op) (rest : List Op) → drop i os ≡ o ∷ rest → i < length os
within_next [] zero o rest e = absurd (let f : [] ≡ o ∷ rest = e in cc)
within_next [] (suc i) o rest e = absurd (let f : [] ≡ o ∷ rest = e in cc)
within_next (x ∷ os) zero o rest e = omega arith
within_next (x ∷ os) (suc i) o rest e = let h = within_next os i o rest e in omega arith

goes : (ops : ℕ → List Op) (k w i : ℕ) (rest : List Op) (m : Crew) → drop (m.machine.at k) (ops k) ≡ rest → m.holder k ≡ Some w → i ≤ length rest → Ready (m.machine.last k) m.machine.cells rest
    → Goes ops k m i (acts_all (take i rest) m.machine.cells)
goes ops k w zero rest m d hk le r = record { may = tt; cells = refl; here = omega arith; there = λ j ne. refl; held = λ j. refl }
goes ops k w (suc i) [] m d hk le r = absurd (omega arith)
goes ops k w (suc i) (o ∷ rest) m d hk le r =
    let m1 : Crew = record { machine = next k (o ∷ rest) m.machine; holder = m.holder } in
    let e : crew_after ops (makes k) m ≡ m1 = λ j. record { machine = next k (d j) m.machine; holder = m.holder } in
    let at1 : m1.machine.at k ≡ suc (m.machine.at k) = went_here k m.machine.at in
    let d1 : drop (m1.machine.at k) (ops k) ≡ rest = ap (λ c. drop c (ops k)) at1 ∙ drop_next (ops k) (m.machine.at k) o rest d in
    let r1 : Ready (m1.machine.last k) m1.machine.cells rest = subst (λ x. Ready x m1.machine.cells rest) (sym (put_here k _ m.machine.last)) (ready_next (m.machine.last k) m.machine.cells o rest r) in
    let ih = goes ops k w i rest m1 d1 hk (omega arith) r1 in
    record {
      may = ((w, hk, within_next (ops k) (m.machine.at k) o rest d), subst (λ x. AllMayHappen ops (many i k) x) (sym e) ih.may);
      cells = ap (λ x. (crew_after_all ops (many i k) x).machine.cells) e ∙ (ih.cells ∙ ap (acts_all (take i rest)) (made (m.machine.last k) m.machine.cells o rest r));
      here = ap (λ x. (crew_after_all ops (many i k) x).machine.at k) e ∙ (ih.here ∙ (ap (λ c. c + i) at1 ∙ omega arith));
      there = λ j ne. ap (λ x. (crew_after_all ops (many i k) x).machine.at j) e ∙ (ih.there j ne ∙ went_else k m.machine.at j ne);
      held = λ j. ap (λ x. (crew_after_all ops (many i k) x).holder j) e ∙ ih.held j;
    }

after_both : (ops : ℕ → List Op) (m : Crew) (xs ys : List Event) → crew_after_all ops (xs ++ ys) m ≡ crew_after_all ops ys (crew_after_all ops xs m)
after_both ops m [] ys = refl
after_both ops m (x ∷ xs) ys = after_both ops (crew_after ops x m) xs ys

may_both : (ops : ℕ → List Op) (m : Crew) (xs ys : List Event) → AllMayHappen ops xs m → AllMayHappen ops ys (crew_after_all ops xs m) → AllMayHappen ops (xs ++ ys) m
may_both ops m [] ys a b = b
may_both ops m (x ∷ xs) ys a b = (a.0, may_both ops (crew_after ops x m) xs ys a.1 b)

abbrev of_list : (ℕ → ℕ) → ℕ → Option ℕ → List Event
of_list at n None = []
of_list at n (Some w) = claims n w ∷ many (at n) n

-- each list below n that is held is claimed, and goes to its position, one list after another
abbrev one_by_one : (ℕ → Option ℕ) → (ℕ → ℕ) → ℕ → List Event
one_by_one holder at zero = []
one_by_one holder at (suc n) = one_by_one holder at n ++ of_list at n (holder n)

record Has (ops : ℕ → List Op) (holder : ℕ → Option ℕ) (at : ℕ → ℕ) (c : List ℕ) (n : ℕ) (m : Crew) : Type 0 where
  pub cells : m.machine.cells ≡ joint_cells ops at n c
  pub positions : (j : ℕ) → j < n → m.machine.at j ≡ at j
  pub holders : (j : ℕ) → j < n → m.holder j ≡ holder j
  pub free : (j : ℕ) → n ≤ j → (m.holder j ≡ None) × (m.machine.at j ≡ 0)

module _ (ops : ℕ → List Op) (top : ℕ) (holder : ℕ → Option ℕ) (at : ℕ → ℕ) (c : List ℕ) (follows : (k : ℕ) → k < top → Follows (ops k)) (within : (k : ℕ) → k < top → at k ≤ length (ops k)) (starts : (k : ℕ) → k < top → holder k ≡ None → at k ≡ 0) where
  one_more : (n : ℕ) → n < top → (m : Crew) (h : Option ℕ) → holder n ≡ h → Has ops holder at c n m
      → AllMayHappen ops (of_list at n h) m × Has ops holder at c (suc n) (crew_after_all ops (of_list at n h) m)
  one_more n lt m (Some w) e h =
      let m1 = crew_after ops (claims n w) m in
      let zero_here : m1.machine.at n ≡ 0 = put_here n 0 m.machine.at in
      let hold : m1.holder n ≡ Some w = rw (eq-eqb n n refl) refl in
      let g = goes ops n w (at n) (ops n) m1 (ap (λ i. drop i (ops n)) zero_here) hold (within n lt) (ready_follows (m1.machine.last n) m1.machine.cells (ops n) (follows n lt)) in (
        ((h.free n (omega arith)).0, g.may),
        record {
          cells = g.cells ∙ ap (acts_all (take (at n) (ops n))) h.cells;
          positions = λ j b. dite (ℕ_discrete j n)
              (λ q. subst (λ i. (crew_after_all ops (many (at n) n) m1).machine.at i ≡ at i) (sym q) (g.here ∙ (ap (λ i. i + at n) zero_here ∙ omega arith)))
              (λ ne. g.there j ne ∙ (put_else n 0 m.machine.at j ne ∙ h.positions j (omega arith)));
          holders = λ j b. g.held j ∙ dite (ℕ_discrete j n)
              (λ q. subst (λ i. m1.holder i ≡ holder i) (sym q) (hold ∙ sym e))
              (λ ne. rw (ne_eqb j n ne) (h.holders j (omega arith)));
          free = λ j le. let ne : j ≢ n = omega arith in (g.held j ∙ rw (ne_eqb j n ne) (h.free j (omega arith)).0, g.there j ne ∙ (put_else n 0 m.machine.at j ne ∙ (h.free j (omega arith)).1));
        },
      )
  one_more n lt m None e h = (
    tt,
    record {
      cells = h.cells ∙ ap (λ i. acts_all (take i (ops n)) (joint_cells ops at n c)) (sym (starts n lt e));
      positions = λ j b. dite (ℕ_discrete j n) (λ q. subst (λ i. m.machine.at i ≡ at i) (sym q) ((h.free n (omega arith)).1 ∙ sym (starts n lt e))) (λ ne. h.positions j (omega arith));
      holders = λ j b. dite (ℕ_discrete j n) (λ q. subst (λ i. m.holder i ≡ holder i) (sym q) ((h.free n (omega arith)).0 ∙ sym e)) (λ ne. h.holders j (omega arith));
      free = λ j le. h.free j (omega arith);
    },
  )

  has : (n : ℕ) → n ≤ top → AllMayHappen ops (one_by_one holder at n) (crew_start c) × Has ops holder at c n (crew_after_all ops (one_by_one holder at n) (crew_start c))
  has zero le = (tt, record { cells = refl; positions = λ j b. absurd (omega arith); holders = λ j b. absurd (omega arith); free = λ j b. (refl, refl) })
  has (suc n) le =
      let before = has n (omega arith) in
      let evs = of_list at n (holder n) in
      let more = one_more n (omega arith) (crew_after_all ops (one_by_one holder at n) (crew_start c)) (holder n) refl before.1 in (
        may_both ops (crew_start c) (one_by_one holder at n) evs before.0 more.0,
        subst (λ y. Has ops holder at c (suc n) y) (sym (after_both ops (crew_start c) (one_by_one holder at n) evs)) more.1,
      )

  pub reached : IsReached ops top c (joint_cells ops at top c) holder at
  reached = let all = has top (omega arith) in record {
    events = one_by_one holder at top;
    may_happen = all.0;
    cells = all.1.cells;
    positions = all.1.positions;
    holders = all.1.holders;
  }
