-- The loops of a readable tree have numbers of their own, so a range that is found by number is the loop's.
use Rattle.std.proofs.Common.{◌≡◌, ◌⊎◌, ℕ, suc, ◌+◌, ◌<◌, ◌≤◌, Bool, true, false, ℤ, pos, ◌-ℤ◌, ◌-◌, ◌%◌, int_lt, int_le, unsigned_abs, List, [], ◌∷◌, ◌++◌, length, length-append, refl, ap, sym, ◌∙◌, subst, arith, find, Option, Some, None}
use mathlib.Core.Logic.{inl, inr}
use Rattle.std.specs.Prelude.{◌||◌, ◌==◌, if◌then◌else◌, nat_eq}
use Rattle.std.proofs.lemmas.Bool.{and_parts, and_from, eqb-true}
use Rattle.std.proofs.lemmas.Bool.Decides.{nat_tests}
use Rattle.fl_ast.specs.declared.stmt.Program.{Program}
use Rattle.fl_ast.specs.Tree.{Statement, assignment, branch, loop, Statements, no_statements, statement, Arms, no_arms, arm, stmt_trees}
use Rattle.fl_ast.specs.Measures.{loop_numbers, loop_numbers_of_all, loop_numbers_of_arms}
use Rattle.fl_ast.specs.Readable.{counts_up_from, IsReadable}
use Rattle.fl_types.specs.Nests.{is_nest, inner_body}
use Rattle.index_forms.specs.Loops.{signed_number, step_number, HeadedLoop, headed_loops, headed_loops_of_all, headed_loops_of_arms, headed_loop, inside}
use Rattle.index_ranges.specs.Ranges.{KnownRange, range_by, loop_range, listed, ranges_by, ranges_in, ranges_in_arms}
use Rattle.certificate_rules.specs.Surveys.{range_of}
use Rattle.index_law.specs.Meetings.{In}
use Rattle.index_law.proofs.GroupKeys.{split, by_side}
use Rattle.apart_law.specs.Numbers.{numbers_by, numbers_in, numbers_in_arms, IsNumbered, AreNumbered, AreNumberedArms}

-- ---- trees whose loops are numbered in order

-- from n on and below m
abbrev mutual
  RunsBy : (n m : ℕ) → Statement → Type 0
  RunsBy n m (assignment line atomic p e) = n ≤ m
  RunsBy n m (branch line arms other) = (k : ℕ) × RunsThrough n k arms × RunsIn k m other
  RunsBy n m (loop line number directive var low high step body) = (number ≡ n) × RunsIn (suc n) m body

  RunsIn : (n m : ℕ) → Statements → Type 0
  RunsIn n m no_statements = n ≤ m
  RunsIn n m (statement s ss) = (k : ℕ) × RunsBy n k s × RunsIn k m ss

  RunsThrough : (n m : ℕ) → Arms → Type 0
  RunsThrough n m no_arms = n ≤ m
  RunsThrough n m (arm test body arms) = (k : ℕ) × RunsIn n k body × RunsThrough k m arms

counts_left : (n : ℕ) (xs ys : List ℕ) → counts_up_from n (xs ++ ys) ≡ true → counts_up_from n xs ≡ true
counts_left n [] ys h = refl
counts_left n (x ∷ xs) ys h =
    let p = and_parts (x == n) (counts_up_from (suc n) (xs ++ ys)) h in
    and_from (x == n) (counts_up_from (suc n) xs) p.0 (counts_left (suc n) xs ys p.1)

counts_right : (n m : ℕ) (xs ys : List ℕ) → m ≡ n + length xs → counts_up_from n (xs ++ ys) ≡ true → counts_up_from m ys ≡ true
counts_right n m [] ys e h = subst (λ (i : ℕ). counts_up_from i ys ≡ true) (omega (arith, e)) h
counts_right n m (x ∷ xs) ys e h = counts_right (suc n) m xs ys (omega (arith, e)) ((and_parts (x == n) (counts_up_from (suc n) (xs ++ ys)) h).1)

mutual
  runs_by : (n m : ℕ) (s : Statement) → m ≡ n + length (loop_numbers s) → counts_up_from n (loop_numbers s) ≡ true → RunsBy n m s
  runs_by n m (assignment line atomic p e) i h = omega (arith, i)
  runs_by n m (branch line arms other) i h =
      let a = loop_numbers_of_arms arms in
      let b = loop_numbers_of_all other in
      (n + length a, runs_through n (n + length a) arms refl (counts_left n a b h), runs_in (n + length a) m other (omega (arith, i, length-append a b)) (counts_right n (n + length a) a b refl h))
  runs_by n m (loop line number directive var low high step body) i h =
      let p = and_parts (number == n) (counts_up_from (suc n) (loop_numbers_of_all body)) h in
      (eqb-true number n p.0, runs_in (suc n) m body (omega (arith, i)) p.1)

  runs_in : (n m : ℕ) (ss : Statements) → m ≡ n + length (loop_numbers_of_all ss) → counts_up_from n (loop_numbers_of_all ss) ≡ true → RunsIn n m ss
  runs_in n m no_statements i h = omega (arith, i)
  runs_in n m (statement s ss) i h =
      let a = loop_numbers s in
      let b = loop_numbers_of_all ss in
      (n + length a, runs_by n (n + length a) s refl (counts_left n a b h), runs_in (n + length a) m ss (omega (arith, i, length-append a b)) (counts_right n (n + length a) a b refl h))

  runs_through : (n m : ℕ) (arms : Arms) → m ≡ n + length (loop_numbers_of_arms arms) → counts_up_from n (loop_numbers_of_arms arms) ≡ true → RunsThrough n m arms
  runs_through n m no_arms i h = omega (arith, i)
  runs_through n m (arm test body arms) i h =
      let a = loop_numbers_of_all body in
      let b = loop_numbers_of_arms arms in
      (n + length a, runs_in n (n + length a) body refl (counts_left n a b h), runs_through (n + length a) m arms (omega (arith, i, length-append a b)) (counts_right n (n + length a) a b refl h))

mutual
  order_by : (n m : ℕ) (s : Statement) → RunsBy n m s → n ≤ m
  order_by n m (assignment line atomic p e) h = h
  order_by n m (branch line arms other) h = let i = order_through n h.0 arms h.1 in let j = order_in h.0 m other h.2 in omega (arith, i, j)
  order_by n m (loop line number directive var low high step body) h = let i = order_in (suc n) m body h.1 in omega (arith, i)

  order_in : (n m : ℕ) (ss : Statements) → RunsIn n m ss → n ≤ m
  order_in n m no_statements h = h
  order_in n m (statement s ss) h = let i = order_by n h.0 s h.1 in let j = order_in h.0 m ss h.2 in omega (arith, i, j)

  order_through : (n m : ℕ) (arms : Arms) → RunsThrough n m arms → n ≤ m
  order_through n m no_arms h = h
  order_through n m (arm test body arms) h = let i = order_in n h.0 body h.1 in let j = order_through h.0 m arms h.2 in omega (arith, i, j)

-- ---- a number before them is of none

neither : (a b : Bool) → a ≡ false → b ≡ false → (a || b) ≡ false
neither a b e f = rw (e, f) refl

not_before : (l n : ℕ) → l < n → nat_eq l n ≡ false
not_before l n h = grind (arith, nat_tests, h)

mutual
  none_by : (l n m : ℕ) (s : Statement) → l < n → RunsBy n m s → numbers_by s l ≡ false
  none_by l n m (assignment line atomic p e) i h = refl
  none_by l n m (branch line arms other) i h =
      let j = order_through n h.0 arms h.1 in
      neither (numbers_in_arms arms l) (numbers_in other l) (none_through l n h.0 arms i h.1) (none_in l h.0 m other (omega (arith, i, j)) h.2)
  none_by l n m (loop line number directive var low high step body) i h =
      neither (nat_eq l number) (numbers_in body l) (not_before l number (let e = h.0 in omega (arith, i, e))) (none_in l (suc n) m body (omega (arith, i)) h.1)

  none_in : (l n m : ℕ) (ss : Statements) → l < n → RunsIn n m ss → numbers_in ss l ≡ false
  none_in l n m no_statements i h = refl
  none_in l n m (statement s ss) i h =
      let j = order_by n h.0 s h.1 in
      neither (numbers_by s l) (numbers_in ss l) (none_by l n h.0 s i h.1) (none_in l h.0 m ss (omega (arith, i, j)) h.2)

  none_through : (l n m : ℕ) (arms : Arms) → l < n → RunsThrough n m arms → numbers_in_arms arms l ≡ false
  none_through l n m no_arms i h = refl
  none_through l n m (arm test body arms) i h =
      let j = order_in n h.0 body h.1 in
      neither (numbers_in body l) (numbers_in_arms arms l) (none_in l n h.0 body i h.1) (none_through l h.0 m arms (omega (arith, i, j)) h.2)

-- ---- ranges

abbrev Between : (n m : ℕ) → List KnownRange → Type 0
Between n m [] = Unit {0}
Between n m (r ∷ rs) = (n ≤ r.number) × (r.number < m) × Between n m rs

between_wider : (a b n m : ℕ) (rs : List KnownRange) → a ≤ n → m ≤ b → Between n m rs → Between a b rs
between_wider a b n m [] i j h = tt
between_wider a b n m (r ∷ rs) i j h = let k = h.0 in let l = h.1 in (omega (arith, i, k), omega (arith, j, l), between_wider a b n m rs i j h.2)

between_both : (n m : ℕ) (rs qs : List KnownRange) → Between n m rs → Between n m qs → Between n m (rs ++ qs)
between_both n m [] qs h g = g
between_both n m (r ∷ rs) qs h g = (h.0, h.1, between_both n m rs qs h.2 g)

-- one list and then another one
between_joined : (n k m : ℕ) (rs qs : List KnownRange) → n ≤ k → k ≤ m → Between n k rs → Between k m qs → Between n m (rs ++ qs)
between_joined n k m rs qs i j h g = between_both n m rs qs (between_wider n m n k rs (omega arith) j h) (between_wider n m k m qs i (omega arith) g)

other_number : (r k : ℕ) → (r < k) ⊎ (k < r) → nat_eq r k ≡ false
other_number r k (inl h) = grind (arith, nat_tests, h)
other_number r k (inr h) = grind (arith, nat_tests, h)

passed : (r : KnownRange) (rs : List KnownRange) (k : ℕ) → nat_eq r.number k ≡ false → range_of (r ∷ rs) k ≡ range_of rs k
passed r rs k h = ap (λ b. if b then Some r else range_of rs k) h

before_all : (n m k : ℕ) (rs : List KnownRange) → k < n → Between n m rs → range_of rs k ≡ None
before_all n m k [] i h = refl
before_all n m k (r ∷ rs) i h = let j = h.0 in passed r rs k (other_number r.number k (inr (omega (arith, i, j)))) ∙ before_all n m k rs i h.2

-- found in the first of two lists, or in the second one
in_first : (n m k : ℕ) (rs qs : List KnownRange) → k < n → Between n m qs → range_of (rs ++ qs) k ≡ range_of rs k
in_first n m k [] qs i h = before_all n m k qs i h
in_first n m k (r ∷ rs) qs i h = ap (λ (o : Option KnownRange). if nat_eq r.number k then Some r else o) (in_first n m k rs qs i h)

in_second : (n m k : ℕ) (rs qs : List KnownRange) → m ≤ k → Between n m rs → range_of (rs ++ qs) k ≡ range_of qs k
in_second n m k [] qs i h = refl
in_second n m k (r ∷ rs) qs i h = let j = h.1 in passed r (rs ++ qs) k (other_number r.number k (inl (omega (arith, i, j)))) ∙ in_second n m k rs qs i h.2

-- a range has its loop's number
chosen_number : (n : ℕ) (a b c : ℤ) (r : KnownRange) (x y : Bool) →
    (if x then None else if y then None else Some (record { number = n; least = a; width = unsigned_abs (b -ℤ a) - unsigned_abs (b -ℤ a) % unsigned_abs c })) ≡ Some r → r.number ≡ n
chosen_number n a b c r true y e = cc
chosen_number n a b c r false true e = cc
chosen_number n a b c r false false e =
    let s : KnownRange = record { number = n; least = a; width = unsigned_abs (b -ℤ a) - unsigned_abs (b -ℤ a) % unsigned_abs c } in
    let j : s ≡ r = cc in
    sym (ap (λ (q : KnownRange). q.number) j)

its_number : (n : ℕ) (x y z : Option ℤ) (r : KnownRange) → range_by n x y z ≡ Some r → r.number ≡ n
its_number n (Some a) (Some b) (Some c) r e = chosen_number n a b c r (int_lt b a) (int_le c (pos 0)) e
its_number n None y z r e = cc
its_number n (Some a) None z r e = cc
its_number n (Some a) (Some b) None r e = cc

abbrev HasNumber : ℕ → Option KnownRange → Type 0
HasNumber n o = (r : KnownRange) → o ≡ Some r → r.number ≡ n

listed_between : (n : ℕ) (o : Option KnownRange) → HasNumber n o → Between n (suc n) (listed o)
listed_between n None h = tt
listed_between n (Some r) h = let e = h r refl in (omega (arith, e), omega (arith, e), tt)

same_number : (r n : ℕ) → r ≡ n → nat_eq r n ≡ true
same_number r n e = grind (arith, nat_tests, e)

its_own : (n m : ℕ) (o : Option KnownRange) (rs : List KnownRange) → HasNumber n o → Between (suc n) m rs → range_of (listed o ++ rs) n ≡ o
its_own n m None rs h g = before_all (suc n) m n rs (omega arith) g
its_own n m (Some r) rs h g = ap (λ b. if b then Some r else range_of rs n) (same_number r.number n (h r refl))

mutual
  ranges_between : (n m : ℕ) (s : Statement) → RunsBy n m s → Between n m (ranges_by s)
  ranges_between n m (assignment line atomic p e) h = tt
  ranges_between n m (branch line arms other) h =
      between_joined n h.0 m (ranges_in_arms arms) (ranges_in other) (order_through n h.0 arms h.1) (order_in h.0 m other h.2) (ranges_between_arms n h.0 arms h.1) (ranges_between_all h.0 m other h.2)
  ranges_between n m (loop line number directive var low high step body) h =
      let e = h.0 in
      let own = loop_range number low high step in
      between_joined n (suc n) m (listed own) (ranges_in body) (omega arith) (order_in (suc n) m body h.1)
      (listed_between n own (λ r i. its_number number (signed_number low) (signed_number high) (step_number step) r i ∙ e)) (ranges_between_all (suc n) m body h.1)

  ranges_between_all : (n m : ℕ) (ss : Statements) → RunsIn n m ss → Between n m (ranges_in ss)
  ranges_between_all n m no_statements h = tt
  ranges_between_all n m (statement s ss) h =
      between_joined n h.0 m (ranges_by s) (ranges_in ss) (order_by n h.0 s h.1) (order_in h.0 m ss h.2) (ranges_between n h.0 s h.1) (ranges_between_all h.0 m ss h.2)

  ranges_between_arms : (n m : ℕ) (arms : Arms) → RunsThrough n m arms → Between n m (ranges_in_arms arms)
  ranges_between_arms n m no_arms h = tt
  ranges_between_arms n m (arm test body arms) h =
      between_joined n h.0 m (ranges_in body) (ranges_in_arms arms) (order_in n h.0 body h.1) (order_through h.0 m arms h.2) (ranges_between_all n h.0 body h.1) (ranges_between_arms h.0 m arms h.2)

-- ---- what is found by number

-- from n on and below m it is what the list has
abbrev FindsIn : (ℕ → Option KnownRange) → (n m : ℕ) → List KnownRange → Type 0
FindsIn range n m rs = (k : ℕ) → n ≤ k → k < m → range k ≡ range_of rs k

module _ (range : ℕ → Option KnownRange) where
  finds_first : (n k m : ℕ) (rs qs : List KnownRange) → k ≤ m → Between k m qs → FindsIn range n m (rs ++ qs) → FindsIn range n k rs
  finds_first n k m rs qs i h f l a b = f l a (omega (arith, i, b)) ∙ in_first k m l rs qs b h

  finds_second : (n k m : ℕ) (rs qs : List KnownRange) → n ≤ k → Between n k rs → FindsIn range n m (rs ++ qs) → FindsIn range k m qs
  finds_second n k m rs qs i h f l a b = f l (omega (arith, i, a)) b ∙ in_second n k l rs qs a h

  mutual
    numbered_by : (n m : ℕ) (s : Statement) → RunsBy n m s → FindsIn range n m (ranges_by s) → IsNumbered range s
    numbered_by n m (assignment line atomic p e) h f = tt
    numbered_by n m (branch line arms other) h f = (
      numbered_through n h.0 arms h.1 (finds_first n h.0 m (ranges_in_arms arms) (ranges_in other) (order_in h.0 m other h.2) (ranges_between_all h.0 m other h.2) f),
      numbered_in h.0 m other h.2 (finds_second n h.0 m (ranges_in_arms arms) (ranges_in other) (order_through n h.0 arms h.1) (ranges_between_arms n h.0 arms h.1) f),
    )
    numbered_by n m (loop line number directive var low high step body) h f =
        let e = h.0 in
        let o = order_in (suc n) m body h.1 in
        let own = loop_range number low high step in
        let its : HasNumber n own = (λ r i. its_number number (signed_number low) (signed_number high) (step_number step) r i ∙ e) in
        let found : range number ≡ own = ap range e ∙ (f n (omega arith) (omega (arith, o)) ∙ its_own n m own (ranges_in body) its (ranges_between_all (suc n) m body h.1)) in (
          none_in number (suc n) m body (omega (arith, e)) h.1,
          (λ r i. sym found ∙ i),
          numbered_in (suc n) m body h.1 (finds_second n (suc n) m (listed own) (ranges_in body) (omega arith) (listed_between n own its) f),
        )

    numbered_in : (n m : ℕ) (ss : Statements) → RunsIn n m ss → FindsIn range n m (ranges_in ss) → AreNumbered range ss
    numbered_in n m no_statements h f = tt
    numbered_in n m (statement s ss) h f = (
      numbered_by n h.0 s h.1 (finds_first n h.0 m (ranges_by s) (ranges_in ss) (order_in h.0 m ss h.2) (ranges_between_all h.0 m ss h.2) f),
      numbered_in h.0 m ss h.2 (finds_second n h.0 m (ranges_by s) (ranges_in ss) (order_by n h.0 s h.1) (ranges_between n h.0 s h.1) f),
    )

    numbered_through : (n m : ℕ) (arms : Arms) → RunsThrough n m arms → FindsIn range n m (ranges_in_arms arms) → AreNumberedArms range arms
    numbered_through n m no_arms h f = tt
    numbered_through n m (arm test body arms) h f = (
      numbered_in n h.0 body h.1 (finds_first n h.0 m (ranges_in body) (ranges_in_arms arms) (order_through h.0 m arms h.2) (ranges_between_arms h.0 m arms h.2) f),
      numbered_through h.0 m arms h.2 (finds_second n h.0 m (ranges_in body) (ranges_in_arms arms) (order_in n h.0 body h.1) (ranges_between_all n h.0 body h.1) f),
    )

-- ---- parallel loops

abbrev Running : Statements → Type 0
Running ss = (n : ℕ) × (m : ℕ) × RunsIn n m ss

mutual
  running_by : (outer : List (List ℕ)) (n m : ℕ) (s : Statement) (l : HeadedLoop) → RunsBy n m s → In l (headed_loops outer s) → Running l.loop.body
  running_by outer n m (assignment line atomic p e) l h i = absurd i
  running_by outer n m (branch line arms other) l h i =
      by_side (Running l.loop.body) (split l (headed_loops_of_arms outer arms) (headed_loops_of_all outer other) i) (λ a. running_through outer n h.0 arms l h.1 a) (λ b. running_in outer h.0 m other l h.2 b)
  running_by outer n m (loop line number None var low high step body) l h i = running_in (var ∷ outer) (suc n) m body l h.1 i
  running_by outer n m (loop line number (Some d) var low high step body) l h (inl i) = subst Running (ap (λ (k : HeadedLoop). k.loop.body) i) (suc n, m, h.1)
  running_by outer n m (loop line number (Some d) var low high step body) l h (inr i) = running_in (var ∷ outer) (suc n) m body l h.1 i

  running_in : (outer : List (List ℕ)) (n m : ℕ) (ss : Statements) (l : HeadedLoop) → RunsIn n m ss → In l (headed_loops_of_all outer ss) → Running l.loop.body
  running_in outer n m no_statements l h i = absurd i
  running_in outer n m (statement s ss) l h i =
      by_side (Running l.loop.body) (split l (headed_loops outer s) (headed_loops_of_all outer ss) i) (λ a. running_by outer n h.0 s l h.1 a) (λ b. running_in outer h.0 m ss l h.2 b)

  running_through : (outer : List (List ℕ)) (n m : ℕ) (arms : Arms) (l : HeadedLoop) → RunsThrough n m arms → In l (headed_loops_of_arms outer arms) → Running l.loop.body
  running_through outer n m no_arms l h i = absurd i
  running_through outer n m (arm test body arms) l h i =
      by_side (Running l.loop.body) (split l (headed_loops_of_all outer body) (headed_loops_of_arms outer arms) i) (λ a. running_in outer n h.0 body l h.1 a) (λ b. running_through outer h.0 m arms l h.2 b)

running_inner : (ss : Statements) → Running ss → Running (inner_body ss)
running_inner no_statements h = h
running_inner (statement (assignment line atomic p e) ss) h = (0, 0, omega arith)
running_inner (statement (branch line arms other) ss) h = (0, 0, omega arith)
running_inner (statement (loop line number directive var low high step body) ss) h = (suc h.0, h.2.0, h.2.1.1)

running_iteration : (b : Bool) (ss : Statements) → Running ss → Running (if b then inner_body ss else ss)
running_iteration true ss h = running_inner ss h
running_iteration false ss h = h

numbered_running : (ss : Statements) → Running ss → AreNumbered (λ n. range_of (ranges_in ss) n) ss
numbered_running ss h = numbered_in (λ n. range_of (ranges_in ss) n) h.0 h.1 ss h.2 (λ k i j. refl)

-- in each parallel loop of a tree
pub loops_numbered : (ss : Statements) → counts_up_from 1 (loop_numbers_of_all ss) ≡ true → (l : HeadedLoop) → In l (headed_loops_of_all [] ss) →
    AreNumbered (λ n. range_of (ranges_in (inside l)) n) (inside l)
loops_numbered ss h l i =
    numbered_running (inside l)
    (running_iteration (is_nest l.loop.directive l.loop.body) l.loop.body (running_in [] 1 (1 + length (loop_numbers_of_all ss)) ss l (runs_in 1 (1 + length (loop_numbers_of_all ss)) ss refl h) i))

pub readable_numbered : (p : Program) → IsReadable p → (l : HeadedLoop) → In l (headed_loops_of_all [] (stmt_trees p.body)) → AreNumbered (λ n. range_of (ranges_in (inside l)) n) (inside l)
readable_numbered p h l i = loops_numbered (stmt_trees p.body) h.numbered l i

-- a loop that is found is one of them
found_first : (b : Bool) (k l : HeadedLoop) (ls : List HeadedLoop) (o : Option HeadedLoop) → (o ≡ Some l → In l ls) → (if b then Some k else o) ≡ Some l → In l (k ∷ ls)
found_first true k l ls o f e = let i : k ≡ l = cc in inl i
found_first false k l ls o f e = inr (f e)

found_is_in : (p : HeadedLoop → Bool) (ls : List HeadedLoop) (l : HeadedLoop) → find p ls ≡ Some l → In l ls
found_is_in p [] l h = cc
found_is_in p (k ∷ ls) l h = found_first (p k) k l ls (find p ls) (λ e. found_is_in p ls l e) h

pub loop_is_in : (ss : Statements) (number : ℕ) (l : HeadedLoop) → headed_loop ss number ≡ Some l → In l (headed_loops_of_all [] ss)
loop_is_in ss number l h = found_is_in (λ (k : HeadedLoop). nat_eq k.loop.number number) (headed_loops_of_all [] ss) l h
