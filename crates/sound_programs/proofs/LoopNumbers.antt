-- Parallel loops of a readable program have numbers of their own.
use Rattle.std.proofs.Common.{◌≡◌, ◌⊎◌, inl, inr, ℕ, suc, ◌+◌, ◌<◌, ◌≤◌, true, List, [], ◌∷◌, ◌++◌, length, Some, None, refl, ap, sym, subst, ◌∙◌, length-append, arith}
use Rattle.std.specs.Prelude.{◌==◌}
use Rattle.std.proofs.lemmas.Bool.{and_parts, and_from, eqb-true}
use Rattle.fl_ast.specs.Measures.{loop_numbers, loop_numbers_of_all, loop_numbers_of_arms}
use Rattle.fl_ast.specs.Readable.{counts_up_from}
use Rattle.fl_ast.specs.Tree.{Statement, assignment, branch, loop, Statements, no_statements, statement, Arms, no_arms, arm}
use Rattle.fl_types.specs.Sharing.{ParallelLoop, loops_of, loops_of_all, loops_of_arms}
use Rattle.reachability.specs.Reached.{IsAmong}

pub either_among : {X : Type 0} (xs ys : List X) (x : X) → IsAmong (xs ++ ys) x → IsAmong xs x ⊎ IsAmong ys x
either_among [] ys x h = inr h
either_among (z ∷ xs) ys x (inl e) = inl (inl e)
either_among (z ∷ xs) ys x (inr h) = later (either_among xs ys x h)
  where
    later : IsAmong xs x ⊎ IsAmong ys x → IsAmong (z ∷ xs) x ⊎ IsAmong ys x
    later (inl k) = inl (inr k)
    later (inr k) = inr k

counts_both : (n : ℕ) (xs ys : List ℕ) → counts_up_from n (xs ++ ys) ≡ true
    → (counts_up_from n xs ≡ true) × (counts_up_from (n + length xs) ys ≡ true)
counts_both n [] ys h = (refl, subst (λ m. counts_up_from m ys ≡ true) (omega arith) h)
counts_both n (x ∷ xs) ys h =
    let q = and_parts (x == n) (counts_up_from (suc n) (xs ++ ys)) h in
    let r = counts_both (suc n) xs ys q.1 in
    (and_from (x == n) (counts_up_from (suc n) xs) q.0 r.0, subst (λ m. counts_up_from m ys ≡ true) (omega arith) r.1)

-- the loops' numbers are among these, and each is of one loop
pub record Numbered (n m : ℕ) (ls : List ParallelLoop) : Type 0 where
  pub least : (l : ParallelLoop) → IsAmong ls l → n ≤ l.number
  pub below : (l : ParallelLoop) → IsAmong ls l → l.number < m
  pub one : (l k : ParallelLoop) → IsAmong ls l → IsAmong ls k → l.number ≡ k.number → l ≡ k

none_numbered : (n m : ℕ) → Numbered n m []
none_numbered n m = record { least = λ l h. absurd h; below = λ l h. absurd h; one = λ l k h g e. absurd h }

both_numbered : (n m o : ℕ) (xs ys : List ParallelLoop) → n ≤ m → m ≤ o → Numbered n m xs → Numbered m o ys → Numbered n o (xs ++ ys)
both_numbered n m o xs ys a b h k = record {
  least = λ l i. least l (either_among xs ys l i);
  below = λ l i. below l (either_among xs ys l i);
  one = λ l j i g e. one l j (either_among xs ys l i) (either_among xs ys j g) e;
}
  where
    least : (l : ParallelLoop) → IsAmong xs l ⊎ IsAmong ys l → n ≤ l.number
    least l (inl i) = h.least l i
    least l (inr i) = let c : m ≤ l.number = k.least l i in omega arith

    below : (l : ParallelLoop) → IsAmong xs l ⊎ IsAmong ys l → l.number < o
    below l (inl i) = let c : l.number < m = h.below l i in omega arith
    below l (inr i) = k.below l i

    one : (l j : ParallelLoop) → IsAmong xs l ⊎ IsAmong ys l → IsAmong xs j ⊎ IsAmong ys j → l.number ≡ j.number → l ≡ j
    one l j (inl i) (inl g) e = h.one l j i g e
    one l j (inl i) (inr g) e =
        let c : l.number < m = h.below l i in
        let d : m ≤ j.number = k.least j g in
        absurd (omega arith)
    one l j (inr i) (inl g) e =
        let c : m ≤ l.number = k.least l i in
        let d : j.number < m = h.below j g in
        absurd (omega arith)
    one l j (inr i) (inr g) e = k.one l j i g e

-- a loop before those in it
first_numbered : (n m : ℕ) (l : ParallelLoop) (ls : List ParallelLoop) → l.number ≡ n → n < m → Numbered (suc n) m ls → Numbered n m (l ∷ ls)
first_numbered n m l ls e b h = record { least = least; below = below; one = one }
  where
    least : (j : ParallelLoop) → IsAmong (l ∷ ls) j → n ≤ j.number
    least j (inl i) = let c : l.number ≡ j.number = ap (λ (q : ParallelLoop). q.number) i in omega arith
    least j (inr i) = let c : suc n ≤ j.number = h.least j i in omega arith

    below : (j : ParallelLoop) → IsAmong (l ∷ ls) j → j.number < m
    below j (inl i) = let c : l.number ≡ j.number = ap (λ (q : ParallelLoop). q.number) i in omega arith
    below j (inr i) = h.below j i

    one : (j k : ParallelLoop) → IsAmong (l ∷ ls) j → IsAmong (l ∷ ls) k → j.number ≡ k.number → j ≡ k
    one j k (inl i) (inl g) f = sym i ∙ g
    one j k (inl i) (inr g) f =
        let c : l.number ≡ j.number = ap (λ (q : ParallelLoop). q.number) i in
        let d : suc n ≤ k.number = h.least k g in
        absurd (omega arith)
    one j k (inr i) (inl g) f =
        let c : l.number ≡ k.number = ap (λ (q : ParallelLoop). q.number) g in
        let d : suc n ≤ j.number = h.least j i in
        absurd (omega arith)
    one j k (inr i) (inr g) f = h.one j k i g f

wider : (n o m : ℕ) (ls : List ParallelLoop) → n ≤ o → Numbered o m ls → Numbered n m ls
wider n o m ls a h = record { least = λ l i. (let c : o ≤ l.number = h.least l i in omega arith); below = h.below; one = h.one }

two_parts : (n : ℕ) (xs ys : List ℕ) (ls ks : List ParallelLoop) → Numbered n (n + length xs) ls
    → Numbered (n + length xs) ((n + length xs) + length ys) ks → Numbered n (n + length (xs ++ ys)) (ls ++ ks)
two_parts n xs ys ls ks h k =
    subst (λ m. Numbered n m (ls ++ ks)) (omega (arith, length-append xs ys))
    (both_numbered n (n + length xs) ((n + length xs) + length ys) ls ks (omega arith) (omega arith) h k)

mutual
  numbered_one : (s : Statement) (outer : List (List ℕ)) (n : ℕ) → counts_up_from n (loop_numbers s) ≡ true
      → Numbered n (n + length (loop_numbers s)) (loops_of outer s)
  numbered_one (assignment line atomic p e) outer n h = none_numbered n _
  numbered_one (branch line arms other) outer n h =
      let q = counts_both n (loop_numbers_of_arms arms) (loop_numbers_of_all other) h in
      two_parts n (loop_numbers_of_arms arms) (loop_numbers_of_all other) (loops_of_arms outer arms) (loops_of_all outer other)
      (numbered_arms arms outer n q.0) (numbered_all other outer (n + length (loop_numbers_of_arms arms)) q.1)
  numbered_one (loop line number None var first last step body) outer n h =
      let q = and_parts (number == n) (counts_up_from (suc n) (loop_numbers_of_all body)) h in
      subst (λ m. Numbered n m (loops_of_all (var ∷ outer) body)) (omega arith)
      (wider n (suc n) (suc n + length (loop_numbers_of_all body)) (loops_of_all (var ∷ outer) body) (omega arith)
      (numbered_all body (var ∷ outer) (suc n) q.1))
  numbered_one (loop line number (Some d) var first last step body) outer n h =
      let q = and_parts (number == n) (counts_up_from (suc n) (loop_numbers_of_all body)) h in
      let l : ParallelLoop = record { line = line; number = number; outer = outer; directive = d; var = var; body = body } in
      first_numbered n (n + suc (length (loop_numbers_of_all body))) l (loops_of_all (var ∷ outer) body) (eqb-true number n q.0) (omega arith)
      (subst (λ m. Numbered (suc n) m (loops_of_all (var ∷ outer) body)) (omega arith) (numbered_all body (var ∷ outer) (suc n) q.1))

  pub numbered_all : (ss : Statements) (outer : List (List ℕ)) (n : ℕ) → counts_up_from n (loop_numbers_of_all ss) ≡ true
      → Numbered n (n + length (loop_numbers_of_all ss)) (loops_of_all outer ss)
  numbered_all no_statements outer n h = none_numbered n _
  numbered_all (statement s ss) outer n h =
      let q = counts_both n (loop_numbers s) (loop_numbers_of_all ss) h in
      two_parts n (loop_numbers s) (loop_numbers_of_all ss) (loops_of outer s) (loops_of_all outer ss) (numbered_one s outer n q.0)
      (numbered_all ss outer (n + length (loop_numbers s)) q.1)

  numbered_arms : (arms : Arms) (outer : List (List ℕ)) (n : ℕ) → counts_up_from n (loop_numbers_of_arms arms) ≡ true
      → Numbered n (n + length (loop_numbers_of_arms arms)) (loops_of_arms outer arms)
  numbered_arms no_arms outer n h = none_numbered n _
  numbered_arms (arm test body rest) outer n h =
      let q = counts_both n (loop_numbers_of_all body) (loop_numbers_of_arms rest) h in
      two_parts n (loop_numbers_of_all body) (loop_numbers_of_arms rest) (loops_of_all outer body) (loops_of_arms outer rest)
      (numbered_all body outer n q.0) (numbered_arms rest outer (n + length (loop_numbers_of_all body)) q.1)

-- two loops with one number are one
pub one_loop : (ss : Statements) (l k : ParallelLoop) → counts_up_from 1 (loop_numbers_of_all ss) ≡ true → IsAmong (loops_of_all [] ss) l
    → IsAmong (loops_of_all [] ss) k → l.number ≡ k.number → l ≡ k
one_loop ss l k h = (numbered_all ss [] 1 h).one l k
