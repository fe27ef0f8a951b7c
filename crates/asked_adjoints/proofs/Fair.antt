-- Choices are made for names that iterations share, so that no private name has one.
use Rattle.std.proofs.Common.{◌≡◌, ℕ, suc, ◌+◌, ◌≤◌, Bool, true, false, not, ◌&&◌, if◌then◌else◌, List, [], ◌∷◌, ◌++◌, length, map, flat_map, nat_eq, bytes_eq, Some, None, refl, sym, subst, ◌∙◌, length-append, arith}
use Rattle.std.specs.Prelude.{◌==◌}
use Rattle.std.specs.List.{list_any}
use Rattle.std.proofs.lemmas.Bool.{and_parts, and_from, or_from, not_from_false}
use Rattle.std.proofs.lemmas.List.Folds.{list_any-append}
use Rattle.std.proofs.lemmas.Bool.Decides.{nat_tests}
use Rattle.std.proofs.lemmas.Slice.Eq.{bytes_eq-Decides}
use Rattle.fl_ast.specs.declared.decl.Decl.{Decl}
use Rattle.fl_ast.specs.Tree.{Statement, assignment, branch, loop, Statements, no_statements, statement, Arms, no_arms, arm, stmt_trees}
use Rattle.fl_ast.specs.Measures.{loop_numbers, loop_numbers_of_all, loop_numbers_of_arms}
use Rattle.fl_ast.specs.Readable.{counts_up_from}
use Rattle.fl_types.specs.declared.choice.Choice.{Choice}
use Rattle.fl_types.specs.declared.choice.Chosen.{Chosen}
use Rattle.fl_types.specs.declared.sharing.Sharing.{Sharing}
use Rattle.fl_types.specs.declared.sharing.Sharing.TheVariants.{Shared, Private, First, Plus, LoopVar}
use Rattle.fl_types.specs.Sharing.{sharing_in, is_private, ParallelLoop, loops_of, loops_of_all, loops_of_arms}
use Rattle.adjoint_rules.specs.Needed.{Kinds, kinds_of}
use Rattle.adjoint_rules.specs.Scopes.{has_choice, is_reduction}
use Rattle.readable_adjoints.specs.Fitting.{is_fair_loop, is_fair, are_fair, are_fair_arms}
use Rattle.readable_adjoints.proofs.Every.{Every, every_any, every_both, every_is, every_left, every_right, told_every}
use Rattle.readable_adjoints.proofs.Named.{counts_left, counts_right, head_is}
use Rattle.adjoint_choices.specs.Choosing.{grows_in, has_a_choice, chosen_for, choices_for, active_names, choices_of}
use Rattle.asked_adjoints.specs.Asked.{ChoicesAreFair}

-- ---- loops have numbers of their own

-- the numbers rise from k, and stay below m
abbrev Rising : ℕ → ℕ → List ParallelLoop → Type 0
Rising k m [] = k ≤ m
Rising k m (l ∷ ls) = (k ≤ l.number) × Rising (suc l.number) m ls

rising_order : (k m : ℕ) (ls : List ParallelLoop) → Rising k m ls → k ≤ m
rising_order k m [] h = h
rising_order k m (l ∷ ls) h =
    let a = h.0 in
    let b = rising_order (suc l.number) m ls h.1 in
    omega (arith, a, b)

rising_from : (j k m : ℕ) (ls : List ParallelLoop) → j ≤ k → Rising k m ls → Rising j m ls
rising_from j k m [] a h = omega (arith, a, h)
rising_from j k m (l ∷ ls) a h = let b = h.0 in (omega (arith, a, b), h.1)

rising_append : (k m n : ℕ) (xs ys : List ParallelLoop) → Rising k m xs → Rising m n ys → Rising k n (xs ++ ys)
rising_append k m n [] ys h r = rising_from k m n ys h r
rising_append k m n (x ∷ xs) ys h r = (h.0, rising_append (suc x.number) m n xs ys h.1 r)

-- two parts of a tree
two_rising : (k m : ℕ) (xs ys : List ℕ) (as_ bs : List ParallelLoop) → m ≡ k + length (xs ++ ys) → Rising k (k + length xs) as_ → Rising (k + length xs) (k + length xs + length ys) bs → Rising k m (as_ ++ bs)
two_rising k m xs ys as_ bs e h r =
    subst (λ (n : ℕ). Rising k n (as_ ++ bs)) (omega (arith, e, length-append xs ys)) (rising_append k (k + length xs) (k + length xs + length ys) as_ bs h r)

mutual
  rising_in : (s : Statement) (outer : List (List ℕ)) (k m : ℕ) → m ≡ k + length (loop_numbers s) → counts_up_from k (loop_numbers s) ≡ true → Rising k m (loops_of outer s)
  rising_in (assignment line atomic p e) outer k m is h = omega (arith, is)
  rising_in (branch line as_ other) outer k m is h =
      two_rising k m (loop_numbers_of_arms as_) (loop_numbers_of_all other) (loops_of_arms outer as_) (loops_of_all outer other) is
      (rising_arms as_ outer k (k + length (loop_numbers_of_arms as_)) refl (counts_left k (loop_numbers_of_arms as_) (loop_numbers_of_all other) h))
      (rising_all other outer (k + length (loop_numbers_of_arms as_)) (k + length (loop_numbers_of_arms as_) + length (loop_numbers_of_all other)) refl
      (counts_right k (k + length (loop_numbers_of_arms as_)) (loop_numbers_of_arms as_) (loop_numbers_of_all other) refl h))
  rising_in (loop line number None var first last step body) outer k m is h =
      rising_from k (suc k) m (loops_of_all (var ∷ outer) body) (omega arith) (rising_all body (var ∷ outer) (suc k) m (omega (arith, is)) ((and_parts (number == k) (counts_up_from (suc k) (loop_numbers_of_all body)) h).1))
  rising_in (loop line number (Some d) var first last step body) outer k m is h =
      let own = head_is k number (loop_numbers_of_all body) h in (
        omega (arith, own),
        rising_from (suc number) (suc k) m (loops_of_all (var ∷ outer) body) (omega (arith, own))
            (rising_all body (var ∷ outer) (suc k) m (omega (arith, is)) ((and_parts (number == k) (counts_up_from (suc k) (loop_numbers_of_all body)) h).1)),
      )

  rising_all : (ss : Statements) (outer : List (List ℕ)) (k m : ℕ) → m ≡ k + length (loop_numbers_of_all ss) → counts_up_from k (loop_numbers_of_all ss) ≡ true → Rising k m (loops_of_all outer ss)
  rising_all no_statements outer k m is h = omega (arith, is)
  rising_all (statement s ss) outer k m is h =
      two_rising k m (loop_numbers s) (loop_numbers_of_all ss) (loops_of outer s) (loops_of_all outer ss) is
      (rising_in s outer k (k + length (loop_numbers s)) refl (counts_left k (loop_numbers s) (loop_numbers_of_all ss) h))
      (rising_all ss outer (k + length (loop_numbers s)) (k + length (loop_numbers s) + length (loop_numbers_of_all ss)) refl
      (counts_right k (k + length (loop_numbers s)) (loop_numbers s) (loop_numbers_of_all ss) refl h))

  rising_arms : (as_ : Arms) (outer : List (List ℕ)) (k m : ℕ) → m ≡ k + length (loop_numbers_of_arms as_) → counts_up_from k (loop_numbers_of_arms as_) ≡ true → Rising k m (loops_of_arms outer as_)
  rising_arms no_arms outer k m is h = omega (arith, is)
  rising_arms (arm test body rest) outer k m is h =
      two_rising k m (loop_numbers_of_all body) (loop_numbers_of_arms rest) (loops_of_all outer body) (loops_of_arms outer rest) is
      (rising_all body outer k (k + length (loop_numbers_of_all body)) refl (counts_left k (loop_numbers_of_all body) (loop_numbers_of_arms rest) h))
      (rising_arms rest outer (k + length (loop_numbers_of_all body)) (k + length (loop_numbers_of_all body) + length (loop_numbers_of_arms rest)) refl
      (counts_right k (k + length (loop_numbers_of_all body)) (loop_numbers_of_all body) (loop_numbers_of_arms rest) refl h))

-- a loop of the list that has this number is this one
abbrev Only : ParallelLoop → ParallelLoop → Type 0
Only l i = nat_eq i.number l.number ≡ true → i ≡ l

unlike : (a b : ℕ) → (a ≡ b → ⊥) → nat_eq a b ≡ true → ⊥
unlike a b f h = f (grind (arith, nat_tests))

later : (l : ParallelLoop) (k m : ℕ) (ls : List ParallelLoop) → suc l.number ≤ k → Rising k m ls → Every (Only l) ls
later l k m [] a h = tt
later l k m (i ∷ ls) a h =
    let b = h.0 in
    (λ e. absurd (unlike i.number l.number (λ (q : i.number ≡ l.number). absurd (omega (arith, a, b, q))) e), later l (suc i.number) m ls (omega (arith, a, b)) h.1)

earlier : (l : ParallelLoop) (k m : ℕ) (ls : List ParallelLoop) → suc l.number ≤ k → Rising k m ls → Every (λ i. Only i l) ls
earlier l k m [] a h = tt
earlier l k m (i ∷ ls) a h =
    let b = h.0 in
    (λ e. absurd (unlike l.number i.number (λ (q : l.number ≡ i.number). absurd (omega (arith, a, b, q))) e), earlier l (suc i.number) m ls (omega (arith, a, b)) h.1)

own_numbers : (k m : ℕ) (ls : List ParallelLoop) → Rising k m ls → Every (λ l. Every (Only l) ls) ls
own_numbers k m [] h = tt
own_numbers k m (l ∷ ls) h = (
  (λ e. refl, later l (suc l.number) m ls (omega arith) h.1),
  every_both (λ i. Only i l) (λ i. Every (Only i) ls) (λ i. Every (Only i) (l ∷ ls)) (λ i a b. (a, b)) ls (earlier l (suc l.number) m ls (omega arith) h.1) (own_numbers (suc l.number) m ls h.1),
)

-- ---- a private name has no choice

private_none : (s : Sharing) → is_private s ≡ true → has_a_choice s ≡ false
private_none Private h = refl
private_none Shared h = absurd (let g : false ≡ true = h in cc)
private_none First h = absurd (let g : false ≡ true = h in cc)
private_none Plus h = refl
private_none LoopVar h = refl

any_append : {A : Type 0} (t : A → Bool) (xs ys : List A) → list_any t xs ≡ false → list_any t ys ≡ false → list_any t (xs ++ ys) ≡ false
any_append t xs ys h k = list_any-append t xs ys ∙ or_from (list_any t xs) (list_any t ys) h k

-- the choice is for the loop with this number and this name
abbrev is_for : ℕ → List ℕ → Chosen → Bool
is_for number x c = nat_eq c.loop_number number && (bytes_eq c.name x && is_reduction c.choice)

unchosen_at : (number : ℕ) (x y : List ℕ) (l : ParallelLoop) (c : Choice) (b : Bool) → (nat_eq l.number number ≡ true → is_private (sharing_in l.var l.directive l.body x) ≡ true)
    → (b ≡ true → has_a_choice (sharing_in l.var l.directive l.body y) ≡ true) → list_any (is_for number x) (if b then record { loop_number = l.number; name = y; choice = c } ∷ [] else []) ≡ false
unchosen_at number x y l c false h k = refl
unchosen_at number x y l c true h k = or_from (nat_eq l.number number && (bytes_eq y x && is_reduction c)) false (at (nat_eq l.number number) (bytes_eq y x) refl refl) refl
  where
    at : (a b : Bool) → nat_eq l.number number ≡ a → bytes_eq y x ≡ b → (a && (b && is_reduction c)) ≡ false
    at false b e f = refl
    at true false e f = refl
    at true true e f =
        let same : y ≡ x = (bytes_eq-Decides y x).0 f in
        let none : has_a_choice (sharing_in l.var l.directive l.body x) ≡ false = private_none (sharing_in l.var l.directive l.body x) (h e) in
        let some : has_a_choice (sharing_in l.var l.directive l.body x) ≡ true = subst (λ (z : List ℕ). has_a_choice (sharing_in l.var l.directive l.body z) ≡ true) same (k refl) in
        absurd (let g : false ≡ true = sym none ∙ some in cc)

unchosen : (decls : List Decl) (k : Kinds) (number : ℕ) (x : List ℕ) (l : ParallelLoop) (names : List (List ℕ)) → (nat_eq l.number number ≡ true → is_private (sharing_in l.var l.directive l.body x) ≡ true)
    → list_any (is_for number x) (flat_map (choices_for decls k l) names) ≡ false
unchosen decls k number x l [] h = refl
unchosen decls k number x l (y ∷ names) h =
    any_append (is_for number x) (choices_for decls k l y) (flat_map (choices_for decls k l) names)
    (unchosen_at number x y l ((chosen_for decls l.number l.body y).choice) (has_a_choice (sharing_in l.var l.directive l.body y) && grows_in k y l.body) h
    (λ e. (and_parts (has_a_choice (sharing_in l.var l.directive l.body y)) (grows_in k y l.body) e).0))
    (unchosen decls k number x l names h)

unchosen_all : (decls : List Decl) (k : Kinds) (names : List (List ℕ)) (l : ParallelLoop) (x : List ℕ) (ls : List ParallelLoop) → is_private (sharing_in l.var l.directive l.body x) ≡ true → Every (Only l) ls
    → list_any (is_for l.number x) (flat_map (λ i. flat_map (choices_for decls k i) names) ls) ≡ false
unchosen_all decls k names l x [] p o = refl
unchosen_all decls k names l x (i ∷ ls) p o =
    any_append (is_for l.number x) (flat_map (choices_for decls k i) names) (flat_map (λ i. flat_map (choices_for decls k i) names) ls)
    (unchosen decls k l.number x i names (λ e. subst (λ (j : ParallelLoop). is_private (sharing_in j.var j.directive j.body x) ≡ true) (sym (o.0 e)) p)) (unchosen_all decls k names l x ls p o.1)

-- ---- loops in a tree and in the list of loops

abbrev IsFairLoop : List Chosen → List (List ℕ) → ParallelLoop → Type 0
IsFairLoop choices names l = is_fair_loop choices names l.number l.var l.directive l.body ≡ true

mutual
  fair_in : (choices : List Chosen) (names : List (List ℕ)) (s : Statement) (outer : List (List ℕ)) → Every (IsFairLoop choices names) (loops_of outer s) → is_fair choices names s ≡ true
  fair_in choices names (assignment line atomic p e) outer h = refl
  fair_in choices names (branch line as_ other) outer h =
      and_from (are_fair_arms choices names as_) (are_fair choices names other)
      (fair_arms choices names as_ outer (every_left (IsFairLoop choices names) (loops_of_arms outer as_) (loops_of_all outer other) h))
      (fair_all choices names other outer (every_right (IsFairLoop choices names) (loops_of_arms outer as_) (loops_of_all outer other) h))
  fair_in choices names (loop line number None var first last step body) outer h = fair_all choices names body (var ∷ outer) h
  fair_in choices names (loop line number (Some d) var first last step body) outer h =
      and_from (is_fair_loop choices names number var d body) (are_fair choices names body) h.0 (fair_all choices names body (var ∷ outer) h.1)

  fair_all : (choices : List Chosen) (names : List (List ℕ)) (ss : Statements) (outer : List (List ℕ)) → Every (IsFairLoop choices names) (loops_of_all outer ss) → are_fair choices names ss ≡ true
  fair_all choices names no_statements outer h = refl
  fair_all choices names (statement s ss) outer h =
      and_from (is_fair choices names s) (are_fair choices names ss)
      (fair_in choices names s outer (every_left (IsFairLoop choices names) (loops_of outer s) (loops_of_all outer ss) h))
      (fair_all choices names ss outer (every_right (IsFairLoop choices names) (loops_of outer s) (loops_of_all outer ss) h))

  fair_arms : (choices : List Chosen) (names : List (List ℕ)) (as_ : Arms) (outer : List (List ℕ)) → Every (IsFairLoop choices names) (loops_of_arms outer as_) → are_fair_arms choices names as_ ≡ true
  fair_arms choices names no_arms outer h = refl
  fair_arms choices names (arm test body rest) outer h =
      and_from (are_fair choices names body) (are_fair_arms choices names rest)
      (fair_all choices names body outer (every_left (IsFairLoop choices names) (loops_of_all outer body) (loops_of_arms outer rest) h))
      (fair_arms choices names rest outer (every_right (IsFairLoop choices names) (loops_of_all outer body) (loops_of_arms outer rest) h))

both_not : (p q : Bool) → (p ≡ true → q ≡ false) → not (p && q) ≡ true
both_not false q h = refl
both_not true q h = not_from_false q (h refl)

pub fair : ChoicesAreFair
unfolding choices_of
fair p active r =
    let ls = loops_of_all [] (stmt_trees p.body) in
    let k = kinds_of p active in
    let names = active_names p.decls active in
    let choices = flat_map (λ l. flat_map (choices_for p.decls k l) names) ls in
    let declared : List (List ℕ) = map (λ (d : Decl). d.name) p.decls in
    fair_all choices declared (stmt_trees p.body) []
    (every_is (λ l. Every (Only l) ls) (IsFairLoop choices declared)
    (λ l o. told_every (λ x. not (is_private (sharing_in l.var l.directive l.body x) && has_choice is_reduction choices l.number x)) declared
    (every_any (λ x. not (is_private (sharing_in l.var l.directive l.body x) && has_choice is_reduction choices l.number x) ≡ true)
    (λ x. both_not (is_private (sharing_in l.var l.directive l.body x)) (has_choice is_reduction choices l.number x) (λ e. unchosen_all p.decls k names l x ls e o)) declared))
    ls (own_numbers 1 (1 + length (loop_numbers_of_all (stmt_trees p.body))) ls (rising_all (stmt_trees p.body) [] 1 (1 + length (loop_numbers_of_all (stmt_trees p.body))) refl r.numbered)))
