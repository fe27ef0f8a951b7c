-- The accesses of a spot have its path.
use Rattle.std.proofs.Common.{◌≡◌, ℕ, ◌+◌, List, [], ◌∷◌, ◌++◌, length, subst}
use mathlib.Core.Logic.{inl, inr}
use Rattle.fl_ast.specs.Tree.{Statement, assignment, branch, loop, Statements, no_statements, statement, Arms, no_arms, arm}
use Rattle.fl_types.specs.declared.access.PathStep.{PathStep}
use Rattle.fl_types.specs.declared.access.PathStep.TheVariants.{Arm, Body}
use Rattle.fl_types.specs.Increment.{increment_terms}
use Rattle.fl_types.specs.Accesses.{Occurrence, condition_reads, accesses, accesses_all, statement_count, statements_count, test_path}
use Rattle.index_forms.specs.Formed.{Known}
use Rattle.index_forms.specs.Loops.{written_in}
use Rattle.index_forms.specs.Walk.{Setting, without, known_after, known_inside}
use Rattle.index_law.specs.Meetings.{In}
use Rattle.index_law.proofs.GroupKeys.{split, by_side}
use Rattle.index_law.proofs.Shapes.{assignment_path, condition_path, bounds_path}
use Rattle.apart_law.specs.Spots.{Spot, Rest, bounds_accesses, spots_of, spots_in, spots_in_arms}

abbrev HaveItsPath : Spot → Type 0
HaveItsPath x = (o : Occurrence) → In o x.accesses → o.path ≡ x.path

module _ (c : Setting) where
  mutual
    paths_of : (n : ℕ) (k : Known) (path : List PathStep) (a : ℕ) (s : Statement) (x : Spot) → In x (spots_of c n k path a s) → HaveItsPath x
    paths_of n k path a (assignment line atomic p e) x (inl d) = subst HaveItsPath d (λ o i. assignment_path c.scope line path atomic p e (increment_terms c.scope.ring p e) o i)
    paths_of n k path a (assignment line atomic p e) x (inr d) = absurd d
    paths_of n k path a (branch line arms other) x i = paths_of_arms line n (n + 1) 0 k path a arms (λ j h steps b. spots_in c j h steps b other) (λ j h steps b y m. paths_of_all j h steps b other y m) x i
    paths_of n k path a (loop line number directive var low high step body) x (inl d) = subst HaveItsPath d (λ o i. bounds_path c.scope line path low high step o i)
    paths_of n k path a (loop line number directive var low high step body) x (inr i) =
        paths_of_all (n + 1) (known_inside c.side number var body k) (path ++ Body n ∷ []) (a + length (bounds_accesses c.scope line path low high step)) body x i

    paths_of_all : (n : ℕ) (k : Known) (path : List PathStep) (a : ℕ) (ss : Statements) (x : Spot) → In x (spots_in c n k path a ss) → HaveItsPath x
    paths_of_all n k path a no_statements x i = absurd i
    paths_of_all n k path a (statement s ss) x i =
        by_side (HaveItsPath x) (split x (spots_of c n k path a s) (spots_in c (n + statement_count s) (known_after c.side n s k) path (a + length (accesses c.scope n path s)) ss) i)
        (λ m. paths_of n k path a s x m) (λ m. paths_of_all (n + statement_count s) (known_after c.side n s k) path (a + length (accesses c.scope n path s)) ss x m)

    paths_of_arms : (line n j m : ℕ) (k : Known) (path : List PathStep) (a : ℕ) (arms : Arms) (other : Rest) → ((i : ℕ) (h : Known) (steps : List PathStep) (b : ℕ) (x : Spot) → In x (other i h steps b) → HaveItsPath x) →
        (x : Spot) → In x (spots_in_arms c line n j m k path a arms other) → HaveItsPath x
    paths_of_arms line n j m k path a no_arms other f x i = f j k (path ++ Arm n m ∷ []) a x i
    paths_of_arms line n j m k path a (arm test body arms) other f x (inl d) = subst HaveItsPath d (λ o i. condition_path c.scope line (test_path path n m) test o i)
    paths_of_arms line n j m k path a (arm test body arms) other f x (inr i) =
        let tests = condition_reads c.scope line (test_path path n m) test in
        let inner = accesses_all c.scope j (path ++ Arm n m ∷ []) body in
        by_side (HaveItsPath x)
        (split x (spots_in c j k (path ++ Arm n m ∷ []) (a + length tests) body) (spots_in_arms c line n (j + statements_count body) (m + 1) (without (written_in body) k) path (a + length tests + length inner) arms other) i)
        (λ w. paths_of_all j k (path ++ Arm n m ∷ []) (a + length tests) body x w)
        (λ w. paths_of_arms line n (j + statements_count body) (m + 1) (without (written_in body) k) path (a + length tests + length inner) arms other f x w)

  pub spot_paths : (n : ℕ) (k : Known) (path : List PathStep) (a : ℕ) (ss : Statements) (x : Spot) → In x (spots_in c n k path a ss) → (o : Occurrence) → In o x.accesses → o.path ≡ x.path
  spot_paths n k path a ss x i o h = paths_of_all n k path a ss x i o h
