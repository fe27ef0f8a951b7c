-- The parallel loops among all loops.
use Rattle.std.proofs.Common.{◌≡◌, ℕ, List, [], ◌∷◌, ◌++◌, Option, Some, None, refl, ap, ◌∙◌}
use Rattle.fl_ast.specs.Tree.{Statement, assignment, branch, loop, Statements, no_statements, statement, Arms, no_arms, arm}
use Rattle.index_forms.specs.Loops.{HeadedLoop, headed_loops, headed_loops_of_all, headed_loops_of_arms}
use Rattle.loop_scenes.specs.Loops.{loops_by, loops_by_all, loops_by_arms, parallel_among}

two : (a b : List (Option HeadedLoop)) → parallel_among (a ++ b) ≡ parallel_among a ++ parallel_among b
two [] b = refl
two (None ∷ a) b = two a b
two (Some l ∷ a) b = ap (λ (r : List HeadedLoop). l ∷ r) (two a b)

both : (a b : List (Option HeadedLoop)) (l m : List HeadedLoop) → parallel_among a ≡ l → parallel_among b ≡ m → parallel_among (a ++ b) ≡ l ++ m
both a b l m e d = two a b ∙ (ap (λ (r : List HeadedLoop). r ++ parallel_among b) e ∙ ap (λ (r : List HeadedLoop). l ++ r) d)

mutual
  parallel_by : (outer : List (List ℕ)) (s : Statement) → parallel_among (loops_by outer s) ≡ headed_loops outer s
  parallel_by outer (assignment line atomic target value) = refl
  parallel_by outer (branch line arms other) =
      both (loops_by_arms outer arms) (loops_by_all outer other) (headed_loops_of_arms outer arms) (headed_loops_of_all outer other) (parallel_by_arms outer arms) (parallel_are outer other)
  parallel_by outer (loop line number None var first last step body) = parallel_are (var ∷ outer) body
  parallel_by outer (loop line number (Some directive) var first last step body) =
      ap (λ (r : List HeadedLoop).
      record {
        head = record { line = line; var = var; first = first; last = last; step = step };
        loop = record { line = line; number = number; outer = outer; directive = directive; var = var; body = body };
      }
      ∷ r) (parallel_are (var ∷ outer) body)

  pub parallel_are : (outer : List (List ℕ)) (ss : Statements) → parallel_among (loops_by_all outer ss) ≡ headed_loops_of_all outer ss
  parallel_are outer no_statements = refl
  parallel_are outer (statement s ss) = both (loops_by outer s) (loops_by_all outer ss) (headed_loops outer s) (headed_loops_of_all outer ss) (parallel_by outer s) (parallel_are outer ss)

  parallel_by_arms : (outer : List (List ℕ)) (arms : Arms) → parallel_among (loops_by_arms outer arms) ≡ headed_loops_of_arms outer arms
  parallel_by_arms outer no_arms = refl
  parallel_by_arms outer (arm test body arms) =
      both (loops_by_all outer body) (loops_by_arms outer arms) (headed_loops_of_all outer body) (headed_loops_of_arms outer arms) (parallel_are outer body) (parallel_by_arms outer arms)
