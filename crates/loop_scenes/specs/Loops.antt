-- All loops of a tree, in textual order, so that each stands at its number.
use Rattle.std.specs.Prelude.{ℕ, List, [], ◌∷◌, ◌++◌, Option, Some, None}
use Rattle.fl_ast.specs.Tree.{Statement, assignment, branch, loop, Statements, no_statements, statement, Arms, no_arms, arm}
use Rattle.index_forms.specs.Loops.{HeadedLoop}

-- for each loop whether it is parallel, and then the loop with its head
abbrev mutual
  pub loops_by : List (List ℕ) → Statement → List (Option HeadedLoop)
  loops_by outer (assignment line atomic target value) = []
  loops_by outer (branch line arms other) = loops_by_arms outer arms ++ loops_by_all outer other
  loops_by outer (loop line number None var first last step body) = None ∷ loops_by_all (var ∷ outer) body
  loops_by outer (loop line number (Some directive) var first last step body) =
      Some (record {
        head = record { line = line; var = var; first = first; last = last; step = step };
        loop = record { line = line; number = number; outer = outer; directive = directive; var = var; body = body };
      })
      ∷ loops_by_all (var ∷ outer) body

  pub loops_by_all : List (List ℕ) → Statements → List (Option HeadedLoop)
  loops_by_all outer no_statements = []
  loops_by_all outer (statement s ss) = loops_by outer s ++ loops_by_all outer ss

  pub loops_by_arms : List (List ℕ) → Arms → List (Option HeadedLoop)
  loops_by_arms outer no_arms = []
  loops_by_arms outer (arm test body arms) = loops_by_all outer body ++ loops_by_arms outer arms

-- the parallel ones
abbrev pub parallel_among : List (Option HeadedLoop) → List HeadedLoop
parallel_among [] = []
parallel_among (None ∷ ls) = parallel_among ls
parallel_among (Some l ∷ ls) = l ∷ parallel_among ls
