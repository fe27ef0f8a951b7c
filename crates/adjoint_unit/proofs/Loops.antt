-- The loops of statements, one after the other.
use Rattle.std.proofs.Common.{◌≡◌, ℕ, Bool, ◌||◌, List, [], ◌∷◌, ◌++◌, Option, Some, None, refl, ap, sym, ◌∙◌}
use Rattle.std.specs.List.{list_any}
use Rattle.std.proofs.lemmas.List.Folds.{list_any-append}
use Rattle.fl_ast.specs.Tree.{Statement, assignment, branch, loop, Statements, no_statements, statement, Arms, no_arms, arm}
use Rattle.fl_types.specs.Sharing.{is_private, sharing_in, loops_of, loops_of_all, loops_of_arms}
use Rattle.adjoint_rules.specs.Declarations.{is_private_in}
use Rattle.adjoint_unit.specs.Privates.{is_private_within, is_private_in_all, is_private_in_arms}

mutual
  within_is : (x : List ℕ) (outer : List (List ℕ)) (s : Statement) → is_private_within x s ≡ list_any (is_private_in x) (loops_of outer s)
  within_is x outer (assignment line atomic target value) = refl
  within_is x outer (branch line arms other) =
      rw (list_any-append (is_private_in x) (loops_of_arms outer arms) (loops_of_all outer other), arms_are x outer arms, all_are x outer other) refl
  within_is x outer (loop line number None var first last step body) = all_are x (var ∷ outer) body
  within_is x outer (loop line number (Some directive) var first last step body) = ap (λ b. is_private (sharing_in var directive body x) || b) (all_are x (var ∷ outer) body)

  all_are : (x : List ℕ) (outer : List (List ℕ)) (ss : Statements) → is_private_in_all x ss ≡ list_any (is_private_in x) (loops_of_all outer ss)
  all_are x outer no_statements = refl
  all_are x outer (statement s ss) = rw (list_any-append (is_private_in x) (loops_of outer s) (loops_of_all outer ss), within_is x outer s, all_are x outer ss) refl

  arms_are : (x : List ℕ) (outer : List (List ℕ)) (arms : Arms) → is_private_in_arms x arms ≡ list_any (is_private_in x) (loops_of_arms outer arms)
  arms_are x outer no_arms = refl
  arms_are x outer (arm test body arms) = rw (list_any-append (is_private_in x) (loops_of_all outer body) (loops_of_arms outer arms), all_are x outer body, arms_are x outer arms) refl

pub private_in_all_is : (x : List ℕ) (ss : Statements) → is_private_in_all x ss ≡ list_any (is_private_in x) (loops_of_all [] ss)
private_in_all_is x ss = all_are x [] ss
