-- Names that are private in some loop, by the statements. `private_in_all_is` says that this is so of the list of loops.
use Rattle.std.specs.Prelude.{ℕ, Bool, true, false, ◌||◌, List, Some, None}
use Rattle.fl_ast.specs.Tree.{Statement, assignment, branch, loop, Statements, no_statements, statement, Arms, no_arms, arm}
use Rattle.fl_types.specs.Sharing.{is_private, sharing_in}

abbrev mutual
  pub is_private_within : List ℕ → Statement → Bool
  is_private_within x (assignment line atomic target value) = false
  is_private_within x (branch line arms other) = is_private_in_arms x arms || is_private_in_all x other
  is_private_within x (loop line number None var first last step body) = is_private_in_all x body
  is_private_within x (loop line number (Some directive) var first last step body) = is_private (sharing_in var directive body x) || is_private_in_all x body

  pub is_private_in_all : List ℕ → Statements → Bool
  is_private_in_all x no_statements = false
  is_private_in_all x (statement s ss) = is_private_within x s || is_private_in_all x ss

  pub is_private_in_arms : List ℕ → Arms → Bool
  is_private_in_arms x no_arms = false
  is_private_in_arms x (arm test body arms) = is_private_in_all x body || is_private_in_arms x arms
