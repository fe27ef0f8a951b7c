-- The names that live in a loop alone.
use Rattle.std.specs.Prelude.{ℕ, Bool, false, ◌||◌, bytes_eq, List, Option, Some, None}
use Rattle.std.specs.List.{list_any}
use Rattle.fl_ast.specs.declared.directive.Directive.{Directive}
use Rattle.fl_ast.specs.Tree.{Statement, assignment, branch, loop, Statements, no_statements, statement, Arms, no_arms, arm}

-- the directive has the name in its `private` clause
abbrev pub is_listed_private : List ℕ → Option Directive → Bool
is_listed_private x None = false
is_listed_private x (Some d) = list_any (λ name. bytes_eq x name) d.privates

-- the name is the variable of a loop in the tree, or private in one
abbrev mutual
  pub scopes : List ℕ → Statement → Bool
  scopes x (assignment line atomic target value) = false
  scopes x (branch line arms other) = scopes_in_arms x arms || scopes_in x other
  scopes x (loop line number directive var first last step body) = bytes_eq x var || (is_listed_private x directive || scopes_in x body)

  pub scopes_in : List ℕ → Statements → Bool
  scopes_in x no_statements = false
  scopes_in x (statement s ss) = scopes x s || scopes_in x ss

  pub scopes_in_arms : List ℕ → Arms → Bool
  scopes_in_arms x no_arms = false
  scopes_in_arms x (arm test body arms) = scopes_in x body || scopes_in_arms x arms
