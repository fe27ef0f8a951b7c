-- What is known of the loops of statements before they run, in textual order.
use Rattle.std.specs.Prelude.{ℕ, is_some, List, [], ◌∷◌, ◌++◌, Option, Some, None}
use Rattle.fl_ast.specs.declared.directive.Directive.{Directive}
use Rattle.fl_ast.specs.Tree.{Expression, literal, get, minus, binary, power, call, Statement, assignment, branch, loop, Statements, no_statements, statement, Arms, no_arms, arm}
use Rattle.loop_accesses.specs.declared.infos.LoopInfo.{LoopInfo}

-- the number that an expression is, where it is a literal
abbrev pub literal_of : Expression → Option ℕ
literal_of (literal n k) = Some n
literal_of (get x s) = None
literal_of (minus a) = None
literal_of (binary o a b) = None
literal_of (power a n) = None
literal_of (call f s) = None

-- 1 where none stands
abbrev pub step_of : Option Expression → Option ℕ
step_of None = Some 1
step_of (Some e) = literal_of e

abbrev pub info_of : ℕ → ℕ → Option Directive → Option Expression → LoopInfo
info_of line number directive step = record { number = number; line = line; parallel = is_some directive; step = step_of step }

abbrev mutual
  pub infos_of : Statement → List LoopInfo
  infos_of (assignment line atomic target value) = []
  infos_of (branch line arms other) = infos_of_arms arms ++ infos_of_all other
  infos_of (loop line number directive var first last step body) = info_of line number directive step ∷ infos_of_all body

  pub infos_of_all : Statements → List LoopInfo
  infos_of_all no_statements = []
  infos_of_all (statement s ss) = infos_of s ++ infos_of_all ss

  pub infos_of_arms : Arms → List LoopInfo
  infos_of_arms no_arms = []
  infos_of_arms (arm test body arms) = infos_of_all body ++ infos_of_arms arms
