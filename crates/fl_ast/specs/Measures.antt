-- How large trees are: the depths of expressions and blocks, statements, loops and nodes.
use Rattle.std.specs.Prelude.{ℕ, ◌+◌, max, List, [], ◌∷◌, ◌++◌, Option, Some, None}
use Rattle.fl_ast.specs.declared.directive.Directive.{Directive}
use Rattle.fl_ast.specs.Tree.{Expression, literal, get, minus, binary, power, call, Expressions, no_expressions, expression, Condition, relation, negation, conjunction, disjunction, Statement, assignment, branch, loop, Statements, no_statements, statement, Arms, no_arms, arm}

-- a literal or a scalar has depth 1
abbrev mutual
  pub depth : Expression → ℕ
  depth (literal n k) = 1
  depth (get x s) = deepest s + 1
  depth (minus a) = depth a + 1
  depth (binary o a b) = max (depth a) (depth b) + 1
  depth (power a n) = depth a + 1
  depth (call f s) = deepest s + 1

  pub deepest : Expressions → ℕ
  deepest no_expressions = 0
  deepest (expression a s) = max (depth a) (deepest s)

abbrev pub condition_depth : Condition → ℕ
condition_depth (relation o a b) = max (depth a) (depth b) + 1
condition_depth (negation a) = condition_depth a + 1
condition_depth (conjunction a b) = max (condition_depth a) (condition_depth b) + 1
condition_depth (disjunction a b) = max (condition_depth a) (condition_depth b) + 1

abbrev pub step_depth : Option Expression → ℕ
step_depth None = 0
step_depth (Some e) = depth e

-- the depth of the deepest expression or condition; each subscript of a target is an expression of its own
abbrev mutual
  pub deepest_in : Statement → ℕ
  deepest_in (assignment line atomic target value) = max (deepest target.subscripts) (depth value)
  deepest_in (branch line arms other) = max (deepest_in_arms arms) (deepest_in_all other)
  deepest_in (loop line number directive var first last step body) = max (max (depth first) (depth last)) (max (step_depth step) (deepest_in_all body))

  pub deepest_in_all : Statements → ℕ
  deepest_in_all no_statements = 0
  deepest_in_all (statement s rest) = max (deepest_in s) (deepest_in_all rest)

  pub deepest_in_arms : Arms → ℕ
  deepest_in_arms no_arms = 0
  deepest_in_arms (arm test body rest) = max (condition_depth test) (max (deepest_in_all body) (deepest_in_arms rest))

-- how many statements there are, those in others too
abbrev mutual
  pub count : Statement → ℕ
  count (assignment line atomic target value) = 1
  count (branch line arms other) = 1 + (count_arms arms + count_all other)
  count (loop line number directive var first last step body) = 1 + count_all body

  pub count_all : Statements → ℕ
  count_all no_statements = 0
  count_all (statement s rest) = count s + count_all rest

  pub count_arms : Arms → ℕ
  count_arms no_arms = 0
  count_arms (arm test body rest) = count_all body + count_arms rest

-- how many blocks stand in each other: an If or a Do is one more than what stands in it
abbrev mutual
  pub block_depth : Statement → ℕ
  block_depth (assignment line atomic target value) = 0
  block_depth (branch line arms other) = max (block_depth_of_arms arms) (block_depth_of_all other) + 1
  block_depth (loop line number directive var first last step body) = block_depth_of_all body + 1

  pub block_depth_of_all : Statements → ℕ
  block_depth_of_all no_statements = 0
  block_depth_of_all (statement s rest) = max (block_depth s) (block_depth_of_all rest)

  pub block_depth_of_arms : Arms → ℕ
  block_depth_of_arms no_arms = 0
  block_depth_of_arms (arm test body rest) = max (block_depth_of_all body) (block_depth_of_arms rest)

-- the numbers of loops in textual order
abbrev mutual
  pub loop_numbers : Statement → List ℕ
  loop_numbers (assignment line atomic target value) = []
  loop_numbers (branch line arms other) = loop_numbers_of_arms arms ++ loop_numbers_of_all other
  loop_numbers (loop line number directive var first last step body) = number ∷ loop_numbers_of_all body

  pub loop_numbers_of_all : Statements → List ℕ
  loop_numbers_of_all no_statements = []
  loop_numbers_of_all (statement s rest) = loop_numbers s ++ loop_numbers_of_all rest

  pub loop_numbers_of_arms : Arms → List ℕ
  loop_numbers_of_arms no_arms = []
  loop_numbers_of_arms (arm test body rest) = loop_numbers_of_all body ++ loop_numbers_of_arms rest

-- how many nodes there are: expressions, conditions, places, statements and arms
abbrev mutual
  pub nodes : Expression → ℕ
  nodes (literal n k) = 1
  nodes (get x s) = nodes_of_each s + 1
  nodes (minus a) = nodes a + 1
  nodes (binary o a b) = nodes a + nodes b + 1
  nodes (power a n) = nodes a + 1
  nodes (call f s) = nodes_of_each s + 1

  pub nodes_of_each : Expressions → ℕ
  nodes_of_each no_expressions = 0
  nodes_of_each (expression a s) = nodes a + nodes_of_each s

abbrev pub condition_nodes : Condition → ℕ
condition_nodes (relation o a b) = nodes a + nodes b + 1
condition_nodes (negation a) = condition_nodes a + 1
condition_nodes (conjunction a b) = condition_nodes a + condition_nodes b + 1
condition_nodes (disjunction a b) = condition_nodes a + condition_nodes b + 1

abbrev pub step_nodes : Option Expression → ℕ
step_nodes None = 0
step_nodes (Some e) = nodes e

abbrev mutual
  pub statement_nodes : Statement → ℕ
  statement_nodes (assignment line atomic target value) = nodes_of_each target.subscripts + nodes value + 2
  statement_nodes (branch line arms other) = arm_nodes arms + nodes_of_all other + 1
  statement_nodes (loop line number directive var first last step body) =
      nodes first + nodes last + step_nodes step + nodes_of_all body + 1

  pub nodes_of_all : Statements → ℕ
  nodes_of_all no_statements = 0
  nodes_of_all (statement s rest) = statement_nodes s + nodes_of_all rest

  pub arm_nodes : Arms → ℕ
  arm_nodes no_arms = 0
  arm_nodes (arm test body rest) = condition_nodes test + nodes_of_all body + arm_nodes rest + 1
