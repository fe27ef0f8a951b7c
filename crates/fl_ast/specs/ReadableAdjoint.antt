-- Adjoints whose text reads as themselves: what the grammar of adjoints and its limits say of trees.
use Rattle.std.specs.Prelude.{◌≡◌, ℕ, ◌+◌, ◌≤◌, Bool, true, false, not, ◌&&◌, ◌||◌, ◌==◌, nat_le, max}
use Rattle.std.specs.List.{list_all}
use Rattle.fl_base.specs.Spelling.{is_name}
use Rattle.fl_ast.specs.declared.adjoint.Adjoint.{Adjoint}
use Rattle.fl_ast.specs.AdjointTree.{AdjointExpression, adjoint_literal, adjoint_get, adjoint_minus, adjoint_binary, adjoint_power, adjoint_call, merge, AdjointExpressions, no_adjoint_expressions, adjoint_expression, AdjointStatement, adjoint_assignment, adjoint_branch, adjoint_loop, push, pop, begin_tapes, end_tapes, AdjointStatements, no_adjoint_statements, adjoint_statement, AdjointArms, no_adjoint_arms, adjoint_arm, astmt_trees}
use Rattle.fl_ast.specs.Measures.{depth, deepest, condition_depth, step_depth}
use Rattle.fl_ast.specs.Readable.{is_variable, is_readable, are_readable, is_readable_condition, is_readable_step, is_parallel, is_readable_directive, is_readable_decl, arity}

abbrev pub number_of_adjoints : AdjointExpressions → ℕ
number_of_adjoints no_adjoint_expressions = 0
number_of_adjoints (adjoint_expression a s) = 1 + number_of_adjoints s

abbrev mutual
  pub is_readable_adjoint : AdjointExpression → Bool
  is_readable_adjoint (adjoint_literal n k) = nat_le n 9223372036854775807
  is_readable_adjoint (adjoint_get p) = is_variable p.name && are_readable p.subscripts
  is_readable_adjoint (adjoint_minus a) = is_readable_adjoint a
  is_readable_adjoint (adjoint_binary o a b) = is_readable_adjoint a && is_readable_adjoint b
  is_readable_adjoint (adjoint_power a n) = nat_le n 2147483647 && is_readable_adjoint a
  is_readable_adjoint (adjoint_call f s) = (number_of_adjoints s == arity f) && are_readable_adjoints s
  is_readable_adjoint (merge a b test) = is_readable_adjoint a && (is_readable_adjoint b && is_readable_condition test)

  pub are_readable_adjoints : AdjointExpressions → Bool
  are_readable_adjoints no_adjoint_expressions = true
  are_readable_adjoints (adjoint_expression a s) = is_readable_adjoint a && are_readable_adjoints s

-- a parallel loop among them
abbrev mutual
  pub has_parallel_adjoint : AdjointStatement → Bool
  has_parallel_adjoint (adjoint_assignment line atomic target value) = false
  has_parallel_adjoint (adjoint_branch line arms other) = has_parallel_adjoints_in arms || has_parallel_adjoints other
  has_parallel_adjoint (adjoint_loop line number directive var first last step body) = is_parallel directive || has_parallel_adjoints body
  has_parallel_adjoint (push line key value) = false
  has_parallel_adjoint (pop line key target) = false
  has_parallel_adjoint (begin_tapes line count) = false
  has_parallel_adjoint (end_tapes line) = false

  pub has_parallel_adjoints : AdjointStatements → Bool
  has_parallel_adjoints no_adjoint_statements = false
  has_parallel_adjoints (adjoint_statement s rest) = has_parallel_adjoint s || has_parallel_adjoints rest

  pub has_parallel_adjoints_in : AdjointArms → Bool
  has_parallel_adjoints_in no_adjoint_arms = false
  has_parallel_adjoints_in (adjoint_arm test body rest) = has_parallel_adjoints body || has_parallel_adjoints_in rest

abbrev pub has_adjoint_arm : AdjointArms → Bool
has_adjoint_arm no_adjoint_arms = false
has_adjoint_arm (adjoint_arm test body rest) = true

-- an If has an arm, and a parallel loop holds no other
abbrev mutual
  pub is_readable_adjoint_statement : AdjointStatement → Bool
  is_readable_adjoint_statement (adjoint_assignment line atomic target value) =
      is_variable target.name && (are_readable target.subscripts && is_readable_adjoint value)
  is_readable_adjoint_statement (adjoint_branch line arms other) =
      has_adjoint_arm arms && (are_readable_adjoint_arms arms && are_readable_adjoint_statements other)
  is_readable_adjoint_statement (adjoint_loop line number directive var first last step body) =
      is_readable_directive directive && (not (is_parallel directive && has_parallel_adjoints body) && (is_variable var
      && (is_readable first && (is_readable last && (is_readable_step step && are_readable_adjoint_statements body)))))
  is_readable_adjoint_statement (push line key value) = is_readable key && is_readable value
  is_readable_adjoint_statement (pop line key target) = is_readable key && (is_variable target.name && are_readable target.subscripts)
  is_readable_adjoint_statement (begin_tapes line count) = is_readable count
  is_readable_adjoint_statement (end_tapes line) = true

  pub are_readable_adjoint_statements : AdjointStatements → Bool
  are_readable_adjoint_statements no_adjoint_statements = true
  are_readable_adjoint_statements (adjoint_statement s rest) = is_readable_adjoint_statement s && are_readable_adjoint_statements rest

  pub are_readable_adjoint_arms : AdjointArms → Bool
  are_readable_adjoint_arms no_adjoint_arms = true
  are_readable_adjoint_arms (adjoint_arm test body rest) =
      is_readable_condition test && (are_readable_adjoint_statements body && are_readable_adjoint_arms rest)

-- ---- sizes

abbrev mutual
  pub adjoint_depth : AdjointExpression → ℕ
  adjoint_depth (adjoint_literal n k) = 1
  adjoint_depth (adjoint_get p) = deepest p.subscripts + 1
  adjoint_depth (adjoint_minus a) = adjoint_depth a + 1
  adjoint_depth (adjoint_binary o a b) = max (adjoint_depth a) (adjoint_depth b) + 1
  adjoint_depth (adjoint_power a n) = adjoint_depth a + 1
  adjoint_depth (adjoint_call f s) = deepest_adjoint s + 1
  adjoint_depth (merge a b test) = max (max (adjoint_depth a) (adjoint_depth b)) (condition_depth test) + 1

  pub deepest_adjoint : AdjointExpressions → ℕ
  deepest_adjoint no_adjoint_expressions = 0
  deepest_adjoint (adjoint_expression a s) = max (adjoint_depth a) (deepest_adjoint s)

-- the depth of the deepest expression or condition
abbrev mutual
  pub deepest_in_adjoint : AdjointStatement → ℕ
  deepest_in_adjoint (adjoint_assignment line atomic target value) = max (deepest target.subscripts) (adjoint_depth value)
  deepest_in_adjoint (adjoint_branch line arms other) = max (deepest_in_adjoint_arms arms) (deepest_in_adjoints other)
  deepest_in_adjoint (adjoint_loop line number directive var first last step body) =
      max (max (depth first) (depth last)) (max (step_depth step) (deepest_in_adjoints body))
  deepest_in_adjoint (push line key value) = max (depth key) (depth value)
  deepest_in_adjoint (pop line key target) = max (depth key) (deepest target.subscripts)
  deepest_in_adjoint (begin_tapes line count) = depth count
  deepest_in_adjoint (end_tapes line) = 0

  pub deepest_in_adjoints : AdjointStatements → ℕ
  deepest_in_adjoints no_adjoint_statements = 0
  deepest_in_adjoints (adjoint_statement s rest) = max (deepest_in_adjoint s) (deepest_in_adjoints rest)

  pub deepest_in_adjoint_arms : AdjointArms → ℕ
  deepest_in_adjoint_arms no_adjoint_arms = 0
  deepest_in_adjoint_arms (adjoint_arm test body rest) = max (condition_depth test) (max (deepest_in_adjoints body) (deepest_in_adjoint_arms rest))

-- how many blocks stand in each other
abbrev mutual
  pub adjoint_block_depth : AdjointStatement → ℕ
  adjoint_block_depth (adjoint_assignment line atomic target value) = 0
  adjoint_block_depth (adjoint_branch line arms other) = max (block_depth_of_adjoint_arms arms) (block_depth_of_adjoints other) + 1
  adjoint_block_depth (adjoint_loop line number directive var first last step body) = block_depth_of_adjoints body + 1
  adjoint_block_depth (push line key value) = 0
  adjoint_block_depth (pop line key target) = 0
  adjoint_block_depth (begin_tapes line count) = 0
  adjoint_block_depth (end_tapes line) = 0

  pub block_depth_of_adjoints : AdjointStatements → ℕ
  block_depth_of_adjoints no_adjoint_statements = 0
  block_depth_of_adjoints (adjoint_statement s rest) = max (adjoint_block_depth s) (block_depth_of_adjoints rest)

  pub block_depth_of_adjoint_arms : AdjointArms → ℕ
  block_depth_of_adjoint_arms no_adjoint_arms = 0
  block_depth_of_adjoint_arms (adjoint_arm test body rest) = max (block_depth_of_adjoints body) (block_depth_of_adjoint_arms rest)

-- ---- adjoints

-- The adjoint is one that some text reads as, its primal aside. The unit's name may be any word.
pub record IsReadableAdjoint (a : Adjoint) : Type 0 where
  pub name : is_name a.name ≡ true
  pub args : list_all is_variable a.args ≡ true
  pub decls : list_all is_readable_decl a.decls ≡ true
  pub forward : are_readable_adjoint_statements (astmt_trees a.forward) ≡ true
  pub reverse : are_readable_adjoint_statements (astmt_trees a.reverse) ≡ true
  pub shallow : max (deepest_in_adjoints (astmt_trees a.forward)) (deepest_in_adjoints (astmt_trees a.reverse)) ≤ 256
  pub shallow_blocks : max (block_depth_of_adjoints (astmt_trees a.forward)) (block_depth_of_adjoints (astmt_trees a.reverse)) ≤ 256
