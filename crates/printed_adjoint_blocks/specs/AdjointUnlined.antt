-- Statements of adjoints without the lines that they stand in and the numbers of their loops: each is 0.
use Rattle.fl_ast.specs.AdjointTree.{AdjointStatement, adjoint_assignment, adjoint_branch, adjoint_loop, push, pop, begin_tapes, end_tapes, AdjointStatements, no_adjoint_statements, adjoint_statement, AdjointArms, no_adjoint_arms, adjoint_arm}
use Rattle.printed_blocks.specs.Unlined.{unlined_directive}

abbrev mutual
  pub unlined : AdjointStatement → AdjointStatement
  unlined (adjoint_assignment line atomic target value) = adjoint_assignment 0 atomic target value
  unlined (adjoint_branch line arms other) = adjoint_branch 0 (unlined_arms arms) (unlined_all other)
  unlined (adjoint_loop line number directive var first last step body) = adjoint_loop 0 0 (unlined_directive directive) var first last step (unlined_all body)
  unlined (push line key value) = push 0 key value
  unlined (pop line key target) = pop 0 key target
  unlined (begin_tapes line count) = begin_tapes 0 count
  unlined (end_tapes line) = end_tapes 0

  pub unlined_all : AdjointStatements → AdjointStatements
  unlined_all no_adjoint_statements = no_adjoint_statements
  unlined_all (adjoint_statement s rest) = adjoint_statement (unlined s) (unlined_all rest)

  pub unlined_arms : AdjointArms → AdjointArms
  unlined_arms no_adjoint_arms = no_adjoint_arms
  unlined_arms (adjoint_arm test body rest) = adjoint_arm test (unlined_all body) (unlined_arms rest)
