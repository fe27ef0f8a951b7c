-- Statements without the lines that they stand in: each line is 0, that of a directive too.
use Rattle.std.specs.Prelude.{Option, Some, None}
use Rattle.fl_ast.specs.declared.directive.Directive.{Directive}
use Rattle.fl_ast.specs.Tree.{Statement, assignment, branch, loop, Statements, no_statements, statement, Arms, no_arms, arm}
use Rattle.printed_clauses.specs.Placed.{at_line}

abbrev pub unlined_directive : Option Directive → Option Directive
unlined_directive None = None
unlined_directive (Some d) = Some (at_line d 0)

abbrev mutual
  pub unlined : Statement → Statement
  unlined (assignment line atomic target value) = assignment 0 atomic target value
  unlined (branch line arms other) = branch 0 (unlined_arms arms) (unlined_all other)
  unlined (loop line number directive var first last step body) = loop 0 number (unlined_directive directive) var first last step (unlined_all body)

  pub unlined_all : Statements → Statements
  unlined_all no_statements = no_statements
  unlined_all (statement s rest) = statement (unlined s) (unlined_all rest)

  pub unlined_arms : Arms → Arms
  unlined_arms no_arms = no_arms
  unlined_arms (arm test body rest) = arm test (unlined_all body) (unlined_arms rest)
