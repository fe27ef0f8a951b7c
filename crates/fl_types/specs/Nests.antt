-- Two loops collapsed: which loops' iterations the iterations of a parallel loop are.
use Rattle.std.specs.Prelude.{ℕ, Bool, true, false, ◌&&◌, if◌then◌else◌, nat_eq, List, Option, Some, None, is_none}
use Rattle.fl_ast.specs.declared.directive.Directive.{Directive}
use Rattle.fl_ast.specs.Tree.{Expression, Statement, assignment, branch, loop, Statements, no_statements, statement}

-- the head of a `do`, at its line
pub record Head : Type 0 where
  pub line : ℕ
  pub var : List ℕ
  pub first : Expression
  pub last : Expression
  pub step : Option Expression

abbrev pub is_plain_loop : Statement → Bool
is_plain_loop (assignment line atomic target value) = false
is_plain_loop (branch line arms other) = false
is_plain_loop (loop line number directive var first last step body) = is_none directive

abbrev pub is_empty : Statements → Bool
is_empty no_statements = true
is_empty (statement s ss) = false

-- the statements are one loop without a directive
abbrev pub is_one_loop : Statements → Bool
is_one_loop no_statements = false
is_one_loop (statement s ss) = is_plain_loop s && is_empty ss

-- a parallel loop with this body is collapsed with the loop in it; where the body has another form, typing refuses the clause
abbrev pub is_nest : Directive → Statements → Bool
is_nest directive body = nat_eq directive.collapse 2 && is_one_loop body

abbrev pub head_of : Statement → Option Head
head_of (assignment line atomic target value) = None
head_of (branch line arms other) = None
head_of (loop line number directive var first last step body) = Some (record { line = line; var = var; first = first; last = last; step = step })

-- the head of the loop in a body
abbrev pub inner_head : Statements → Option Head
inner_head no_statements = None
inner_head (statement s ss) = head_of s

abbrev pub statements_in : Statement → Statements
statements_in (assignment line atomic target value) = no_statements
statements_in (branch line arms other) = no_statements
statements_in (loop line number directive var first last step body) = body

abbrev pub inner_body : Statements → Statements
inner_body no_statements = no_statements
inner_body (statement s ss) = statements_in s

-- the statements of an iteration
abbrev pub iteration_body : Directive → Statements → Statements
iteration_body directive body = if is_nest directive body then inner_body body else body

-- the head of the collapsed loop
abbrev pub further_head : Directive → Statements → Option Head
further_head directive body = if is_nest directive body then inner_head body else None
