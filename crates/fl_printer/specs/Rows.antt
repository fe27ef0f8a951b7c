-- The rows that a unit is printed as: a row is what stands in one line where that isn't too long.
use Rattle.std.specs.Prelude.{ℕ, ◌+◌, Bool, true, false, if◌then◌else◌, List, [], ◌∷◌, ◌++◌, Option, Some, None, codes}
use Rattle.fl_ast.specs.declared.decl.Decl.{Decl}
use Rattle.fl_ast.specs.declared.directive.Directive.{Directive}
use Rattle.fl_ast.specs.Tree.{Expression, Designator, Condition, Statement, assignment, branch, loop, Statements, no_statements, statement, Arms, no_arms, arm, Subroutine}
use Rattle.fl_ast.specs.AdjointTree.{AdjointExpression, AdjointStatement, adjoint_assignment, adjoint_branch, adjoint_loop, push, pop, begin_tapes, end_tapes, AdjointStatements, no_adjoint_statements, adjoint_statement, AdjointArms, no_adjoint_arms, adjoint_arm, AdjointSubroutine}
use Rattle.fl_printer.specs.declared.spaced.Spaced.{Spaced}
use Rattle.fl_printer.specs.Words.{joined, apart, expression_words, place_words, sum_words, condition_words, adjoint_words, adjoint_sum_words, bracketed_names, decl_words, clause_words}

-- tokens of a statement or behind a sentinel, with so many blanks before the first line
pub record Row : Type 0 where
  pub margin : ℕ
  pub directive : Bool
  pub words : List Spaced

abbrev pub statement_row : ℕ → List Spaced → Row
statement_row margin words = record { margin = margin; directive = false; words = words }

abbrev pub directive_row : ℕ → List Spaced → Row
directive_row margin words = record { margin = margin; directive = true; words = words }

-- ---- parts of statements

abbrev pub atomic_rows : ℕ → Bool → List Row
atomic_rows margin atomic = if atomic then directive_row margin (apart (codes "atomic") ∷ []) ∷ [] else []

abbrev pub parallel_words : Directive → List Spaced
parallel_words d = apart (codes "parallel") ∷ apart (codes "do") ∷ clause_words d

abbrev pub parallel_rows : ℕ → Option Directive → List Row
parallel_rows margin None = []
parallel_rows margin (Some d) = directive_row margin (parallel_words d) ∷ []

abbrev pub value_words : Bool → Expression → List Spaced
value_words atomic e = if atomic then sum_words false true e else expression_words false true e

abbrev pub assign_words : Bool → Designator → Expression → List Spaced
assign_words atomic target value = place_words false target ++ (apart (codes "=") ∷ value_words atomic value)

abbrev pub assign_row : ℕ → Bool → Designator → Expression → Row
assign_row margin atomic target value = statement_row margin (assign_words atomic target value)

abbrev pub assign_rows : ℕ → Bool → Designator → Expression → List Row
assign_rows margin atomic target value = atomic_rows margin atomic ++ assign_row margin atomic target value ∷ []

abbrev pub step_words : Option Expression → List Spaced
step_words None = []
step_words (Some e) = joined (codes ",") ∷ expression_words false true e

abbrev pub variable_words : List ℕ → List Spaced
variable_words var = joined (codes "do") ∷ apart var ∷ apart (codes "=") ∷ []

abbrev pub bounds_words : Expression → Expression → Option Expression → List Spaced
bounds_words first last step = expression_words false true first ++ (joined (codes ",") ∷ (expression_words false true last ++ step_words step))

abbrev pub do_row : ℕ → List ℕ → Expression → Expression → Option Expression → Row
do_row margin var first last step = statement_row margin (variable_words var ++ bounds_words first last step)

abbrev pub loop_rows : ℕ → Option Directive → List ℕ → Expression → Expression → Option Expression → List Row
loop_rows margin directive var first last step = parallel_rows margin directive ++ do_row margin var first last step ∷ []

-- `if (..) then`, and `else if (..) then` for a later arm
abbrev pub else_if : Bool → List Spaced
else_if later = if later then joined (codes "else") ∷ apart (codes "if") ∷ [] else joined (codes "if") ∷ []

abbrev pub test_words : Bool → Condition → List Spaced
test_words later test = else_if later ++ (apart (codes "(") ∷ (condition_words false false test ++ joined (codes ")") ∷ apart (codes "then") ∷ []))

abbrev pub test_row : ℕ → Bool → Condition → Row
test_row margin later test = statement_row margin (test_words later test)

abbrev pub end_words : List ℕ → List Spaced
end_words word = joined (codes "end") ∷ apart word ∷ []

-- ---- statements

abbrev pub else_row : ℕ → Row
else_row margin = statement_row margin (joined (codes "else") ∷ [])

abbrev pub end_row : ℕ → List ℕ → Row
end_row margin word = statement_row margin (end_words word)

-- blocks are two blanks further in
abbrev mutual
  pub statement_rows : ℕ → Statement → List Row
  statement_rows margin (assignment line atomic target value) = assign_rows margin atomic target value
  statement_rows margin (branch line arms other) = arm_rows margin false arms ++ (else_rows margin other ++ end_row margin (codes "if") ∷ [])
  statement_rows margin (loop line number directive var first last step body) =
      loop_rows margin directive var first last step ++ (block_rows (margin + 2) body ++ end_row margin (codes "do") ∷ [])

  -- an `else` stands where statements do
  pub else_rows : ℕ → Statements → List Row
  else_rows margin no_statements = []
  else_rows margin (statement s rest) = else_row margin ∷ (statement_rows (margin + 2) s ++ block_rows (margin + 2) rest)

  pub block_rows : ℕ → Statements → List Row
  block_rows margin no_statements = []
  block_rows margin (statement s rest) = statement_rows margin s ++ block_rows margin rest

  pub arm_rows : ℕ → Bool → Arms → List Row
  arm_rows margin later no_arms = []
  arm_rows margin later (arm test body rest) = test_row margin later test ∷ (block_rows (margin + 2) body ++ arm_rows margin true rest)

-- ---- statements of adjoints

abbrev pub adjoint_value_words : Bool → AdjointExpression → List Spaced
adjoint_value_words atomic e = if atomic then adjoint_sum_words false true e else adjoint_words false true e

abbrev pub adjoint_assign_words : Bool → Designator → AdjointExpression → List Spaced
adjoint_assign_words atomic target value = place_words false target ++ (apart (codes "=") ∷ adjoint_value_words atomic value)

-- a call of the tape up to its arguments
abbrev pub call_words : List ℕ → List Spaced
call_words name = joined (codes "call") ∷ apart name ∷ joined (codes "(") ∷ []

abbrev pub close_bracket : List Spaced
close_bracket = joined (codes ")") ∷ []

abbrev pub pushed_words : Expression → Expression → List Spaced
pushed_words key value = expression_words false false key ++ (joined (codes ",") ∷ (expression_words false true value ++ close_bracket))

abbrev pub push_words : Expression → Expression → List Spaced
push_words key value = call_words (codes "formad_push") ++ pushed_words key value

abbrev pub popped_words : Expression → Designator → List Spaced
popped_words key target = expression_words false false key ++ (joined (codes ",") ∷ (place_words true target ++ close_bracket))

abbrev pub pop_words : Expression → Designator → List Spaced
pop_words key target = call_words (codes "formad_pop") ++ popped_words key target

abbrev pub opened_words : Expression → List Spaced
opened_words count = expression_words false false count ++ close_bracket

abbrev pub open_words : Expression → List Spaced
open_words count = call_words (codes "formad_open") ++ opened_words count

abbrev pub push_row : ℕ → Expression → Expression → Row
push_row margin key value = statement_row margin (push_words key value)

abbrev pub pop_row : ℕ → Expression → Designator → Row
pop_row margin key target = statement_row margin (pop_words key target)

abbrev pub open_row : ℕ → Expression → Row
open_row margin count = statement_row margin (open_words count)

abbrev pub close_row : ℕ → Row
close_row margin = statement_row margin (call_words (codes "formad_close") ++ close_bracket)

abbrev pub adjoint_assign_row : ℕ → Bool → Designator → AdjointExpression → Row
adjoint_assign_row margin atomic target value = statement_row margin (adjoint_assign_words atomic target value)

abbrev pub adjoint_assign_rows : ℕ → Bool → Designator → AdjointExpression → List Row
adjoint_assign_rows margin atomic target value = atomic_rows margin atomic ++ adjoint_assign_row margin atomic target value ∷ []

abbrev mutual
  pub adjoint_rows : ℕ → AdjointStatement → List Row
  adjoint_rows margin (adjoint_assignment line atomic target value) = adjoint_assign_rows margin atomic target value
  adjoint_rows margin (adjoint_branch line arms other) =
      adjoint_arm_rows margin false arms ++ (adjoint_else_rows margin other ++ end_row margin (codes "if") ∷ [])
  adjoint_rows margin (adjoint_loop line number directive var first last step body) =
      loop_rows margin directive var first last step ++ (adjoint_block_rows (margin + 2) body ++ end_row margin (codes "do") ∷ [])
  adjoint_rows margin (push line key value) = push_row margin key value ∷ []
  adjoint_rows margin (pop line key target) = pop_row margin key target ∷ []
  adjoint_rows margin (begin_tapes line count) = open_row margin count ∷ []
  adjoint_rows margin (end_tapes line) = close_row margin ∷ []

  pub adjoint_else_rows : ℕ → AdjointStatements → List Row
  adjoint_else_rows margin no_adjoint_statements = []
  adjoint_else_rows margin (adjoint_statement s rest) = else_row margin ∷ (adjoint_rows (margin + 2) s ++ adjoint_block_rows (margin + 2) rest)

  pub adjoint_block_rows : ℕ → AdjointStatements → List Row
  adjoint_block_rows margin no_adjoint_statements = []
  adjoint_block_rows margin (adjoint_statement s rest) = adjoint_rows margin s ++ adjoint_block_rows margin rest

  pub adjoint_arm_rows : ℕ → Bool → AdjointArms → List Row
  adjoint_arm_rows margin later no_adjoint_arms = []
  adjoint_arm_rows margin later (adjoint_arm test body rest) =
      test_row margin later test ∷ (adjoint_block_rows (margin + 2) body ++ adjoint_arm_rows margin true rest)

-- ---- units

abbrev pub subroutine_words : List ℕ → List (List ℕ) → List Spaced
subroutine_words name args = joined (codes "subroutine") ∷ apart name ∷ bracketed_names args

abbrev pub subroutine_row : List ℕ → List (List ℕ) → Row
subroutine_row name args = statement_row 0 (subroutine_words name args)

-- always there
abbrev pub implicit_row : Row
implicit_row = statement_row 2 (joined (codes "implicit") ∷ apart (codes "none") ∷ [])

abbrev pub decl_row : Decl → Row
decl_row d = statement_row 2 (decl_words d)

abbrev pub decl_rows : List Decl → List Row
decl_rows [] = []
decl_rows (d ∷ ds) = decl_row d ∷ decl_rows ds

abbrev pub head_rows : List ℕ → List (List ℕ) → List Decl → List Row
head_rows name args decls = subroutine_row name args ∷ implicit_row ∷ decl_rows decls

abbrev pub last_words : List ℕ → List Spaced
last_words name = joined (codes "end") ∷ apart (codes "subroutine") ∷ apart name ∷ []

abbrev pub last_row : List ℕ → Row
last_row name = statement_row 0 (last_words name)

abbrev pub program_rows : Subroutine → List Row
program_rows p = head_rows p.name p.args p.decls ++ (block_rows 2 p.body ++ last_row p.name ∷ [])

-- the forward part and then the reverse part
abbrev pub adjoint_unit_rows : AdjointSubroutine → List Row
adjoint_unit_rows a = head_rows a.name a.args a.decls ++ (adjoint_block_rows 2 a.forward ++ (adjoint_block_rows 2 a.reverse ++ last_row a.name ∷ []))
