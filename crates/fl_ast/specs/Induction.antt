-- One principle of induction for each tree: what holds of each tree once it holds of the trees inside it.
use Rattle.std.specs.Prelude.{ℕ, Bool, List, Option}
use Rattle.fl_ast.specs.declared.kind.Kind.{Kind}
use Rattle.fl_ast.specs.declared.kind.BinOp.{BinOp}
use Rattle.fl_ast.specs.declared.kind.RelOp.{RelOp}
use Rattle.fl_ast.specs.declared.kind.Fun.{Fun}
use Rattle.fl_ast.specs.declared.directive.Directive.{Directive}
use Rattle.fl_ast.specs.Tree.{Expression, literal, get, minus, binary, power, call, Expressions, no_expressions, expression, Designator, Condition, relation, negation, conjunction, disjunction, Statement, assignment, branch, loop, Statements, no_statements, statement, Arms, no_arms, arm}
use Rattle.fl_ast.specs.AdjointTree.{AdjointExpression, adjoint_literal, adjoint_get, adjoint_minus, adjoint_binary, adjoint_power, adjoint_call, merge, AdjointExpressions, no_adjoint_expressions, adjoint_expression, AdjointStatement, adjoint_assignment, adjoint_branch, adjoint_loop, push, pop, begin_tapes, end_tapes, AdjointStatements, no_adjoint_statements, adjoint_statement, AdjointArms, no_adjoint_arms, adjoint_arm}

pub record ExpressionCases (P : Expression → Type 0) (Q : Expressions → Type 0) : Type 0 where
  pub of_literal : (value : ℕ) (kind : Kind) → P (literal value kind)
  pub of_get : (name : List ℕ) (subscripts : Expressions) → Q subscripts → P (get name subscripts)
  pub of_minus : (a : Expression) → P a → P (minus a)
  pub of_binary : (op : BinOp) (a b : Expression) → P a → P b → P (binary op a b)
  pub of_power : (a : Expression) (exponent : ℕ) → P a → P (power a exponent)
  pub of_call : (f : Fun) (args : Expressions) → Q args → P (call f args)
  pub of_none : Q no_expressions
  pub of_more : (a : Expression) (rest : Expressions) → P a → Q rest → Q (expression a rest)

mutual
  pub expression_induction : (P : Expression → Type 0) (Q : Expressions → Type 0) → ExpressionCases P Q → (e : Expression) → P e
  expression_induction P Q c (literal n k) = c.of_literal n k
  expression_induction P Q c (get x s) = c.of_get x s (expressions_induction P Q c s)
  expression_induction P Q c (minus a) = c.of_minus a (expression_induction P Q c a)
  expression_induction P Q c (binary o a b) = c.of_binary o a b (expression_induction P Q c a) (expression_induction P Q c b)
  expression_induction P Q c (power a n) = c.of_power a n (expression_induction P Q c a)
  expression_induction P Q c (call f s) = c.of_call f s (expressions_induction P Q c s)

  pub expressions_induction : (P : Expression → Type 0) (Q : Expressions → Type 0) → ExpressionCases P Q → (s : Expressions) → Q s
  expressions_induction P Q c no_expressions = c.of_none
  expressions_induction P Q c (expression a s) = c.of_more a s (expression_induction P Q c a) (expressions_induction P Q c s)

pub record ConditionCases (P : Condition → Type 0) : Type 0 where
  pub of_relation : (op : RelOp) (a b : Expression) → P (relation op a b)
  pub of_negation : (a : Condition) → P a → P (negation a)
  pub of_conjunction : (a b : Condition) → P a → P b → P (conjunction a b)
  pub of_disjunction : (a b : Condition) → P a → P b → P (disjunction a b)

pub condition_induction : (P : Condition → Type 0) → ConditionCases P → (e : Condition) → P e
condition_induction P c (relation o a b) = c.of_relation o a b
condition_induction P c (negation a) = c.of_negation a (condition_induction P c a)
condition_induction P c (conjunction a b) = c.of_conjunction a b (condition_induction P c a) (condition_induction P c b)
condition_induction P c (disjunction a b) = c.of_disjunction a b (condition_induction P c a) (condition_induction P c b)

pub record StatementCases (P : Statement → Type 0) (Q : Statements → Type 0) (R : Arms → Type 0) : Type 0 where
  pub of_assignment : (line : ℕ) (atomic : Bool) (target : Designator) (value : Expression) → P (assignment line atomic target value)
  pub of_branch : (line : ℕ) (arms : Arms) (other : Statements) → R arms → Q other → P (branch line arms other)
  pub of_loop : (line number : ℕ) (directive : Option Directive) (var : List ℕ) (first last : Expression) (step : Option Expression) (body : Statements) → Q body → P (loop line number directive var first last step body)
  pub of_none : Q no_statements
  pub of_more : (s : Statement) (rest : Statements) → P s → Q rest → Q (statement s rest)
  pub of_no_arms : R no_arms
  pub of_arm : (test : Condition) (body : Statements) (rest : Arms) → Q body → R rest → R (arm test body rest)

mutual
  pub statement_induction : (P : Statement → Type 0) (Q : Statements → Type 0) (R : Arms → Type 0) → StatementCases P Q R → (s : Statement) → P s
  statement_induction P Q R c (assignment line atomic target value) = c.of_assignment line atomic target value
  statement_induction P Q R c (branch line arms other) = c.of_branch line arms other (arms_induction P Q R c arms) (statements_induction P Q R c other)
  statement_induction P Q R c (loop line number directive var first last step body) =
      c.of_loop line number directive var first last step body (statements_induction P Q R c body)

  pub statements_induction : (P : Statement → Type 0) (Q : Statements → Type 0) (R : Arms → Type 0) → StatementCases P Q R → (ss : Statements) → Q ss
  statements_induction P Q R c no_statements = c.of_none
  statements_induction P Q R c (statement s ss) = c.of_more s ss (statement_induction P Q R c s) (statements_induction P Q R c ss)

  pub arms_induction : (P : Statement → Type 0) (Q : Statements → Type 0) (R : Arms → Type 0) → StatementCases P Q R → (arms : Arms) → R arms
  arms_induction P Q R c no_arms = c.of_no_arms
  arms_induction P Q R c (arm test body rest) = c.of_arm test body rest (statements_induction P Q R c body) (arms_induction P Q R c rest)

pub record AdjointExpressionCases (P : AdjointExpression → Type 0) (Q : AdjointExpressions → Type 0) : Type 0 where
  pub of_literal : (value : ℕ) (kind : Kind) → P (adjoint_literal value kind)
  pub of_get : (place : Designator) → P (adjoint_get place)
  pub of_minus : (a : AdjointExpression) → P a → P (adjoint_minus a)
  pub of_binary : (op : BinOp) (a b : AdjointExpression) → P a → P b → P (adjoint_binary op a b)
  pub of_power : (a : AdjointExpression) (exponent : ℕ) → P a → P (adjoint_power a exponent)
  pub of_call : (f : Fun) (args : AdjointExpressions) → Q args → P (adjoint_call f args)
  pub of_merge : (a b : AdjointExpression) (test : Condition) → P a → P b → P (merge a b test)
  pub of_none : Q no_adjoint_expressions
  pub of_more : (a : AdjointExpression) (rest : AdjointExpressions) → P a → Q rest → Q (adjoint_expression a rest)

mutual
  pub adjoint_expression_induction : (P : AdjointExpression → Type 0) (Q : AdjointExpressions → Type 0) → AdjointExpressionCases P Q → (e : AdjointExpression) → P e
  adjoint_expression_induction P Q c (adjoint_literal n k) = c.of_literal n k
  adjoint_expression_induction P Q c (adjoint_get p) = c.of_get p
  adjoint_expression_induction P Q c (adjoint_minus a) = c.of_minus a (adjoint_expression_induction P Q c a)
  adjoint_expression_induction P Q c (adjoint_binary o a b) = c.of_binary o a b (adjoint_expression_induction P Q c a) (adjoint_expression_induction P Q c b)
  adjoint_expression_induction P Q c (adjoint_power a n) = c.of_power a n (adjoint_expression_induction P Q c a)
  adjoint_expression_induction P Q c (adjoint_call f s) = c.of_call f s (adjoint_expressions_induction P Q c s)
  adjoint_expression_induction P Q c (merge a b test) = c.of_merge a b test (adjoint_expression_induction P Q c a) (adjoint_expression_induction P Q c b)

  pub adjoint_expressions_induction : (P : AdjointExpression → Type 0) (Q : AdjointExpressions → Type 0) → AdjointExpressionCases P Q → (s : AdjointExpressions) → Q s
  adjoint_expressions_induction P Q c no_adjoint_expressions = c.of_none
  adjoint_expressions_induction P Q c (adjoint_expression a s) = c.of_more a s (adjoint_expression_induction P Q c a) (adjoint_expressions_induction P Q c s)

pub record AdjointStatementCases (P : AdjointStatement → Type 0) (Q : AdjointStatements → Type 0) (R : AdjointArms → Type 0) : Type 0 where
  pub of_assignment : (line : ℕ) (atomic : Bool) (target : Designator) (value : AdjointExpression) → P (adjoint_assignment line atomic target value)
  pub of_branch : (line : ℕ) (arms : AdjointArms) (other : AdjointStatements) → R arms → Q other → P (adjoint_branch line arms other)
  pub of_loop : (line number : ℕ) (directive : Option Directive) (var : List ℕ) (first last : Expression) (step : Option Expression) (body : AdjointStatements) → Q body → P (adjoint_loop line number directive var first last step body)
  pub of_push : (line : ℕ) (key value : Expression) → P (push line key value)
  pub of_pop : (line : ℕ) (key : Expression) (target : Designator) → P (pop line key target)
  pub of_begin_tapes : (line : ℕ) (count : Expression) → P (begin_tapes line count)
  pub of_end_tapes : (line : ℕ) → P (end_tapes line)
  pub of_none : Q no_adjoint_statements
  pub of_more : (s : AdjointStatement) (rest : AdjointStatements) → P s → Q rest → Q (adjoint_statement s rest)
  pub of_no_arms : R no_adjoint_arms
  pub of_arm : (test : Condition) (body : AdjointStatements) (rest : AdjointArms) → Q body → R rest → R (adjoint_arm test body rest)

mutual
  pub adjoint_statement_induction : (P : AdjointStatement → Type 0) (Q : AdjointStatements → Type 0) (R : AdjointArms → Type 0) → AdjointStatementCases P Q R → (s : AdjointStatement) → P s
  adjoint_statement_induction P Q R c (adjoint_assignment line atomic target value) = c.of_assignment line atomic target value
  adjoint_statement_induction P Q R c (adjoint_branch line arms other) =
      c.of_branch line arms other (adjoint_arms_induction P Q R c arms) (adjoint_statements_induction P Q R c other)
  adjoint_statement_induction P Q R c (adjoint_loop line number directive var first last step body) =
      c.of_loop line number directive var first last step body (adjoint_statements_induction P Q R c body)
  adjoint_statement_induction P Q R c (push line key value) = c.of_push line key value
  adjoint_statement_induction P Q R c (pop line key target) = c.of_pop line key target
  adjoint_statement_induction P Q R c (begin_tapes line count) = c.of_begin_tapes line count
  adjoint_statement_induction P Q R c (end_tapes line) = c.of_end_tapes line

  pub adjoint_statements_induction : (P : AdjointStatement → Type 0) (Q : AdjointStatements → Type 0) (R : AdjointArms → Type 0) → AdjointStatementCases P Q R → (ss : AdjointStatements) → Q ss
  adjoint_statements_induction P Q R c no_adjoint_statements = c.of_none
  adjoint_statements_induction P Q R c (adjoint_statement s ss) =
      c.of_more s ss (adjoint_statement_induction P Q R c s) (adjoint_statements_induction P Q R c ss)

  pub adjoint_arms_induction : (P : AdjointStatement → Type 0) (Q : AdjointStatements → Type 0) (R : AdjointArms → Type 0) → AdjointStatementCases P Q R → (arms : AdjointArms) → R arms
  adjoint_arms_induction P Q R c no_adjoint_arms = c.of_no_arms
  adjoint_arms_induction P Q R c (adjoint_arm test body rest) =
      c.of_arm test body rest (adjoint_statements_induction P Q R c body) (adjoint_arms_induction P Q R c rest)
