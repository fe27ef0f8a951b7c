-- Resolved statements: the plain statement that each stands for, and what its slots and forms have to be.
use Rattle.std.specs.Prelude.{ℕ, Bool, true, false, ◌&&◌, if◌then◌else◌, nat_lt, List, map, length, Option, Some, None, is_some}
use Rattle.fl_ast.specs.Tree.{Expression, Designator, Condition, Statement, assignment, branch, loop, Statements, no_statements, statement, statements_of, Arms, no_arms, arm, arms_of}
use Rattle.fl_types.specs.declared.increment.IncrementForm.{IncrementForm}
use Rattle.fl_types.specs.declared.increment.IncrementForm.TheVariants.{Chain, Sum}
use Rattle.fl_types.specs.Increment.{increment_form}
use Rattle.store_core.specs.declared.layout.Shape.{Shape}
use Rattle.store_core.specs.Keys.{slot_of}
use Rattle.resolved.specs.declared.resolved.ResolvedExpr.{ResolvedExpr}
use Rattle.resolved.specs.declared.resolved.ResolvedStmt.{ResolvedStmt, fold-ResolvedStmt}
use Rattle.resolved.specs.declared.resolved.ResolvedArm.{ResolvedArm, fold-ResolvedArm}
use Rattle.resolved.specs.declared.resolved.ResolvedStmt.TheOpen.{ResolvedStmt-F, ResolvedArm-F}
use Rattle.resolved.specs.SlotTables.{Names, is_ring_in}
use Rattle.resolved.specs.ResolvedExprs.{slot_name, expression_back, place_back, condition_back, all_of, is_within, is_place_within, is_condition_within, is_placed, is_designator_placed, is_condition_placed}

abbrev pub option_back : List Shape → Option ResolvedExpr → Option Expression
option_back shapes None = None
option_back shapes (Some expr) = Some (expression_back shapes expr)

abbrev pub statement_level : List Shape → ResolvedStmt-F Statement (Condition × Statements) → Statement
statement_level shapes (ResolvedStmt-F.Assign line atomic target value form) = assignment line atomic (place_back shapes target) (expression_back shapes value)
statement_level shapes (ResolvedStmt-F.If line arms other) = branch line (arms_of arms) (statements_of other)
statement_level shapes (ResolvedStmt-F.Do line number directive head body) =
    loop line number directive (slot_name shapes head.variable) (expression_back shapes head.first) (expression_back shapes head.last) (option_back shapes head.step) (statements_of body)

abbrev pub arm_level : List Shape → ResolvedArm-F Statement (Condition × Statements) → Condition × Statements
arm_level shapes a = (condition_back shapes a.test, statements_of a.body)

-- the statement that a resolved one stands for
abbrev pub statement_back : List Shape → ResolvedStmt → Statement
statement_back shapes = fold-ResolvedStmt Statement (Condition × Statements) (statement_level shapes) (arm_level shapes)

abbrev pub arm_back : List Shape → ResolvedArm → Condition × Statements
arm_back shapes = fold-ResolvedArm Statement (Condition × Statements) (statement_level shapes) (arm_level shapes)

abbrev pub statements_back : List Shape → List ResolvedStmt → Statements
statements_back shapes stmts = statements_of (map (statement_back shapes) stmts)

abbrev pub arms_back : List Shape → List ResolvedArm → Arms
arms_back shapes arms = arms_of (map (arm_back shapes) arms)

-- ---- all slots are those of the names, and all forms those of the increments

-- the form of an assignment where it is an increment
abbrev pub form_in : Names → Designator → Expression → Option IncrementForm
form_in names p e = if is_ring_in names p.name then increment_form p e else None

abbrev pub same_form : Option IncrementForm → Option IncrementForm → Bool
same_form None None = true
same_form (Some Chain) (Some Chain) = true
same_form (Some Sum) (Some Sum) = true
same_form _ _ = false

abbrev pub is_option_within : ℕ → Option ResolvedExpr → Bool
is_option_within n None = true
is_option_within n (Some expr) = is_within n expr

abbrev pub statement_fit : Names → ResolvedStmt-F Bool Bool → Bool
statement_fit names (ResolvedStmt-F.Assign line atomic target value form) =
    is_place_within (length names.0) target && (is_within (length names.0) value && same_form form (form_in names (place_back names.0 target) (expression_back names.0 value)))
statement_fit names (ResolvedStmt-F.If line arms other) = all_of arms && all_of other
statement_fit names (ResolvedStmt-F.Do line number directive head body) =
    nat_lt head.variable (length names.0)
    && (is_within (length names.0) head.first && (is_within (length names.0) head.last && (is_option_within (length names.0) head.step && all_of body)))

abbrev pub arm_fit : Names → ResolvedArm-F Bool Bool → Bool
arm_fit names a = is_condition_within (length names.0) a.test && all_of a.body

abbrev pub is_fit : Names → ResolvedStmt → Bool
is_fit names = fold-ResolvedStmt Bool Bool (statement_fit names) (arm_fit names)

abbrev pub is_arm_fit : Names → ResolvedArm → Bool
is_arm_fit names = fold-ResolvedArm Bool Bool (statement_fit names) (arm_fit names)

abbrev pub are_fit : Names → List ResolvedStmt → Bool
are_fit names stmts = all_of (map (is_fit names) stmts)

abbrev pub are_arms_fit : Names → List ResolvedArm → Bool
are_arms_fit names arms = all_of (map (is_arm_fit names) arms)

-- ---- all names of a statement have slots

abbrev pub is_option_placed : List Shape → Option Expression → Bool
is_option_placed shapes None = true
is_option_placed shapes (Some e) = is_placed shapes e

abbrev pub is_head_placed : List Shape → List ℕ → Expression → Expression → Option Expression → Bool
is_head_placed shapes var first last step = is_some (slot_of shapes var) && (is_placed shapes first && (is_placed shapes last && is_option_placed shapes step))

abbrev mutual
  pub is_statement_placed : List Shape → Statement → Bool
  is_statement_placed shapes (assignment line atomic p e) = is_placed shapes e && is_designator_placed shapes p
  is_statement_placed shapes (branch line arms other) = are_arms_placed shapes arms && are_statements_placed shapes other
  is_statement_placed shapes (loop line number directive var first last step body) =
      is_head_placed shapes var first last step && are_statements_placed shapes body

  pub are_statements_placed : List Shape → Statements → Bool
  are_statements_placed shapes no_statements = true
  are_statements_placed shapes (statement s ss) = is_statement_placed shapes s && are_statements_placed shapes ss

  pub are_arms_placed : List Shape → Arms → Bool
  are_arms_placed shapes no_arms = true
  are_arms_placed shapes (arm test body arms) = (is_condition_placed shapes test && are_statements_placed shapes body) && are_arms_placed shapes arms

abbrev pub is_arm_placed : List Shape → Condition × Statements → Bool
is_arm_placed shapes a = is_condition_placed shapes a.0 && are_statements_placed shapes a.1
