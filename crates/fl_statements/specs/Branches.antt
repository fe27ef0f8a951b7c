-- Ifs that are read.
use Rattle.std.specs.Prelude.{ℕ, true, false, List, [], ◌∷◌, ◌++◌}
use Rattle.fl_ast.specs.declared.expr.Cond.{Cond}
use Rattle.fl_ast.specs.declared.stmt.Arm.{Arm}
use Rattle.fl_ast.specs.declared.stmt.Stmt.{Stmt}
use Rattle.fl_ast.specs.declared.stmt.Stmt.TheVariants.{If}
use Rattle.fl_statements.specs.declared.block.Awaited.TheVariants.{Nothing}
use Rattle.fl_statements.specs.declared.block.Block.{Block}
use Rattle.fl_statements.specs.declared.branch.Branch.{Branch}

abbrev pub arm_of : Cond → List Stmt → Arm
arm_of test body = record { test = test; body = body }

abbrev pub arms_with : List Arm → Cond → List Stmt → List Arm
arms_with arms test body = arms ++ arm_of test body ∷ []

-- with one arm
abbrev pub first_branch : ℕ → Cond → Block → Branch
first_branch line test body = record { line = line; arms = arms_with [] test body.stmts; other = []; closed = false; count = body.count; loops = body.loops }

-- one more arm
abbrev pub with_arm : Branch → Cond → Block → Branch
with_arm b test body = record { line = b.line; arms = arms_with b.arms test body.stmts; other = b.other; closed = b.closed; count = body.count; loops = body.loops }

-- what stands behind `else`
abbrev pub with_other : Branch → Block → Branch
with_other b body = record { line = b.line; arms = b.arms; other = body.stmts; closed = true; count = body.count; loops = body.loops }

-- one more If
abbrev pub branched : Block → Branch → Block
branched c b = record { stmts = c.stmts ++ If b.line b.arms b.other ∷ []; count = b.count; loops = b.loops; awaited = Nothing }
