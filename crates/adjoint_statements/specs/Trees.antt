-- The trees that are read.
use Rattle.std.specs.Prelude.{ℕ, ◌+◌, Bool, true, false, nat_lt, if◌then◌else◌, List, [], ◌∷◌, ◌++◌, Option}
use Rattle.fl_ast.specs.declared.directive.Directive.{Directive}
use Rattle.fl_ast.specs.declared.expr.Cond.{Cond}
use Rattle.fl_ast.specs.declared.adjoint.AArm.{AArm}
use Rattle.fl_ast.specs.declared.adjoint.AStmt.{AStmt}
use Rattle.fl_ast.specs.declared.adjoint.AStmt.TheVariants.{Assign, If, Do, Push, Pop, Open, Close}
use Rattle.fl_expressions.specs.declared.tree.Measured.{Measured}
use Rattle.adjoint_expressions.specs.declared.tree.AMeasured.{AMeasured}
use Rattle.fl_statements.specs.declared.block.Awaited.{Awaited}
use Rattle.fl_statements.specs.declared.block.Awaited.TheVariants.{Nothing}
use Rattle.fl_statements.specs.declared.block.Target.{Target}
use Rattle.fl_statements.specs.declared.block.LoopLine.{LoopLine}
use Rattle.fl_statements.specs.Trees.{awaited_by, awaited_of}
use Rattle.adjoint_statements.specs.declared.block.Block.{Block}
use Rattle.adjoint_statements.specs.declared.block.LoopParts.{LoopParts}
use Rattle.adjoint_statements.specs.declared.branch.Branch.{Branch}

-- no statements, behind so many loops of the unit
abbrev pub block_from : ℕ → Block
block_from loops = record { stmts = []; loops = loops; awaited = Nothing }

-- the number of the loop behind so many; a number has 32 bits, and behind the greatest it stays
abbrev pub next_loop : ℕ → ℕ
next_loop loops = if nat_lt loops 4294967295 then loops + 1 else loops

-- one more statement
abbrev pub with_stmt : Block → AStmt → Awaited → Block
with_stmt c s awaited = record { stmts = c.stmts ++ s ∷ []; loops = c.loops; awaited = awaited }

abbrev pub assigned : Bool → Block → Target → AMeasured → Block
assigned atomic c t e = with_stmt c (Assign t.line atomic t.place e.expr) (awaited_by atomic)

abbrev pub pushed : Block → ℕ → Measured → Measured → Block
pushed c line key value = with_stmt c (Push line key.expr value.expr) Nothing

abbrev pub popped : Block → ℕ → Measured → Target → Block
popped c line key t = with_stmt c (Pop line key.expr t.place) Nothing

abbrev pub opened : Block → ℕ → Measured → Block
opened c line count = with_stmt c (Open line count.expr) Nothing

abbrev pub closed : Block → ℕ → Block
closed c line = with_stmt c (Close line) Nothing

abbrev pub parts_of : LoopLine → Block → LoopParts
parts_of h body = record { head = h; body = body }

-- one more loop; its number is one more than that of the loop before it in the text
abbrev pub looped : Block → Option Directive → LoopParts → Block
looped c d p = record {
  stmts = c.stmts ++ Do p.head.line (next_loop c.loops) d p.head.var p.head.first p.head.last p.head.step p.body.stmts ∷ [];
  loops = p.body.loops;
  awaited = awaited_of d;
}

-- behind an end directive
abbrev pub ended : Block → Block
ended c = record { stmts = c.stmts; loops = c.loops; awaited = Nothing }

-- ---- Ifs

abbrev pub arm_of : Cond → List AStmt → AArm
arm_of test body = record { test = test; body = body }

abbrev pub arms_with : List AArm → Cond → List AStmt → List AArm
arms_with arms test body = arms ++ arm_of test body ∷ []

-- with one arm
abbrev pub first_branch : ℕ → Cond → Block → Branch
first_branch line test body = record { line = line; arms = arms_with [] test body.stmts; other = []; closed = false; loops = body.loops }

-- one more arm
abbrev pub with_arm : Branch → Cond → Block → Branch
with_arm b test body = record { line = b.line; arms = arms_with b.arms test body.stmts; other = b.other; closed = b.closed; loops = body.loops }

-- what stands behind `else`
abbrev pub with_other : Branch → Block → Branch
with_other b body = record { line = b.line; arms = b.arms; other = body.stmts; closed = true; loops = body.loops }

-- one more If
abbrev pub branched : Block → Branch → Block
branched c b = record { stmts = c.stmts ++ If b.line b.arms b.other ∷ []; loops = b.loops; awaited = Nothing }
