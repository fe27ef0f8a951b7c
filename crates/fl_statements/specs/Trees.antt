-- The trees that are read.
use Rattle.std.specs.Prelude.{ℕ, ◌+◌, Bool, true, false, [], ◌∷◌, ◌++◌, Option, Some, None}
use Rattle.fl_ast.specs.declared.directive.Directive.{Directive}
use Rattle.fl_ast.specs.declared.expr.Expr.{Expr}
use Rattle.fl_ast.specs.declared.stmt.Stmt.TheVariants.{Assign, Do}
use Rattle.parsing.specs.declared.cursor.Word.{Word}
use Rattle.fl_expressions.specs.declared.tree.Measured.{Measured}
use Rattle.fl_expressions.specs.declared.tree.Listed.{Listed}
use Rattle.fl_expressions.specs.Trees.{place_of, place_at}
use Rattle.fl_statements.specs.declared.block.Awaited.{Awaited}
use Rattle.fl_statements.specs.declared.block.Awaited.TheVariants.{Nothing, LoopEnd, AtomicEnd}
use Rattle.fl_statements.specs.declared.block.Block.{Block}
use Rattle.fl_statements.specs.declared.block.Target.{Target}
use Rattle.fl_statements.specs.declared.block.LoopLine.{LoopLine}
use Rattle.fl_statements.specs.declared.block.LoopParts.{LoopParts}

-- no statements, behind so many statements and loops of the unit
abbrev pub block_from : ℕ → ℕ → Block
block_from count loops = record { stmts = []; count = count; loops = loops; awaited = Nothing }

-- what is assigned
abbrev pub scalar_target : Word → Target
scalar_target x = record { line = x.line; place = place_of x.name }

abbrev pub element_target : Word → Listed → Target
element_target x l = record { line = x.line; place = place_at x.name l.exprs }

-- an atomic statement may be ended
abbrev pub awaited_by : Bool → Awaited
awaited_by true = AtomicEnd
awaited_by false = Nothing

-- one more assignment
abbrev pub assigned : Bool → Block → Target → Measured → Block
assigned atomic c t e = record {
  stmts = c.stmts ++ Assign t.line atomic t.place e.expr ∷ [];
  count = c.count + 1;
  loops = c.loops;
  awaited = awaited_by atomic;
}

abbrev pub loop_line_of : ℕ × Word → Measured → Measured → Option Expr → LoopLine
loop_line_of x first last step = record { line = x.0; var = x.1.name; first = first.expr; last = last.expr; step = step }

abbrev pub parts_of : LoopLine → Block → LoopParts
parts_of h body = record { head = h; body = body }

-- a parallel loop may be ended
abbrev pub awaited_of : Option Directive → Awaited
awaited_of (Some d) = LoopEnd
awaited_of None = Nothing

-- one more loop; its number is one more than that of the loop before it in the text
abbrev pub looped : Block → Option Directive → LoopParts → Block
looped c d p = record {
  stmts = c.stmts ++ Do p.head.line (c.loops + 1) d p.head.var p.head.first p.head.last p.head.step p.body.stmts ∷ [];
  count = p.body.count;
  loops = p.body.loops;
  awaited = awaited_of d;
}

-- behind an end directive
abbrev pub ended : Block → Block
ended c = record { stmts = c.stmts; count = c.count; loops = c.loops; awaited = Nothing }

abbrev pub is_awaited : Awaited → Bool
is_awaited Nothing = false
is_awaited LoopEnd = true
is_awaited AtomicEnd = true
