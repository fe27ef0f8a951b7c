-- What the lines of an adjoint's printed statements are read as, line numbers aside.
use Rattle.std.specs.Prelude.{◌≡◌, ℕ, Bool, List, Option}
use Rattle.fl_ast.specs.Tree.{Expression, Designator, Condition, cond_tree, expr_tree, place_tree, step_tree}
use Rattle.fl_ast.specs.AdjointTree.{AdjointExpression, aexpr_tree}
use Rattle.parsing.specs.Reading.{Lexemes}
use Rattle.fl_expressions.specs.declared.tree.Measured.{Measured}
use Rattle.fl_conditions.specs.declared.tree.Judged.{Judged}
use Rattle.fl_statements.specs.declared.block.LoopLine.{LoopLine}
use Rattle.fl_statements.specs.declared.block.Target.{Target}
use Rattle.fl_statements.specs.StmtGrammar as plain
use Rattle.adjoint_expressions.specs.declared.tree.AMeasured.{AMeasured}
use Rattle.adjoint_statements.specs.declared.block.Block.{Block}
use Rattle.adjoint_statements.specs.Rooms.{the_limits}
use Rattle.adjoint_statements.specs.Trees.{assigned, pushed, popped, opened, closed}
use Rattle.adjoint_statements.specs.AdjointStmtGrammar as g

-- an assignment behind the statements of a block
pub record IsAssigned (atomic : Bool) (c : Block) (us : Lexemes) (target : Designator) (value : AdjointExpression) : Type 0 where
  pub to : Target
  pub right : AMeasured
  pub place : place_tree to.place ≡ target
  pub tree : aexpr_tree right.expr ≡ value
  pub reads : g.assign the_limits atomic c (assigned atomic c to right) us

-- the calls of the tape, behind the statements of a block
pub record IsPushed (c : Block) (us : Lexemes) (key value : Expression) : Type 0 where
  pub line : ℕ
  pub under : Measured
  pub word : Measured
  pub key_tree : expr_tree under.expr ≡ key
  pub tree : expr_tree word.expr ≡ value
  pub reads : g.call the_limits c (pushed c line under word) us

pub record IsPopped (c : Block) (us : Lexemes) (key : Expression) (target : Designator) : Type 0 where
  pub line : ℕ
  pub under : Measured
  pub to : Target
  pub key_tree : expr_tree under.expr ≡ key
  pub place : place_tree to.place ≡ target
  pub reads : g.call the_limits c (popped c line under to) us

pub record IsBegun (c : Block) (us : Lexemes) (count : Expression) : Type 0 where
  pub line : ℕ
  pub tapes : Measured
  pub tree : expr_tree tapes.expr ≡ count
  pub reads : g.call the_limits c (opened c line tapes) us

pub record IsFinished (c : Block) (us : Lexemes) : Type 0 where
  pub line : ℕ
  pub reads : g.call the_limits c (closed c line) us

-- the first line of a loop
pub record HasLoopLine (us : Lexemes) (var : List ℕ) (first last : Expression) (step : Option Expression) : Type 0 where
  pub head : LoopLine
  pub name : head.var ≡ var
  pub from : expr_tree head.first ≡ first
  pub to : expr_tree head.last ≡ last
  pub by : step_tree head.step ≡ step
  pub reads : plain.loop_line the_limits head us

-- a test in its brackets
pub record IsGuard (us : Lexemes) (test : Condition) : Type 0 where
  pub value : Judged
  pub tree : cond_tree value.cond ≡ test
  pub reads : plain.guard the_limits value us
