-- What the lines of printed statements are read as, line numbers aside.
use Rattle.std.specs.Prelude.{◌≡◌, ℕ, Bool, List, [], ◌∷◌, ◌++◌, Option, Some, None}
use Rattle.fl_ast.specs.declared.expr.Place.{Place}
use Rattle.fl_ast.specs.declared.expr.Expr.{Expr}
use Rattle.fl_ast.specs.declared.stmt.Stmt.TheVariants.{Assign}
use Rattle.fl_ast.specs.Tree.{Expression, Designator, Condition, cond_tree, expr_tree, place_tree, step_tree}
use Rattle.parsing.specs.Reading.{Lexemes}
use Rattle.fl_conditions.specs.declared.tree.Judged.{Judged}
use Rattle.fl_statements.specs.declared.block.Block.{Block}
use Rattle.fl_statements.specs.declared.block.LoopLine.{LoopLine}
use Rattle.fl_statements.specs.declared.block.Target.{Target}
use Rattle.fl_statements.specs.Limits.{the_limits}
use Rattle.fl_statements.specs.Trees.{assigned}
use Rattle.fl_statements.specs.StmtGrammar as g
use Rattle.fl_expressions.specs.declared.tree.Measured.{Measured}

-- an assignment behind the statements of a block
pub record IsAssigned (atomic : Bool) (c : Block) (us : Lexemes) (target : Designator) (value : Expression) : Type 0 where
  pub to : Target
  pub right : Measured
  pub place : place_tree to.place ≡ target
  pub tree : expr_tree right.expr ≡ value
  pub reads : g.assign the_limits atomic c (assigned atomic c to right) us

-- the first line of a loop
pub record HasLoopLine (us : Lexemes) (var : List ℕ) (first last : Expression) (step : Option Expression) : Type 0 where
  pub head : LoopLine
  pub name : head.var ≡ var
  pub from : expr_tree head.first ≡ first
  pub to : expr_tree head.last ≡ last
  pub by : step_tree head.step ≡ step
  pub reads : g.loop_line the_limits head us

-- a test in its brackets
pub record IsGuard (us : Lexemes) (test : Condition) : Type 0 where
  pub value : Judged
  pub tree : cond_tree value.cond ≡ test
  pub reads : g.guard the_limits value us
