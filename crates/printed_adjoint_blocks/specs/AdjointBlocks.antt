-- What the rows of an adjoint's printed statements are read as, line and loop numbers aside.
use Rattle.std.specs.Prelude.{◌≡◌, ℕ, Bool, List, ◌++◌}
use Rattle.fl_ast.specs.declared.adjoint.AStmt.{AStmt}
use Rattle.fl_ast.specs.AdjointTree.{AdjointStatements, astmt_trees}
use Rattle.parsing.specs.Reading.{Lexemes}
use Rattle.adjoint_statements.specs.declared.block.Block.{Block}
use Rattle.adjoint_statements.specs.Rooms.{the_limits}
use Rattle.adjoint_statements.specs.AdjointStmtGrammar as g
use Rattle.printed_adjoint_blocks.specs.AdjointUnlined.{unlined_all}

-- In the grammar the lexemes are these statements, behind those of a block, in which so many blocks may stand in each other, and in a
-- parallel loop or not.
pub record AreBlock (n : ℕ) (inside : Bool) (c : Block) (us : Lexemes) (ss : AdjointStatements) : Type 0 where
  pub behind : Block
  pub news : List AStmt
  pub added : behind.stmts ≡ c.stmts ++ news
  pub trees : unlined_all (astmt_trees news) ≡ unlined_all ss
  pub reads : g.stmts the_limits n inside c behind us
