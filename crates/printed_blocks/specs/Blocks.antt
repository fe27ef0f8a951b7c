-- What the rows of printed statements are read as, line numbers aside.
use Rattle.std.specs.Prelude.{◌≡◌, ℕ, ◌+◌, Bool, List, ◌++◌, length}
use Rattle.fl_ast.specs.declared.stmt.Stmt.{Stmt}
use Rattle.fl_ast.specs.Tree.{Statements, stmt_trees}
use Rattle.fl_ast.specs.Measures.{count_all, loop_numbers_of_all}
use Rattle.parsing.specs.Reading.{Lexemes}
use Rattle.fl_statements.specs.declared.block.Block.{Block}
use Rattle.fl_statements.specs.Limits.{the_limits}
use Rattle.fl_statements.specs.StmtGrammar as g
use Rattle.printed_blocks.specs.Unlined.{unlined_all}

-- In the grammar the lexemes are these statements, behind those of a block, in which so many blocks may stand in each other, and in a
-- parallel loop or not.
pub record AreBlock (n : ℕ) (inside : Bool) (c : Block) (us : Lexemes) (ss : Statements) : Type 0 where
  pub behind : Block
  pub news : List Stmt
  pub added : behind.stmts ≡ c.stmts ++ news
  pub trees : unlined_all (stmt_trees news) ≡ unlined_all ss
  pub counted : behind.count ≡ c.count + count_all ss
  pub numbered : behind.loops ≡ c.loops + length (loop_numbers_of_all ss)
  pub reads : g.stmts the_limits n inside c behind us
