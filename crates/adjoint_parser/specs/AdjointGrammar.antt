-- The grammar of an adjoint's text.
use Rattle.std.specs.Prelude.{false}
use Rattle.fl_ast.specs.declared.adjoint.AdjointText.{AdjointText}
use Rattle.parsing.specs.Grammar.{Grammar, ◌>>=◌, gives}
use Rattle.fl_statements.specs.Limits.{Limits}
use Rattle.fl_parser.specs.UnitGrammar.{unit_head, decls, end_unit}
use Rattle.adjoint_statements.specs.declared.block.Block.{Block}
use Rattle.adjoint_statements.specs.Trees.{block_from}
use Rattle.adjoint_statements.specs.AdjointStmtGrammar.{stmts}
use Rattle.adjoint_parser.specs.Trees.{adjoint_text}

-- the statements of an adjoint
unfoldable pub body : Limits → Grammar Block
body limits = stmts limits limits.blocks false (block_from 0)

-- the lines of a program's unit, with an adjoint's statements
unfoldable pub unit : Limits → Grammar AdjointText
unit limits = do
  head ← unit_head
  ds ← decls limits
  b ← body limits
  end ← end_unit head.name
  gives (adjoint_text head ds b)
