-- How an adjoint's text is read.
use Rattle.std.specs.Prelude.{false}
use Rattle.fl_ast.specs.declared.adjoint.AdjointText.{AdjointText}
use Rattle.parsing.specs.Reading.{Parser, ◌>>=◌, pure}
use Rattle.fl_statements.specs.Limits.{Limits}
use Rattle.fl_parser.specs.UnitReading.{unit_head, decls, end_unit}
use Rattle.adjoint_statements.specs.declared.block.Block.{Block}
use Rattle.adjoint_statements.specs.Trees.{block_from}
use Rattle.adjoint_statements.specs.AdjointStmtReading.{stmts}
use Rattle.adjoint_parser.specs.Trees.{adjoint_text}

unfoldable pub body : Limits → Parser Block
body limits = stmts limits limits.blocks false (block_from 0)

unfoldable pub unit : Limits → Parser AdjointText
unit limits = do
  head ← unit_head
  ds ← decls limits
  b ← body limits
  end ← end_unit head.name
  pure (adjoint_text head ds b)
