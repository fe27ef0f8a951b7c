-- The trees that are read.
use Rattle.std.specs.Prelude.{List}
use Rattle.fl_ast.specs.declared.decl.Decl.{Decl}
use Rattle.fl_ast.specs.declared.adjoint.AdjointText.{AdjointText}
use Rattle.fl_parser.specs.declared.unit.UnitHead.{UnitHead}
use Rattle.adjoint_statements.specs.declared.block.Block.{Block}

abbrev pub adjoint_text : UnitHead → List Decl → Block → AdjointText
adjoint_text head ds body = record { name = head.name; args = head.args; decls = ds; body = body.stmts }
