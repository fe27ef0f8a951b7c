-- The texts of programs and adjoints.
use Rattle.std.specs.Prelude.{ℕ, List}
use Rattle.fl_ast.specs.Tree.{Subroutine}
use Rattle.fl_ast.specs.AdjointTree.{AdjointSubroutine}
use Rattle.fl_printer.specs.Rows.{program_rows, adjoint_unit_rows}
use Rattle.fl_printer.specs.Layout.{rows_text}

abbrev pub program_text : Subroutine → List ℕ
program_text p = rows_text (program_rows p)

abbrev pub adjoint_text : AdjointSubroutine → List ℕ
adjoint_text a = rows_text (adjoint_unit_rows a)
