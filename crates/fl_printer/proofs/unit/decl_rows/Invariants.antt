use Rattle.std.proofs.Common.{◌≡◌, ◌++◌, drop}
use Rattle.fl_printer.specs.Rows.{decl_rows}
use Rattle.fl_printer.specs.Layout.{rows_text}
use Rattle.fl_printer.proofs.unit.decl_rows.Given as goal

-- what is added and what the rest adds is all
abbrev pub invariant-loop-declared : goal.invariant-loop-declared
invariant-loop-declared l = l.text.items ++ rows_text (decl_rows (drop l.declared-index l.decls)) ≡ l.fn.text.items ++ rows_text (decl_rows l.decls)
