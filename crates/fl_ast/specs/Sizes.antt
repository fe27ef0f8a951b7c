-- How many bytes a number has.
use Rattle.std.specs.Prelude.{ℕ}
use Rattle.fl_ast.specs.declared.kind.Kind.{Kind}
use Rattle.fl_ast.specs.declared.kind.Kind.TheVariants as kind

-- of an index, and of data where the program says no other size
abbrev pub bytes_of : Kind → ℕ
bytes_of kind.Index = 4
bytes_of kind.Ring = 8
