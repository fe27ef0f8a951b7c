-- What some tokens of conditions are read as.
use Rattle.std.specs.Prelude.{Bool, Option, Some, None}
use Rattle.tokens.specs.Lexeme.{Lexeme}
use Rattle.fl_ast.specs.declared.kind.RelOp.{RelOp}
use Rattle.fl_ast.specs.declared.kind.RelOp.TheVariants.{Eq, Ne, Lt, Le, Gt, Ge}
use Rattle.parsing.specs.declared.symbol.Symbol.{Symbol}
use Rattle.parsing.specs.declared.symbol.Symbol.TheVariants as s
use Rattle.parsing.specs.Terminal.{by, on, reads}

abbrev pub rel_op_by : Symbol → Option RelOp
rel_op_by s.Equal = Some Eq
rel_op_by s.Unequal = Some Ne
rel_op_by s.Less = Some Lt
rel_op_by s.AtMost = Some Le
rel_op_by s.Greater = Some Gt
rel_op_by s.AtLeast = Some Ge
rel_op_by _ = None

abbrev pub rel_op : Lexeme → Option RelOp
rel_op = by rel_op_by

abbrev pub is_rel_op : Lexeme → Bool
is_rel_op = on (reads rel_op_by)

-- `.and.` and `.or.` tell nothing more
abbrev pub and_op_by : Symbol → Option (Unit {0})
and_op_by s.And = Some tt
and_op_by _ = None

abbrev pub and_op : Lexeme → Option (Unit {0})
and_op = by and_op_by

abbrev pub is_and_op : Lexeme → Bool
is_and_op = on (reads and_op_by)

abbrev pub or_op_by : Symbol → Option (Unit {0})
or_op_by s.Or = Some tt
or_op_by _ = None

abbrev pub or_op : Lexeme → Option (Unit {0})
or_op = by or_op_by

abbrev pub is_or_op : Lexeme → Bool
is_or_op = on (reads or_op_by)
