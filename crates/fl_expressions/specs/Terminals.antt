-- What some tokens are read as.
use Rattle.std.specs.Prelude.{Bool, Option, Some, None}
use Rattle.tokens.specs.Lexeme.{Lexeme}
use Rattle.fl_ast.specs.declared.kind.BinOp.{BinOp}
use Rattle.fl_ast.specs.declared.kind.BinOp.TheVariants.{Add, Sub, Mul, Div}
use Rattle.fl_ast.specs.declared.kind.Fun.{Fun}
use Rattle.fl_ast.specs.declared.kind.Fun.TheVariants as fun
use Rattle.parsing.specs.declared.symbol.Symbol.{Symbol}
use Rattle.parsing.specs.declared.symbol.Symbol.TheVariants as s
use Rattle.parsing.specs.declared.cursor.Number.{Number}
use Rattle.parsing.specs.Terminal.{by, on, reads, small_number}

abbrev pub sum_op_by : Symbol → Option BinOp
sum_op_by s.Plus = Some Add
sum_op_by s.Minus = Some Sub
sum_op_by _ = None

abbrev pub product_op_by : Symbol → Option BinOp
product_op_by s.Star = Some Mul
product_op_by s.Slash = Some Div
product_op_by _ = None

abbrev pub sum_op : Lexeme → Option BinOp
sum_op = by sum_op_by

abbrev pub product_op : Lexeme → Option BinOp
product_op = by product_op_by

abbrev pub is_sum_op : Lexeme → Bool
is_sum_op = on (reads sum_op_by)

abbrev pub is_product_op : Lexeme → Bool
is_product_op = on (reads product_op_by)

-- functions of two arguments
abbrev pub pairing_by : Symbol → Option Fun
pairing_by s.Max = Some fun.Max
pairing_by s.Min = Some fun.Min
pairing_by s.Mod = Some fun.Mod
pairing_by _ = None

abbrev pub pairing : Lexeme → Option Fun
pairing = by pairing_by

abbrev pub is_pairing : Lexeme → Bool
is_pairing = on (reads pairing_by)

-- functions of one argument
abbrev pub single_by : Symbol → Option Fun
single_by s.Abs = Some fun.Abs
single_by _ = None

abbrev pub single : Lexeme → Option Fun
single = by single_by

abbrev pub is_single : Lexeme → Bool
is_single = on (reads single_by)

-- an exponent is at most 2^31-1
abbrev pub exponent : Lexeme → Option Number
exponent = small_number 2147483647
