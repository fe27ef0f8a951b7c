-- What some tokens are read as.
use Rattle.std.specs.Prelude.{ℕ, List, codes, Bool, Option, Some, None}
use Rattle.tokens.specs.Lexeme.{Lexeme}
use Rattle.fl_ast.specs.declared.decl.Sign.{Sign}
use Rattle.fl_ast.specs.declared.decl.Sign.TheVariants as sign
use Rattle.fl_ast.specs.declared.kind.Kind.{Kind}
use Rattle.fl_ast.specs.declared.kind.Kind.TheVariants.{Index, Ring}
use Rattle.parsing.specs.declared.symbol.Symbol.{Symbol}
use Rattle.parsing.specs.declared.symbol.Symbol.TheVariants as s
use Rattle.parsing.specs.declared.cursor.Number.{Number}
use Rattle.parsing.specs.Terminal.{by, on, reads, plain_number}

-- a kind with its bytes
abbrev pub kind_by : Symbol → Option (Kind × ℕ)
kind_by s.Four = Some (Index, 4)
kind_by s.Eight = Some (Ring, 8)
kind_by _ = None

abbrev pub kind_number : Lexeme → Option (Kind × ℕ)
kind_number = by kind_by

abbrev pub one_text : List ℕ
one_text = codes "1"

abbrev pub two_text : List ℕ
two_text = codes "2"

-- a number in a bound of a declaration is at most 2^32-1
abbrev pub bound_number : Lexeme → Option Number
bound_number = plain_number 4294967295

abbrev pub sign_by : Symbol → Option Sign
sign_by s.Plus = Some sign.Plus
sign_by s.Minus = Some sign.Minus
sign_by _ = None

abbrev pub bound_sign : Lexeme → Option Sign
bound_sign = by sign_by

abbrev pub is_bound_sign : Lexeme → Bool
is_bound_sign = on (reads sign_by)
