-- One spelling of each symbol.
use Rattle.std.specs.Prelude.{ℕ, List, [], ◌∷◌, codes, None}
use Rattle.tokens.specs.declared.TokenKind.TheVariants as kind
use Rattle.tokens.specs.Lexeme.{Lexeme}
use Rattle.parsing.specs.declared.symbol.Symbol.{Symbol}
use Rattle.parsing.specs.declared.symbol.Symbol.TheVariants as s

abbrev pub example : Symbol → Lexeme
example s.Name = record { line = 1; kind = kind.Word; bytes = codes "a" }
example s.Number = record { line = 1; kind = kind.Number 0 None; bytes = codes "0" }
example s.Four = record { line = 1; kind = kind.Number 4 None; bytes = codes "4" }
example s.Eight = record { line = 1; kind = kind.Number 8 None; bytes = codes "8" }
example s.Open = record { line = 1; kind = kind.Mark; bytes = codes "(" }
example s.Close = record { line = 1; kind = kind.Mark; bytes = codes ")" }
example s.Comma = record { line = 1; kind = kind.Mark; bytes = codes "," }
example s.Equals = record { line = 1; kind = kind.Mark; bytes = codes "=" }
example s.Plus = record { line = 1; kind = kind.Mark; bytes = codes "+" }
example s.Minus = record { line = 1; kind = kind.Mark; bytes = codes "-" }
example s.Star = record { line = 1; kind = kind.Mark; bytes = codes "*" }
example s.Slash = record { line = 1; kind = kind.Mark; bytes = codes "/" }
example s.Power = record { line = 1; kind = kind.Mark; bytes = codes "**" }
example s.Colon = record { line = 1; kind = kind.Mark; bytes = codes ":" }
example s.Colons = record { line = 1; kind = kind.Mark; bytes = codes "::" }
example s.Equal = record { line = 1; kind = kind.Mark; bytes = codes "==" }
example s.Unequal = record { line = 1; kind = kind.Mark; bytes = codes "/=" }
example s.Less = record { line = 1; kind = kind.Mark; bytes = codes "<" }
example s.AtMost = record { line = 1; kind = kind.Mark; bytes = codes "<=" }
example s.Greater = record { line = 1; kind = kind.Mark; bytes = codes ">" }
example s.AtLeast = record { line = 1; kind = kind.Mark; bytes = codes ">=" }
example s.And = record { line = 1; kind = kind.Dots; bytes = codes ".and." }
example s.Or = record { line = 1; kind = kind.Dots; bytes = codes ".or." }
example s.Not = record { line = 1; kind = kind.Dots; bytes = codes ".not." }
example s.If = record { line = 1; kind = kind.Word; bytes = codes "if" }
example s.Do = record { line = 1; kind = kind.Word; bytes = codes "do" }
example s.Else = record { line = 1; kind = kind.Word; bytes = codes "else" }
example s.ElseIf = record { line = 1; kind = kind.Word; bytes = codes "elseif" }
example s.End = record { line = 1; kind = kind.Word; bytes = codes "end" }
example s.EndDo = record { line = 1; kind = kind.Word; bytes = codes "enddo" }
example s.EndIf = record { line = 1; kind = kind.Word; bytes = codes "endif" }
example s.EndSubroutine = record { line = 1; kind = kind.Word; bytes = codes "endsubroutine" }
example s.Call = record { line = 1; kind = kind.Word; bytes = codes "call" }
example s.Integer = record { line = 1; kind = kind.Word; bytes = codes "integer" }
example s.Subroutine = record { line = 1; kind = kind.Word; bytes = codes "subroutine" }
example s.Implicit = record { line = 1; kind = kind.Word; bytes = codes "implicit" }
example s.Max = record { line = 1; kind = kind.Word; bytes = codes "max" }
example s.Min = record { line = 1; kind = kind.Word; bytes = codes "min" }
example s.Abs = record { line = 1; kind = kind.Word; bytes = codes "abs" }
example s.Mod = record { line = 1; kind = kind.Word; bytes = codes "mod" }
example s.Merge = record { line = 1; kind = kind.Word; bytes = codes "merge" }
example s.Int = record { line = 1; kind = kind.Word; bytes = codes "int" }
example s.NoneWord = record { line = 1; kind = kind.Word; bytes = codes "none" }
example s.Kind = record { line = 1; kind = kind.Word; bytes = codes "kind" }
example s.Intent = record { line = 1; kind = kind.Word; bytes = codes "intent" }
example s.In = record { line = 1; kind = kind.Word; bytes = codes "in" }
example s.Out = record { line = 1; kind = kind.Word; bytes = codes "out" }
example s.InOut = record { line = 1; kind = kind.Word; bytes = codes "inout" }
example s.Then = record { line = 1; kind = kind.Word; bytes = codes "then" }
example s.Parallel = record { line = 1; kind = kind.Word; bytes = codes "parallel" }
example s.Atomic = record { line = 1; kind = kind.Word; bytes = codes "atomic" }
example s.Update = record { line = 1; kind = kind.Word; bytes = codes "update" }
example s.Private = record { line = 1; kind = kind.Word; bytes = codes "private" }
example s.FirstPrivate = record { line = 1; kind = kind.Word; bytes = codes "firstprivate" }
example s.Shared = record { line = 1; kind = kind.Word; bytes = codes "shared" }
example s.Reduction = record { line = 1; kind = kind.Word; bytes = codes "reduction" }
example s.Default = record { line = 1; kind = kind.Word; bytes = codes "default" }
example s.Schedule = record { line = 1; kind = kind.Word; bytes = codes "schedule" }
example s.Static = record { line = 1; kind = kind.Word; bytes = codes "static" }
example s.Dynamic = record { line = 1; kind = kind.Word; bytes = codes "dynamic" }
example s.Guided = record { line = 1; kind = kind.Word; bytes = codes "guided" }
example s.Auto = record { line = 1; kind = kind.Word; bytes = codes "auto" }
example s.Runtime = record { line = 1; kind = kind.Word; bytes = codes "runtime" }
example s.Collapse = record { line = 1; kind = kind.Word; bytes = codes "collapse" }
example s.FormadPush = record { line = 1; kind = kind.Word; bytes = codes "formad_push" }
example s.FormadPop = record { line = 1; kind = kind.Word; bytes = codes "formad_pop" }
example s.FormadOpen = record { line = 1; kind = kind.Word; bytes = codes "formad_open" }
example s.FormadClose = record { line = 1; kind = kind.Word; bytes = codes "formad_close" }
example s.Construct = record { line = 1; kind = kind.Word; bytes = codes "exit" }
example s.Sentinel = record { line = 1; kind = kind.Sentinel; bytes = codes "!$omp" }
example s.LineEnd = record { line = 1; kind = kind.LineEnd; bytes = [] }
example s.Other = record { line = 1; kind = kind.Mark; bytes = codes "&" }

-- the words that begin a construct outside the language
abbrev pub construct_words : List (List ℕ)
construct_words =
    codes "exit" ∷ codes "cycle" ∷ codes "goto" ∷ codes "return" ∷ codes "stop" ∷ codes "while" ∷ codes "contains" ∷ codes "allocate" ∷ codes "deallocate" ∷ codes "print" ∷ codes "write" ∷ codes "read" ∷ codes "select" ∷ codes "where" ∷ codes "forall" ∷ codes "use" ∷ codes "module" ∷ codes "program" ∷ codes "function" ∷ codes "real" ∷ codes "logical" ∷ codes "character" ∷ codes "complex" ∷ codes "double" ∷ codes "type" ∷ codes "common" ∷ codes "continue" ∷ codes "parameter" ∷ codes "dimension" ∷ codes "save" ∷ codes "block" ∷ []
