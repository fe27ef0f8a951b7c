-- What readers ask of a token.
use Rattle.std.specs.Prelude.{ℕ, Bool, true, false, not, ◌&&◌, ◌==◌, nat_le, bytes_eq, List, Option, Some, None, if◌then◌else◌}
use Rattle.std.specs.Str.{str_to_ascii_lowercase}
use Rattle.tokens.specs.declared.TokenKind.{TokenKind}
use Rattle.tokens.specs.declared.TokenKind.TheVariants as kind
use Rattle.tokens.specs.Lexeme.{Lexeme}
use Rattle.parsing.specs.declared.symbol.Symbol.{Symbol}
use Rattle.parsing.specs.declared.symbol.Symbol.TheVariants as s
use Rattle.parsing.specs.declared.cursor.Word.{Word}
use Rattle.parsing.specs.declared.cursor.Number.{Number}
use Rattle.parsing.specs.Symbol.{symbol_of}

-- a symbol's place among all
abbrev pub code : Symbol → ℕ
code s.Name = 0
code s.Number = 1
code s.Four = 2
code s.Eight = 3
code s.Open = 4
code s.Close = 5
code s.Comma = 6
code s.Equals = 7
code s.Plus = 8
code s.Minus = 9
code s.Star = 10
code s.Slash = 11
code s.Power = 12
code s.Colon = 13
code s.Colons = 14
code s.Equal = 15
code s.Unequal = 16
code s.Less = 17
code s.AtMost = 18
code s.Greater = 19
code s.AtLeast = 20
code s.And = 21
code s.Or = 22
code s.Not = 23
code s.If = 24
code s.Do = 25
code s.Else = 26
code s.ElseIf = 27
code s.End = 28
code s.EndDo = 29
code s.EndIf = 30
code s.EndSubroutine = 31
code s.Call = 32
code s.Integer = 33
code s.Subroutine = 34
code s.Implicit = 35
code s.Max = 36
code s.Min = 37
code s.Abs = 38
code s.Mod = 39
code s.Merge = 40
code s.Int = 41
code s.NoneWord = 42
code s.Kind = 43
code s.Intent = 44
code s.In = 45
code s.Out = 46
code s.InOut = 47
code s.Then = 48
code s.Parallel = 49
code s.Atomic = 50
code s.Update = 51
code s.Private = 52
code s.FirstPrivate = 53
code s.Shared = 54
code s.Reduction = 55
code s.Default = 56
code s.Schedule = 57
code s.Static = 58
code s.Dynamic = 59
code s.Guided = 60
code s.Auto = 61
code s.Runtime = 62
code s.Collapse = 63
code s.FormadPush = 64
code s.FormadPop = 65
code s.FormadOpen = 66
code s.FormadClose = 67
code s.Construct = 68
code s.Sentinel = 69
code s.LineEnd = 70
code s.Other = 71

abbrev pub same : Symbol → Symbol → Bool
same a b = code a == code b

-- a test that looks at the symbol alone
abbrev pub on : (Symbol → Bool) → Lexeme → Bool
on test t = test (symbol_of t)

abbrev pub is : Symbol → Lexeme → Bool
is a = on (same a)

-- the line of a token that has this symbol
abbrev pub marked : Symbol → Lexeme → Option ℕ
marked a t = if is a t then Some t.line else None

-- what a symbol reads as
abbrev pub by : {A : Type 0} → (Symbol → Option A) → Lexeme → Option A
by read t = read (symbol_of t)

-- whether a symbol reads as something
abbrev pub some : {A : Type 0} → Option A → Bool
some (Some x) = true
some None = false

abbrev pub reads : {A : Type 0} → (Symbol → Option A) → Symbol → Bool
reads read a = some (read a)

-- whether a number has this symbol
abbrev pub numbers : Symbol → Bool
numbers s.Number = true
numbers s.Four = true
numbers s.Eight = true
numbers _ = false

-- whether a word may name a variable
abbrev pub names : Symbol → Bool
names s.Name = true
names s.NoneWord = true
names s.Kind = true
names s.Intent = true
names s.In = true
names s.Out = true
names s.InOut = true
names s.Then = true
names s.Parallel = true
names s.Atomic = true
names s.Update = true
names s.Private = true
names s.FirstPrivate = true
names s.Shared = true
names s.Reduction = true
names s.Default = true
names s.Schedule = true
names s.Static = true
names s.Dynamic = true
names s.Guided = true
names s.Auto = true
names s.Runtime = true
names s.Collapse = true
names s.FormadPush = true
names s.FormadPop = true
names s.FormadOpen = true
names s.FormadClose = true
names _ = false

abbrev pub word_of : Lexeme → Word
word_of t = record { line = t.line; name = t.bytes }

-- a name of a variable
abbrev pub name : Lexeme → Option Word
name t = if on names t then Some (word_of t) else None

-- whether a word has this symbol
abbrev pub words : Symbol → Bool
words s.Number = false
words s.Four = false
words s.Eight = false
words s.Open = false
words s.Close = false
words s.Comma = false
words s.Equals = false
words s.Plus = false
words s.Minus = false
words s.Star = false
words s.Slash = false
words s.Power = false
words s.Colon = false
words s.Colons = false
words s.Equal = false
words s.Unequal = false
words s.Less = false
words s.AtMost = false
words s.Greater = false
words s.AtLeast = false
words s.And = false
words s.Or = false
words s.Not = false
words s.Sentinel = false
words s.LineEnd = false
words s.Other = false
words _ = true

-- any word
abbrev pub word : Lexeme → Option Word
word t = if on words t then Some (word_of t) else None

-- the word that has these letters, of either case
abbrev pub same_word : List ℕ → Lexeme → Option (Unit {0})
same_word bytes t = if on words t && bytes_eq t.bytes (str_to_ascii_lowercase bytes) then Some tt else None

-- a number that is spelled so
abbrev pub spelled : List ℕ → Lexeme → Bool
spelled bytes t = on numbers t && bytes_eq t.bytes (str_to_ascii_lowercase bytes)

abbrev pub spelled_number : List ℕ → Lexeme → Option (Unit {0})
spelled_number bytes t = if spelled bytes t then Some tt else None

abbrev pub number_by : TokenKind → Option Number
number_by (kind.Number value suffix) = Some (record { value = value; suffix = suffix })
number_by _ = None

abbrev pub number : Lexeme → Option Number
number t = number_by t.kind

-- where it is at most so much
abbrev pub at_most : ℕ → Option Number → Option Number
at_most most None = None
at_most most (Some n) = if nat_le n.value most then Some n else None

-- a number that is at most so much
abbrev pub small_number : ℕ → Lexeme → Option Number
small_number most t = at_most most (number t)

-- the suffix `_8`
abbrev pub is_eight : Option ℕ → Bool
is_eight None = false
is_eight (Some n) = n == 8

-- where it is at most so much, and has no suffix `_8`
abbrev pub without_eight : ℕ → Option Number → Option Number
without_eight most None = None
without_eight most (Some n) = if nat_le n.value most && not (is_eight n.suffix) then Some n else None

-- a number that is at most so much, without the suffix `_8`
abbrev pub plain_number : ℕ → Lexeme → Option Number
plain_number most t = without_eight most (number t)
