-- Readers as functions on lists of lexemes.
use Rattle.std.specs.Prelude.{ℕ, zero, suc, Bool, false, if◌then◌else◌, List, [], ◌∷◌, length, Option, Some, None, Result, Ok, Err}
use Rattle.tokens.specs.Lexeme.{Lexeme}
use Rattle.parsing.specs.declared.symbol.Symbol.{Symbol}
use Rattle.parsing.specs.declared.fault.Cause.{Cause}
use Rattle.parsing.specs.declared.fault.Cause.TheVariants.{Expected}
use Rattle.parsing.specs.declared.fault.Fault.{Fault}
use Rattle.parsing.specs.Symbol.{symbol_of}
use Rattle.parsing.specs.Limit.{Limit, less}

abbrev pub Lexemes : Type 0
Lexemes = List Lexeme

-- what was read and what is left, or what was refused
abbrev pub Outcome : Type 0 → Type 0
Outcome A = Result (A × Lexemes) Fault

abbrev pub Parser : Type 0 → Type 0
Parser A = Lexemes → Outcome A

abbrev pub and_then : {A B : Type 0} → Outcome A → (A → Parser B) → Outcome B
and_then (Ok u) f = f u.0 u.1
and_then (Err e) f = Err e

infixl 10 ◌>>=◌
abbrev pub ◌>>=◌ : {A B : Type 0} → Parser A → (A → Parser B) → Parser B
p >>= f = λ ts. and_then (p ts) f

abbrev pub pure : {A : Type 0} → A → Parser A
pure a = λ ts. Ok (a, ts)

abbrev pub fault : Cause → Lexemes → Fault
fault cause ts = record { cause = cause; left = length ts }

abbrev pub refuse : {A : Type 0} → Cause → Parser A
refuse cause = λ ts. Err (fault cause ts)

-- the first token's symbol
abbrev pub ahead : Lexemes → Option Symbol
ahead [] = None
ahead (t ∷ ts) = Some (symbol_of t)

-- whether a first token is there that passes the test
abbrev pub sees : (Lexeme → Bool) → Lexemes → Bool
sees test [] = false
sees test (t ∷ ts) = test t

abbrev pub taken : {A : Type 0} → Option A → Lexeme → Lexemes → Outcome A
taken (Some a) t ts = Ok (a, ts)
taken None t ts = Err (fault Expected (t ∷ ts))

-- the first token, where it reads as something
abbrev pub token_at : {A : Type 0} → (Lexeme → Option A) → Lexemes → Outcome A
token_at read [] = Err (fault Expected [])
token_at read (t ∷ ts) = taken (read t) t ts

abbrev pub token : {A : Type 0} → (Lexeme → Option A) → Parser A
token read = λ ts. token_at read ts

-- the one where the next token passes the test, and else the other
abbrev pub choose : {A : Type 0} → (Lexeme → Bool) → Parser A → Parser A → Parser A
choose test p q = λ ts. if sees test ts then p ts else q ts

-- p where a limit leaves room for it; else the token that would begin it is refused
abbrev pub within : {A : Type 0} → Bool → Cause → Parser A → Parser A
within room cause p = if room then p else refuse cause

-- one more step as long as the next token passes the test, at most so many times; where a limit leaves no room, that token is refused
abbrev pub turns : {A : Type 0} → (Lexeme → Bool) → (A → Bool) → Cause → (A → Parser A) → ℕ → A → Parser A
turns test room cause step zero left = pure left
turns test room cause step (suc n) left = choose test (within (room left) cause (step left >>= turns test room cause step n)) (pure left)

-- the same as often as the tokens go; each step takes one at least
abbrev pub loop : {A : Type 0} → (Lexeme → Bool) → (A → Bool) → Cause → (A → Parser A) → A → Parser A
loop test room cause step left = λ ts. turns test room cause step (length ts) left ts

-- an operation and its right operand, behind what stands left
abbrev pub grouped : {O A : Type 0} → (Lexeme → Option O) → (O → A → A → A) → (Limit → Parser A) → Limit → A → Parser A
grouped op combine operand limit left =
    token op >>= (λ o. operand (less limit) >>= (λ right. pure (combine o left right)))

-- the same as often as operations follow, grouped from the left
abbrev pub left_grouped : {O A : Type 0} → (Lexeme → Bool) → (Lexeme → Option O) → (O → A → A → A) → (Limit → A → Bool) → Cause → (Limit → Parser A) → Limit → A → Parser A
left_grouped test op combine room cause operand limit = loop test (room limit) cause (grouped op combine operand limit)
