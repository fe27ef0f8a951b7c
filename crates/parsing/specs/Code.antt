-- What a function that reads ensures: the outcome of the reading, unless memory is wanting.
use Rattle.std.specs.Prelude.{◌≡◌, Result, Ok, Err}
use Rattle.parsing.specs.declared.fault.Fault.{Fault}
use Rattle.parsing.specs.declared.fault.Failure.{Failure}
use Rattle.parsing.specs.declared.fault.Failure.TheVariants.{Memory, Refused}
use Rattle.parsing.specs.Reading.{Lexemes, Outcome}

abbrev pub Fails : {A : Type 0} → Outcome A → Failure → Type 0
Fails outcome Memory = Unit {0}
Fails outcome (Refused f) = outcome ≡ Err f

abbrev pub Reads : {A : Type 0} → Outcome A → Result A Failure → Lexemes → Type 0
Reads outcome (Ok a) left = outcome ≡ Ok (a, left)
Reads outcome (Err e) left = Fails outcome e

-- the value, unless memory is wanting
abbrev pub Gives : {A : Type 0} → Result A Fault → Result A Failure → Type 0
Gives read (Ok a) = read ≡ Ok a
Gives read (Err Memory) = Unit {0}
Gives read (Err (Refused f)) = read ≡ Err f
