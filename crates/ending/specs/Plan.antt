-- What is due for a command: which files it asks for, in order, and what it says in the end.
use Rattle.std.specs.Prelude.{ℕ, ◌≤◌, ◌<◌, ◌≡◌, nat_lt, if◌then◌else◌, List, [], ◌∷◌, ◌++◌, length, codes, Option, Some, None, Result, Ok, Err}
use Rattle.outside.specs.States.{Files}
use Rattle.ending.specs.declared.status.Status.{Status}
use Rattle.ending.specs.declared.status.Status.TheVariants.{Done, BadWords, NoFile, OverLimit, ReadFault, NoMemory}
use Rattle.ending.specs.declared.verdict.Verdict.{Verdict}
use Rattle.ending.specs.Verdicts.{status_of}

-- a line of some words and a name
abbrev pub line : List ℕ → List ℕ → List ℕ
line front name = front ++ name ++ 10 ∷ []

abbrev pub no_memory : List ℕ
no_memory = codes "no memory\n"

-- an answer's text; a verdict with its text; a file that is asked for, with what is said of more bytes than the limit and what
-- its bytes lead to; nothing but want of memory
pub data Plan : Type 0 where
  Answers : (text : List ℕ) → Plan
  Says : (verdict : Verdict) (text : List ℕ) → Plan
  Asks : (name : List ℕ) (limit : ℕ) (over : List ℕ) (next : List ℕ → Plan) → Plan
  Wants : Plan

-- a verdict with its text, None where memory is wanting
abbrev pub Saying : Type 0
Saying = Option (Verdict × List ℕ)

abbrev pub says : Saying → Plan
says None = Wants
says (Some saying) = Says saying.0 saying.1

-- a value goes on, and an error is said
abbrev pub or_say : {A E : Type 0} → (E → Saying) → Result A E → (A → Plan) → Plan
or_say say (Ok value) next = next value
or_say say (Err error) next = says (say error)

-- a status with its text comes of a plan over these files
pub data LeadsTo (files : Files) : Plan → Status → List ℕ → Type 0 where
  answered : {text : List ℕ} → LeadsTo files (Answers text) Done text
  said : {verdict : Verdict} {text : List ℕ} → LeadsTo files (Says verdict text) (status_of verdict) text
  fault : {name : List ℕ} {limit : ℕ} {over : List ℕ} {next : List ℕ → Plan} →
      LeadsTo files (Asks name limit over next) ReadFault (line (codes "read fault ") name)
  missing : {name : List ℕ} {limit : ℕ} {over : List ℕ} {next : List ℕ → Plan} →
      files name ≡ None → LeadsTo files (Asks name limit over next) NoFile (line (codes "no file ") name)
  long : {name : List ℕ} {limit : ℕ} {over : List ℕ} {next : List ℕ → Plan} (bytes : List ℕ) →
      files name ≡ Some bytes → limit < length bytes → LeadsTo files (Asks name limit over next) OverLimit over
  read : {name : List ℕ} {limit : ℕ} {over : List ℕ} {next : List ℕ → Plan} {status : Status} {text : List ℕ} (bytes : List ℕ) →
      files name ≡ Some bytes → length bytes ≤ limit → LeadsTo files (next bytes) status text →
      LeadsTo files (Asks name limit over next) status text

-- a status and its text
abbrev pub Answer : Type 0
Answer = Status × List ℕ

-- the answer of a file, where its bytes lead on to an answer
abbrev pub of_file : Option (List ℕ) → List ℕ → ℕ → List ℕ → (List ℕ → Answer) → Answer
of_file None name limit over answer = (NoFile, line (codes "no file ") name)
of_file (Some bytes) name limit over answer = if nat_lt limit (length bytes) then (OverLimit, over) else answer bytes

-- the one answer that is due where nothing fails
unfoldable pub due : Files → Plan → Answer
due files (Answers text) = (Done, text)
due files (Says verdict text) = (status_of verdict, text)
due files (Asks name limit over next) = of_file (files name) name limit over (λ bytes. due files (next bytes))
due files Wants = (NoMemory, no_memory)

-- the plan of the words of a call, None where they are in no command's grammar
abbrev pub due_of : Files → Option Plan → Answer
due_of files None = (BadWords, codes "bad words\n")
due_of files (Some plan) = due files plan
