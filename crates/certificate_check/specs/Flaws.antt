-- The first derivation of a certificate that is for no pair, or isn't accepted.
use Rattle.std.specs.Prelude.{◌≡◌, ℕ, if◌then◌else◌, List, [], ◌∷◌, map, option_map, Option, Some, None, Result, Ok, Err}
use Rattle.index_knowledge.specs.Knowledge.{KnownPair}
use Rattle.certificate.specs.declared.derivation.Given.{Given}
use Rattle.certificate.specs.Reading.{cert_in}
use Rattle.certificate_rules.specs.Surveys.{numbered}
use Rattle.certificate_rules.specs.Tests.{accepts}
use Rattle.acceptance.specs.Told.{derivation_told}
use Rattle.certificate_check.specs.declared.pairing.LoopPairs.{LoopPairs}
use Rattle.certificate_check.specs.declared.flaw.Flaw.{Flaw}
use Rattle.certificate_check.specs.declared.flaw.Flaw.TheVariants.{NoSuchPair, Refused}
use Rattle.certificate_check.specs.declared.fault.CheckError.{CheckError}
use Rattle.certificate_check.specs.declared.fault.CheckError.TheVariants.{Syntax, Flawed, Memory}
use Rattle.certificate_check.specs.Pairs.{KnownLoop, loop_of, pair_at}

-- for each loop of the text in order whether it is parallel, and what is known of it then
abbrev pub Loops : Type 0
Loops = List (Option KnownLoop)

abbrev pub loops_of : List (Option LoopPairs) → Loops
loops_of ls = map (option_map loop_of) ls

abbrev pub flaw_of_pair : (line : ℕ) → KnownLoop → Option KnownPair → Given → Option Flaw
flaw_of_pair n l None g = Some (NoSuchPair n)
flaw_of_pair n l (Some p) g = if accepts l.survey p (derivation_told g.derivation) then None else Some (Refused n)

abbrev pub flaw_in : (active : List (List ℕ)) → Option (Option KnownLoop) → Given → Option Flaw
flaw_in active None g = Some (NoSuchPair g.heading.line)
flaw_in active (Some None) g = Some (NoSuchPair g.heading.line)
flaw_in active (Some (Some l)) g = flaw_of_pair g.heading.line l (pair_at active l g.heading.first g.heading.second) g

-- what is wrong with a derivation; flaws have the number of the line where its `pair` stands
abbrev pub flaw_of : (active : List (List ℕ)) → Loops → Given → Option Flaw
flaw_of active ls g = flaw_in active (numbered ls g.heading.loop_number) g

abbrev pub or_later : Option Flaw → Option Flaw → Option Flaw
or_later None o = o
or_later (Some f) o = Some f

abbrev pub first_flaw : (active : List (List ℕ)) → Loops → List Given → Option Flaw
first_flaw active ls [] = None
first_flaw active ls (g ∷ gs) = or_later (flaw_of active ls g) (first_flaw active ls gs)

-- ---- whole texts

abbrev pub unless_flawed : List Given → Option Flaw → Result (List Given) CheckError
unless_flawed gs None = Ok gs
unless_flawed gs (Some f) = Err (Flawed f)

abbrev pub checked_by : (active : List (List ℕ)) → Loops → Result (List Given) ℕ → Result (List Given) CheckError
checked_by active ls (Ok gs) = unless_flawed gs (first_flaw active ls gs)
checked_by active ls (Err n) = Err (Syntax n)

-- the derivations of a text that is a certificate for these loops, or the first fault
abbrev pub checked : (active : List (List ℕ)) → Loops → (text : List ℕ) → Result (List Given) CheckError
checked active ls text = checked_by active ls (cert_in text)

-- a check answers that, or memory is wanting
abbrev pub Checks : Result (List Given) CheckError → Result (List Given) CheckError → Type 0
Checks found (Ok list) = found ≡ Ok list
Checks found (Err (Syntax n)) = found ≡ Err (Syntax n)
Checks found (Err (Flawed f)) = found ≡ Err (Flawed f)
Checks found (Err Memory) = Unit {0}
