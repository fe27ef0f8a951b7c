-- Printed certificates are read back.
use Rattle.std.specs.Prelude.{◌≡◌, ℕ, ◌+◌, ◌≤◌, ℤ, pos, negsuc, List, [], ◌∷◌, length, Option, Some, None, Ok}
use Rattle.certificate.specs.declared.derivation.Multiple.{Multiple}
use Rattle.certificate.specs.declared.derivation.Line.{Line}
use Rattle.certificate.specs.declared.derivation.Line.TheVariants.{Hyp, Comb, Cong}
use Rattle.certificate.specs.declared.derivation.Close.{Close}
use Rattle.certificate.specs.declared.derivation.Close.TheVariants.{Distinct, Residue, Range, Fact}
use Rattle.certificate.specs.declared.derivation.Heading.{Heading}
use Rattle.certificate.specs.declared.derivation.Given.{Given}
use Rattle.certificate.specs.Text.{cert_text}
use Rattle.certificate.specs.Reading.{cert_in}

-- ---- numbers that a text can hold, as the types of derivations have them

abbrev pub Fits : ℕ → Type 0
Fits n = n ≤ 4294967295

abbrev pub AllFit : List ℕ → Type 0
AllFit [] = Unit {0}
AllFit (n ∷ ns) = Fits n × AllFit ns

abbrev pub MultiplierFits : ℤ → Type 0
MultiplierFits (pos n) = n ≤ 2147483647
MultiplierFits (negsuc n) = n ≤ 2147483647

abbrev pub MultiplesFit : List Multiple → Type 0
MultiplesFit [] = Unit {0}
MultiplesFit (m ∷ ms) = MultiplierFits m.multiplier × Fits m.line × MultiplesFit ms

abbrev pub LineFits : Line → Type 0
LineFits (Hyp d) = Fits d
LineFits (Comb ms) = MultiplesFit ms
LineFits (Cong a b ls) = Fits a × Fits b × AllFit ls

abbrev pub LinesFit : List Line → Type 0
LinesFit [] = Unit {0}
LinesFit (l ∷ ls) = LineFits l × LinesFit ls

abbrev pub SecondFits : Option ℕ → Type 0
SecondFits None = Unit {0}
SecondFits (Some m) = Fits m

abbrev pub CloseFits : Close → Type 0
CloseFits (Distinct l m) = Fits l × SecondFits m
CloseFits (Residue l) = Fits l
CloseFits (Range l) = Fits l
CloseFits (Fact n ls) = Fits n × AllFit ls

abbrev pub HeadingFits : Heading → Type 0
HeadingFits h = Fits h.loop_number × Fits h.first × Fits h.second

abbrev pub GivensFit : List Given → Type 0
GivensFit [] = Unit {0}
GivensFit (g ∷ gs) = HeadingFits g.heading × LinesFit g.derivation.lines × CloseFits g.derivation.close × GivensFit gs

-- ---- the same derivations, each with the number of the line where its pair stands

abbrev pub at_line : ℕ → Heading → Heading
at_line n h = record { line = n; loop_number = h.loop_number; first = h.first; second = h.second }

abbrev pub placed : ℕ → List Given → List Given
placed n [] = []
placed n (g ∷ gs) = record { heading = at_line n g.heading; derivation = g.derivation } ∷ placed (n + length g.derivation.lines + 3) gs

abbrev pub PrintedIsRead : Type 0
PrintedIsRead = (gs : List Given) → GivensFit gs → cert_in (cert_text gs) ≡ Ok (placed 2 gs)
