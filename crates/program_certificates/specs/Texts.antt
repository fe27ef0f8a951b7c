-- The certificate of a program's plain pairs.
use Rattle.std.specs.Prelude.{ℕ, ℤ, Bool, List, map}
use Rattle.fl_ast.specs.declared.stmt.Program.{Program}
use Rattle.certificate.specs.declared.derivation.Multiple.{Multiple}
use Rattle.certificate.specs.declared.derivation.Line as program_line
use Rattle.certificate.specs.declared.derivation.Line.TheVariants.{Hyp, Comb, Cong}
use Rattle.certificate.specs.declared.derivation.Close as program_close
use Rattle.certificate.specs.declared.derivation.Close.TheVariants.{Distinct, Residue, Range, Fact}
use Rattle.certificate.specs.declared.derivation.Given.{Given}
use Rattle.certificate.specs.Text.{cert_text}
use Rattle.certificate_rules.specs.Derivations.{Line, hyp, comb, cong, Close, distinct, residue, range, fact}
use Rattle.sharing_choice.specs.Choosing.{DerivedPair}
use Rattle.program_certificates.specs.Choices.{stated_derivations}

abbrev pub multiple_of : ℤ × ℕ → Multiple
multiple_of m = record { multiplier = m.0; line = m.1 }

abbrev pub line_of : Line → program_line.Line
line_of (hyp d) = Hyp d
line_of (comb ms) = Comb (map multiple_of ms)
line_of (cong a b ls) = Cong a b ls

abbrev pub close_of : Close → program_close.Close
close_of (distinct l m) = Distinct l m
close_of (residue l) = Residue l
close_of (range l) = Range l
close_of (fact n ls) = Fact n ls

-- a derivation that stands in no text yet
abbrev pub given_of : DerivedPair → Given
given_of p = record {
  heading = record { line = 0; loop_number = p.loop_number; first = p.first; second = p.second };
  derivation = record { lines = map line_of p.derived.lines; close = close_of p.derived.close };
}

-- the text of the derivations that are stated for the plain pairs of names whose increments aren't collected by iteration
unfoldable pub proved_text : Program → (active : List ℕ → Bool) → List ℕ
proved_text p active = cert_text (map given_of (stated_derivations p active))
