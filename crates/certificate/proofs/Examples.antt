-- Certificates and their texts.
use Rattle.std.proofs.Common.{◌≡◌, ℕ, ℤ, pos, negsuc, [], ◌∷◌, Ok, Err, refl}
use Rattle.std.specs.Prelude.{codes}
use Rattle.std.specs.Fmt.{digits}
use Rattle.certificate.specs.declared.derivation.Line.TheVariants.{Hyp, Comb}
use Rattle.certificate.specs.declared.derivation.Close.TheVariants.{Fact}
use Rattle.certificate.specs.declared.derivation.Given.{Given}
use Rattle.certificate.specs.Text.{cert_text}
use Rattle.certificate.specs.Numbers.{above_zero}
use Rattle.certificate.specs.Reading.{heading_in, line_in, close_in, cert_in}

-- the pair of the second access with itself in loop 1, from line n on
abbrev doubled : ℕ → ℤ → Given
doubled n m = record {
  heading = record { line = n; loop_number = 1; first = 2; second = 2 };
  derivation = record { lines = Hyp 1 ∷ Comb (record { multiplier = m; line = 1 } ∷ []) ∷ []; close = Fact 1 (2 ∷ []) };
}

reads_two : cert_in (codes "formad 1\npair 1 2 2\nhyp 1\ncomb 2 1\nclose fact 1 2\nend\n") ≡ Ok (doubled 2 (pos 2) ∷ [])
unfolding cert_in heading_in line_in close_in above_zero
reads_two = refl

-- an empty text, and one without derivations
empty : cert_in [] ≡ Err 1
unfolding cert_in heading_in line_in close_in above_zero
empty = refl

without : cert_in (codes "formad 1\n") ≡ Ok []
unfolding cert_in heading_in line_in close_in above_zero
without = refl

-- a last line without its end, and a text that ends too early
unended : cert_in (codes "formad 1\npair 1 2 2\nclose residue 1\nend") ≡ Err 4
unfolding cert_in heading_in line_in close_in above_zero
unended = refl

early : cert_in (codes "formad 1\npair 1 2 2\nclose residue 1\n") ≡ Err 4
unfolding cert_in heading_in line_in close_in above_zero
early = refl

-- two blanks, a leading zero, a sign before 0, a multiple without its line
blanks : cert_in (codes "formad 1\npair 1  2 2\n") ≡ Err 2
unfolding cert_in heading_in line_in close_in above_zero
blanks = refl

leading : cert_in (codes "formad 1\npair 1 02 2\n") ≡ Err 2
unfolding cert_in heading_in line_in close_in above_zero
leading = refl

signed : cert_in (codes "formad 1\npair 1 2 2\ncomb -0 1\n") ≡ Err 3
unfolding cert_in heading_in line_in close_in above_zero
signed = refl

odd : cert_in (codes "formad 1\npair 1 2 2\ncomb 2\n") ≡ Err 3
unfolding cert_in heading_in line_in close_in above_zero
odd = refl

-- the text of a derivation with a negative multiplier
prints : cert_text (doubled 2 (negsuc 2) ∷ []) ≡ codes "formad 1\npair 1 2 2\nhyp 1\ncomb -3 1\nclose fact 1 2\nend\n"
unfolding cert_text digits
prints = refl
