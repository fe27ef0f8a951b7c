-- The text of certificates.
use Rattle.std.specs.Prelude.{ℕ, List, [], ◌∷◌, ◌++◌, Option, Some, None, codes, decimal}
use Rattle.std.specs.Fmt.{signed_decimal}
use Rattle.certificate.specs.declared.derivation.Multiple.{Multiple}
use Rattle.certificate.specs.declared.derivation.Line.{Line}
use Rattle.certificate.specs.declared.derivation.Line.TheVariants.{Hyp, Comb, Cong}
use Rattle.certificate.specs.declared.derivation.Close.{Close}
use Rattle.certificate.specs.declared.derivation.Close.TheVariants.{Distinct, Residue, Range, Fact}
use Rattle.certificate.specs.declared.derivation.Heading.{Heading}
use Rattle.certificate.specs.declared.derivation.Given.{Given}

-- a number behind a blank
abbrev pub number_text : ℕ → List ℕ
number_text n = codes " " ++ decimal n

abbrev pub numbers_text : List ℕ → List ℕ
numbers_text [] = []
numbers_text (n ∷ ns) = number_text n ++ numbers_text ns

abbrev pub multiple_text : Multiple → List ℕ
multiple_text m = codes " " ++ signed_decimal m.multiplier ++ number_text m.line

abbrev pub multiples_text : List Multiple → List ℕ
multiples_text [] = []
multiples_text (m ∷ ms) = multiple_text m ++ multiples_text ms

abbrev pub line_words : Line → List ℕ
line_words (Hyp d) = codes "hyp" ++ number_text d
line_words (Comb ms) = codes "comb" ++ multiples_text ms
line_words (Cong a b ls) = codes "cong" ++ (number_text a ++ (number_text b ++ numbers_text ls))

abbrev pub second_text : Option ℕ → List ℕ
second_text None = []
second_text (Some m) = number_text m

abbrev pub close_words : Close → List ℕ
close_words (Distinct l m) = codes "close distinct" ++ number_text l ++ second_text m
close_words (Residue l) = codes "close residue" ++ number_text l
close_words (Range l) = codes "close range" ++ number_text l
close_words (Fact n ls) = codes "close fact" ++ number_text n ++ numbers_text ls

abbrev pub pair_words : Heading → List ℕ
pair_words h = codes "pair" ++ (number_text h.loop_number ++ (number_text h.first ++ number_text h.second))

abbrev pub line_text : Line → List ℕ
line_text l = line_words l ++ codes "\n"

abbrev pub lines_text : List Line → List ℕ
lines_text [] = []
lines_text (l ∷ ls) = line_text l ++ lines_text ls

abbrev pub given_text : Given → List ℕ
given_text g = pair_words g.heading ++ (codes "\n" ++ (lines_text g.derivation.lines ++ (close_words g.derivation.close ++ codes "\nend\n")))

abbrev pub givens_text : List Given → List ℕ
givens_text [] = []
givens_text (g ∷ gs) = given_text g ++ givens_text gs

-- one line for the format, and then the derivations
unfoldable pub cert_text : List Given → List ℕ
cert_text gs = codes "formad 1\n" ++ givens_text gs
