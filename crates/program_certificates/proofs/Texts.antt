-- Texts go by what derivations stand for.
use Rattle.std.proofs.Common.{◌≡◌, ℕ, Bool, List, [], ◌∷◌, ◌++◌, map, refl, sym, ap, ◌∙◌}
use Rattle.std.specs.Prelude.{codes}
use Rattle.fl_ast.specs.declared.stmt.Program.{Program}
use Rattle.certificate.specs.declared.derivation.Multiple.{Multiple}
use Rattle.certificate.specs.declared.derivation.Line as program_line
use Rattle.certificate.specs.declared.derivation.Line.TheVariants.{Hyp, Comb, Cong}
use Rattle.certificate.specs.declared.derivation.Close as program_close
use Rattle.certificate.specs.declared.derivation.Close.TheVariants.{Distinct, Residue, Range, Fact}
use Rattle.certificate.specs.declared.derivation.Given.{Given}
use Rattle.certificate.specs.Text.{pair_words, lines_text, close_words, given_text, givens_text, cert_text}
use Rattle.acceptance.specs.Told.{multiple_told, line_told, close_told}
use Rattle.sharing_choice.specs.Choosing.{DerivedPair}
use Rattle.sharing_choice.specs.Shown.{given_told}
use Rattle.program_certificates.specs.Choices.{stated_derivations}
use Rattle.program_certificates.specs.Texts.{multiple_of, line_of, close_of, given_of, proved_text}

multiples_back : (ms : List Multiple) → map multiple_of (map multiple_told ms) ≡ ms
multiples_back [] = refl
multiples_back (m ∷ ms) = ap (λ (r : List Multiple). m ∷ r) (multiples_back ms)

line_back : (l : program_line.Line) → line_of (line_told l) ≡ l
line_back (Hyp d) = refl
line_back (Comb ms) = ap Comb (multiples_back ms)
line_back (Cong a b ls) = refl

lines_back : (ls : List program_line.Line) → map line_of (map line_told ls) ≡ ls
lines_back [] = refl
lines_back (l ∷ ls) = ap (λ (x : program_line.Line). x ∷ map line_of (map line_told ls)) (line_back l) ∙ ap (λ (r : List program_line.Line). l ∷ r) (lines_back ls)

close_back : (c : program_close.Close) → close_of (close_told c) ≡ c
close_back (Distinct l m) = refl
close_back (Residue l) = refl
close_back (Range l) = refl
close_back (Fact n ls) = refl

-- where a `pair` line stood plays no part
text_back : (g : Given) → given_text (given_of (given_told g)) ≡ given_text g
text_back g =
    ap (λ (ls : List program_line.Line). pair_words g.heading ++ (codes "\n" ++ (lines_text ls ++ (close_words (close_of (close_told g.derivation.close)) ++ codes "\nend\n")))) (lines_back g.derivation.lines)
    ∙ ap (λ (c : program_close.Close). pair_words g.heading ++ (codes "\n" ++ (lines_text g.derivation.lines ++ (close_words c ++ codes "\nend\n")))) (close_back g.derivation.close)

texts_back : (gs : List Given) → givens_text (map given_of (map given_told gs)) ≡ givens_text gs
texts_back [] = refl
texts_back (g ∷ gs) = ap (λ (t : List ℕ). t ++ givens_text (map given_of (map given_told gs))) (text_back g) ∙ ap (λ (t : List ℕ). given_text g ++ t) (texts_back gs)

cert_back : (gs : List Given) → cert_text (map given_of (map given_told gs)) ≡ cert_text gs
unfolding cert_text
cert_back gs = ap (λ (t : List ℕ). codes "formad 1\n" ++ t) (texts_back gs)

pub text_proved : (p : Program) (on : List ℕ → Bool) (gs hs : List Given) (text : List ℕ) → map given_told gs ≡ stated_derivations p on → hs ≡ gs → text ≡ cert_text hs → text ≡ proved_text p on
unfolding proved_text
text_proved p on gs hs text e h t = t ∙ (ap cert_text h ∙ (sym (cert_back gs) ∙ ap (λ (ps : List DerivedPair). cert_text (map given_of ps)) e))
