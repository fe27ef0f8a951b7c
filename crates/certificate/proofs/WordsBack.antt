-- The words of printed lines are read back.
use Rattle.std.proofs.Common.{◌≡◌, ℕ, suc, ◌^◌, ◌<◌, ◌==◌, false, ℤ, pos, negsuc, List, [], ◌∷◌, ◌++◌, map, length, Option, Some, None, refl, ap, sym, ◌∙◌, append_assoc, append-nil, arith}
use Rattle.std.specs.Prelude.{codes, decimal, option_map, option_and_then}
use Rattle.std.specs.Fmt.{signed_decimal}
use Rattle.std.proofs.lemmas.Fmt.{decimal_nonempty}
use Rattle.std.proofs.lemmas.Bool.Decides.{nat_tests}
use Rattle.certificate.specs.declared.derivation.Multiple.{Multiple}
use Rattle.certificate.specs.declared.derivation.Line.{Line}
use Rattle.certificate.specs.declared.derivation.Line.TheVariants.{Hyp, Comb, Cong}
use Rattle.certificate.specs.declared.derivation.Close.{Close}
use Rattle.certificate.specs.declared.derivation.Close.TheVariants.{Distinct, Residue, Range, Fact}
use Rattle.certificate.specs.declared.derivation.Heading.{Heading}
use Rattle.certificate.specs.Numbers.{above_zero, number_up_to, number_in, multiplier_in}
use Rattle.certificate.specs.Text.{number_text, numbers_text, multiples_text, line_words, second_text, close_words, pair_words}
use Rattle.certificate.specs.Reading.{words_of, and_item, numbers_in, multiples_in, line_of, line_in, close_of, close_in, heading_of, heading_in}
use Rattle.certificate.specs.Laws.{Fits, AllFit, MultiplierFits, MultiplesFit, LineFits, SecondFits, CloseFits, HeadingFits, at_line}
use Rattle.certificate.proofs.Decimals.{Free, free-by, free-decimal, above-decimal, number-decimal}
use Rattle.certificate.proofs.Cuts.{cut-at, cut-end}

-- ---- numbers

wide : (n : ℕ) → Fits n → n < 2 ^ 64
wide n h = omega (arith, h)

pub free-number : (c n : ℕ) → c < 48 → Fits n → Free c (decimal n)
free-number c n l h = free-decimal c n l (wide n h)

number-back : (n : ℕ) → Fits n → number_in (decimal n) ≡ Some n
number-back n h = number-decimal 4294967295 n h (wide n h)

numbers-back : (ns : List ℕ) → AllFit ns → numbers_in (map decimal ns) ≡ Some ns
numbers-back [] h = refl
numbers-back (n ∷ ns) h = rw (number-back n h.0, numbers-back ns h.1) refl

cut-numbers : (w : List ℕ) (ns : List ℕ) → Free 32 w → AllFit ns → words_of (w ++ numbers_text ns) ≡ w ∷ map decimal ns
cut-numbers w [] f h = ap words_of (append-nil w) ∙ cut-end 32 w f
cut-numbers w (n ∷ ns) f h =
    cut-at 32 w (decimal n ++ numbers_text ns) refl f ∙ ap (λ t. w ∷ t) (cut-numbers (decimal n) ns (free-number 32 n (omega arith) h.0) h.1)

-- ---- multiples

pub free-signed : (c : ℕ) (z : ℤ) → c < 45 → MultiplierFits z → Free c (signed_decimal z)
free-signed c (pos n) l h = free-number c n (omega (arith, l)) (omega (arith, h))
free-signed c (negsuc n) l h = (not-minus c l, free-number c (suc n) (omega (arith, l)) (omega (arith, h))) where
  not-minus : (c : ℕ) → c < 45 → (45 == c) ≡ false
  not-minus c l = grind (arith, nat_tests)

plain : (ds : List ℕ) → 0 < length ds → Free 45 ds → multiplier_in ds ≡ option_map pos (number_up_to 2147483647 ds)
plain [] h f = absurd (omega arith)
plain (d ∷ ds) h f = rw f.0 refl

multiplier-back : (z : ℤ) → MultiplierFits z → multiplier_in (signed_decimal z) ≡ Some z
multiplier-back (pos n) h =
    let w : n < 2 ^ 64 = omega (arith, h) in
    plain (decimal n) (decimal_nonempty n w) (free-decimal 45 n (omega arith) w) ∙ ap (option_map pos) (number-decimal 2147483647 n h w)
multiplier-back (negsuc n) h = rw (above-decimal 2147483648 (suc n) (omega arith) (omega (arith, h)) (omega (arith, h))) refl

multiple_words : List Multiple → List (List ℕ)
multiple_words [] = []
multiple_words (m ∷ ms) = signed_decimal m.multiplier ∷ decimal m.line ∷ multiple_words ms

multiples-back : (ms : List Multiple) → MultiplesFit ms → multiples_in (multiple_words ms) ≡ Some ms
unfolding multiple_words
multiples-back [] h = refl
multiples-back (m ∷ ms) h = rw (multiplier-back m.multiplier h.0, number-back m.line h.1, multiples-back ms h.2) refl

cut-multiples : (w : List ℕ) (ms : List Multiple) → Free 32 w → MultiplesFit ms → words_of (w ++ multiples_text ms) ≡ w ∷ multiple_words ms
unfolding multiple_words
cut-multiples w [] f h = ap words_of (append-nil w) ∙ cut-end 32 w f
cut-multiples w (m ∷ ms) f h =
    let rest = decimal m.line ++ multiples_text ms in
    let s = signed_decimal m.multiplier in
    ap (λ t. words_of (w ++ 32 ∷ t)) (append_assoc s (32 ∷ decimal m.line) (multiples_text ms))
    ∙ cut-at 32 w (s ++ 32 ∷ rest) refl f
    ∙ ap (λ t. w ∷ t) (cut-at 32 s rest refl (free-signed 32 m.multiplier (omega arith) h.0)
    ∙ ap (λ t. s ∷ t) (cut-multiples (decimal m.line) ms (free-number 32 m.line (omega arith) h.1) h.2))

-- ---- rows

one-number : (n : ℕ) → number_text n ≡ numbers_text (n ∷ [])
one-number n = sym (append-nil (number_text n))

pub line-back : (l : Line) → LineFits l → line_in (words_of (line_words l)) ≡ Some l
unfolding line_in above_zero
line-back (Hyp d) h =
    ap (λ t. line_in (words_of (codes "hyp" ++ t))) (one-number d) ∙ ap line_in (cut-numbers (codes "hyp") (d ∷ []) (free-by 32 (codes "hyp") refl) (h, tt))
    ∙ ap (option_and_then (line_of (codes "hyp"))) (numbers-back (d ∷ []) (h, tt))
line-back (Comb ms) h =
    ap line_in (cut-multiples (codes "comb") ms (free-by 32 (codes "comb") refl) h) ∙ ap (option_map Comb) (multiples-back ms h)
line-back (Cong a b ls) h =
    ap line_in (cut-numbers (codes "cong") (a ∷ b ∷ ls) (free-by 32 (codes "cong") refl) (h.0, (h.1, h.2)))
    ∙ ap (option_and_then (line_of (codes "cong"))) (numbers-back (a ∷ b ∷ ls) (h.0, (h.1, h.2)))

-- the kind of a close with its numbers
abbrev close_row : List ℕ → List ℕ → List ℕ
close_row kind ns = codes "close" ++ 32 ∷ (kind ++ numbers_text ns)

close-words : (kind ns : List ℕ) → Free 32 kind → AllFit ns → words_of (close_row kind ns) ≡ codes "close" ∷ kind ∷ map decimal ns
close-words kind ns f h = cut-at 32 (codes "close") (kind ++ numbers_text ns) refl (free-by 32 (codes "close") refl) ∙ ap (λ t. codes "close" ∷ t) (cut-numbers kind ns f h)

close-row-back : (kind ns : List ℕ) → Free 32 kind → AllFit ns → close_in (words_of (close_row kind ns)) ≡ close_of kind ns
unfolding close_in
close-row-back kind ns f h = ap close_in (close-words kind ns f h) ∙ ap (option_and_then (close_of kind)) (numbers-back ns h)

-- a close is no line
no-line : (kind ns : List ℕ) → Free 32 kind → AllFit ns → number_in kind ≡ None → line_in (words_of (close_row kind ns)) ≡ None
unfolding line_in
no-line kind ns f h e =
    ap line_in (close-words kind ns f h) ∙ ap (λ o. option_and_then (line_of (codes "close")) (and_item o (numbers_in (map decimal ns)))) e

abbrev kind_of : Close → List ℕ
kind_of (Distinct l m) = codes "distinct"
kind_of (Residue l) = codes "residue"
kind_of (Range l) = codes "range"
kind_of (Fact n ls) = codes "fact"

abbrev second_numbers : Option ℕ → List ℕ
second_numbers None = []
second_numbers (Some m) = m ∷ []

abbrev numbers_of : Close → List ℕ
numbers_of (Distinct l m) = l ∷ second_numbers m
numbers_of (Residue l) = l ∷ []
numbers_of (Range l) = l ∷ []
numbers_of (Fact n ls) = n ∷ ls

second-row : (m : Option ℕ) → second_text m ≡ numbers_text (second_numbers m)
second-row None = refl
second-row (Some m) = one-number m

second-fits : (m : Option ℕ) → SecondFits m → AllFit (second_numbers m)
second-fits None h = tt
second-fits (Some m) h = (h, tt)

numbers-fit : (c : Close) → CloseFits c → AllFit (numbers_of c)
numbers-fit (Distinct l m) h = (h.0, second-fits m h.1)
numbers-fit (Residue l) h = (h, tt)
numbers-fit (Range l) h = (h, tt)
numbers-fit (Fact n ls) h = h

kind-free : (c : Close) → Free 32 (kind_of c)
kind-free (Distinct l m) = free-by 32 (kind_of (Distinct l m)) refl
kind-free (Residue l) = free-by 32 (kind_of (Residue l)) refl
kind-free (Range l) = free-by 32 (kind_of (Range l)) refl
kind-free (Fact n ls) = free-by 32 (kind_of (Fact n ls)) refl

kind-none : (c : Close) → number_in (kind_of c) ≡ None
unfolding above_zero
kind-none (Distinct l m) = refl
kind-none (Residue l) = refl
kind-none (Range l) = refl
kind-none (Fact n ls) = refl

close-as-row : (c : Close) → close_words c ≡ close_row (kind_of c) (numbers_of c)
close-as-row (Distinct l m) = ap (λ t. codes "close distinct" ++ number_text l ++ t) (second-row m)
close-as-row (Residue l) = ap (λ t. codes "close residue" ++ t) (one-number l)
close-as-row (Range l) = ap (λ t. codes "close range" ++ t) (one-number l)
close-as-row (Fact n ls) = refl

close-of-row : (c : Close) → close_of (kind_of c) (numbers_of c) ≡ Some c
close-of-row (Distinct l None) = refl
close-of-row (Distinct l (Some m)) = refl
close-of-row (Residue l) = refl
close-of-row (Range l) = refl
close-of-row (Fact n ls) = refl

pub close-back : (c : Close) → CloseFits c → close_in (words_of (close_words c)) ≡ Some c
close-back c h = ap (λ t. close_in (words_of t)) (close-as-row c) ∙ close-row-back (kind_of c) (numbers_of c) (kind-free c) (numbers-fit c h) ∙ close-of-row c

pub close-no-line : (c : Close) → CloseFits c → line_in (words_of (close_words c)) ≡ None
close-no-line c h = ap (λ t. line_in (words_of t)) (close-as-row c) ∙ no-line (kind_of c) (numbers_of c) (kind-free c) (numbers-fit c h) (kind-none c)

pub heading-back : (n : ℕ) (h : Heading) → HeadingFits h → heading_in n (words_of (pair_words h)) ≡ Some (at_line n h)
unfolding heading_in
heading-back n h f =
    let ns = h.loop_number ∷ h.first ∷ h.second ∷ [] in
    let a : AllFit (h.loop_number ∷ h.first ∷ h.second ∷ []) = (f.0, (f.1, (f.2, tt))) in
    ap (λ t. heading_in n (words_of (codes "pair" ++ (number_text h.loop_number ++ (number_text h.first ++ t))))) (one-number h.second)
    ∙ ap (heading_in n) (cut-numbers (codes "pair") ns (free-by 32 (codes "pair") refl) a)
    ∙ ap (option_and_then (heading_of n)) (numbers-back ns a)
