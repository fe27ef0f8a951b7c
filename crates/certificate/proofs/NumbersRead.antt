-- A number, digit by digit.
use Rattle.std.proofs.Common.{◌≡◌, ℕ, ◌+◌, ◌-◌, ◌*◌, ◌<◌, ◌≤◌, Bool, true, false, ◌&&◌, nat_le, if◌then◌else◌, List, [], ◌∷◌, length, drop, get_or, Option, Some, None, refl, ap, sym, ◌∙◌, add-one, arith}
use Rattle.std.proofs.Math.Seq.{drop-cons}
use Rattle.std.proofs.lemmas.Bool.Decides.{nat_tests}
use Rattle.std.proofs.lemmas.Grind.{common_steps}
use Rattle.certificate.specs.Numbers.{is_numeral, number_from, above_zero}

-- the number of the digits isn't below that of the first ones
least : (ds : List ℕ) (n : ℕ) → n ≤ number_from n ds
least [] n = omega arith
least (d ∷ ds) n = omega (arith, least ds (n * 10 + (d - 48)))

pub opened : (text : List ℕ) (i n : ℕ) → i < length text → number_from n (drop i text) ≡ number_from (n * 10 + (get_or text i 0 - 48)) (drop (i + 1) text)
opened text i n h = ap (number_from n) (drop-cons text i 0 h ∙ ap (λ k. get_or text i 0 ∷ drop k text) (sym (add-one i)))

abbrev answer : Bool → Bool → ℕ → Option ℕ
answer numeral small n = if numeral && small then Some n else None

not_small : (numeral : Bool) (n : ℕ) → answer numeral false n ≡ None
not_small true n = refl
not_small false n = refl

-- digits that already stand for too great a number
pub too_great : (text : List ℕ) (i n most : ℕ) → number_from n (drop i text) ≡ number_from 0 text → most < n → above_zero most text ≡ None
unfolding above_zero
too_great text i n most e h =
    let test : nat_le (number_from 0 text) most ≡ false = grind (arith, nat_tests, e, least (drop i text) n) in
    ap (λ t. answer (is_numeral text) t (number_from 0 text)) test ∙ not_small (is_numeral text) (number_from 0 text)

pub all_read : (text : List ℕ) (i n most : ℕ) → number_from n (drop i text) ≡ number_from 0 text → length text ≤ i → n ≤ most → is_numeral text ≡ true →
    above_zero most text ≡ Some n
unfolding above_zero
all_read text i n most e h m is =
    let none : drop i text ≡ [] = grind (arith, common_steps) in
    let same : n ≡ number_from 0 text = sym (ap (number_from n) none) ∙ e in
    let test : nat_le (number_from 0 text) most ≡ true = grind (arith, nat_tests, same) in
    ap (λ t. answer t (nat_le (number_from 0 text) most) (number_from 0 text)) is ∙ ap (λ t. answer true t (number_from 0 text)) test ∙ ap (λ k. Some k) (sym same)

pub no_numeral : (text : List ℕ) (most : ℕ) → is_numeral text ≡ false → above_zero most text ≡ None
unfolding above_zero
no_numeral text most is = ap (λ t. answer t (nat_le (number_from 0 text) most) (number_from 0 text)) is
