-- Tokens that are slices of a text in order are spelled as their kinds are.
use Rattle.std.proofs.Common.{◌≡◌, ℕ, suc, ◌≤◌, Bool, true, ◌&&◌, nat_le, List, [], ◌∷◌, ◌++◌, length, map, slice_range, inl, inr, refl, ap, ◌∙◌, arith}
use Rattle.std.specs.List.{list_all}
use Rattle.std.specs.Char.{to_ascii_lowercase}
use Rattle.std.specs.Str.{str_to_ascii_lowercase}
use Rattle.std.proofs.lemmas.Bool.Decides.{nat_tests}
use Rattle.fl_base.specs.Spelling.{is_small_letter, is_name_byte, is_name}
use Rattle.tokens.specs.declared.TokenKind.{TokenKind}
use Rattle.tokens.specs.declared.TokenKind.TheVariants.{Word, Number, Mark, Dots, Sentinel, LineEnd}
use Rattle.tokens.specs.Spelled.{has_bytes, is_spelled_as, AreSpelled}
use Rattle.fl_lexer.specs.Bytes.{is_letter, is_word}
use Rattle.fl_lexer.specs.Spelling.{Each, IsName, IsDigits}
use Rattle.fl_lexer.specs.Placement.{IsText, InOrder}
use Rattle.fl_lexer.specs.Reading.{Tokens}

letter_lowered : (b : ℕ) → is_letter b ≡ true → is_small_letter (to_ascii_lowercase b) ≡ true
letter_lowered b h = grind (arith, nat_tests)

word_lowered : (b : ℕ) → is_word b ≡ true → is_name_byte (to_ascii_lowercase b) ≡ true
word_lowered b h = grind (arith, nat_tests)

both : (a b : Bool) → a ≡ true → b ≡ true → (a && b) ≡ true
both a b h k = rw (h, k) refl

words_lowered : (bs : List ℕ) → Each is_word bs → list_all is_name_byte (map to_ascii_lowercase bs) ≡ true
words_lowered [] h = refl
words_lowered (b ∷ bs) h = both _ _ (word_lowered b h.0) (words_lowered bs h.1)

few_lowered : (bs : List ℕ) → length bs ≤ 62 → nat_le (length (map to_ascii_lowercase bs)) 62 ≡ true
few_lowered bs h = let e : length (map to_ascii_lowercase bs) ≡ length bs = same bs in grind (arith, nat_tests)
  where
    same : (bs : List ℕ) → length (map to_ascii_lowercase bs) ≡ length bs
    same [] = refl
    same (b ∷ bs) = ap suc (same bs)

name_lowered : (bs : List ℕ) → IsName bs → length bs ≤ 63 → is_name (str_to_ascii_lowercase bs) ≡ true
name_lowered [] i h = absurd i
name_lowered (b ∷ bs) i h = both _ _ (letter_lowered b i.0) (both _ _ (words_lowered bs i.1) (few_lowered bs (omega (arith, h))))

digits_some : (ds es : List ℕ) → IsDigits ds → has_bytes (str_to_ascii_lowercase (ds ++ es)) ≡ true
digits_some [] es i = absurd i
digits_some (d ∷ ds) es i = refl

at_most : (n m : ℕ) → n ≤ m → nat_le n m ≡ true
at_most n m h = grind (arith, nat_tests)

spelled_as : (kind : TokenKind) (bs : List ℕ) → IsText kind bs → is_spelled_as kind (str_to_ascii_lowercase bs) ≡ true
spelled_as Word bs i = name_lowered bs i.0 i.1
spelled_as (Number value suffix) bs (ds, es, e, digits, s, v, few) =
    both _ _ (ap (λ v. has_bytes (str_to_ascii_lowercase v)) e ∙ digits_some ds es digits) (at_most value _ few)
spelled_as Mark bs (inl (b, e, m)) = ap (λ v. has_bytes (str_to_ascii_lowercase v)) e
spelled_as Mark bs (inr (a, b, e, m, p)) = ap (λ v. has_bytes (str_to_ascii_lowercase v)) e
spelled_as Dots bs (w, e, l, d) = ap (λ v. has_bytes (str_to_ascii_lowercase v)) e
spelled_as Sentinel bs i = ap has_bytes i
spelled_as LineEnd bs i = refl

pub spelled_in_order : (text : List ℕ) (from : ℕ) (ts : Tokens) → InOrder text from ts → AreSpelled text from ts
spelled_in_order text from [] i = tt
spelled_in_order text from (t ∷ ts) i = (i.0, i.1, i.2, spelled_as t.kind (slice_range text t.start t.end) i.3, spelled_in_order text t.end ts i.4)
