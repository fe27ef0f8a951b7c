-- Words by their positions.
use Rattle.std.proofs.Common.{◌≡◌, ◌≢◌, ℕ, ◌-◌, ◌<◌, ◌≤◌, List, [], ◌∷◌, length, take, drop, get_or, Option, Some, None, Result, Ok, Err, IsErr, IsErrAnd, refl, ap, sym, subst, ◌∙◌, arith}
use Rattle.std.specs.Prelude.{option_and_then}
use Rattle.std.proofs.lemmas.Grind.{common_steps}
use Rattle.formad_words.specs.declared.error.WordsError.{WordsError}
use Rattle.formad_words.specs.declared.error.WordsError.TheVariants.{Memory}
use Rattle.formad_words.specs.Reads.{Reads}

-- what is left of the words, as code cuts it
left : (n : ℕ) (words : List (List ℕ)) → take (length words - n) (drop n words) ≡ drop n words
left n words = grind (arith, common_steps)

abbrev rest : ℕ → List (List ℕ) → List (List ℕ)
rest n words = take (length words - n) (drop n words)

one : (words : List (List ℕ)) (a : List ℕ) → 1 ≤ length words → a ≡ get_or words 0 a → a ∷ rest 1 words ≡ words
one [] a h p = absurd (omega arith)
one (x ∷ words) a h p = rw (left 1 (x ∷ words)) (cc)

two : (words : List (List ℕ)) (a b : List ℕ) → 2 ≤ length words → a ≡ get_or words 0 a → b ≡ get_or words 1 b → a ∷ b ∷ rest 2 words ≡ words
two [] a b h p q = absurd (omega arith)
two (x ∷ []) a b h p q = absurd (omega arith)
two (x ∷ y ∷ words) a b h p q = rw (left 2 (x ∷ y ∷ words)) (cc)

three : (words : List (List ℕ)) (a b c : List ℕ) → 3 ≤ length words → a ≡ get_or words 0 a → b ≡ get_or words 1 b → c ≡ get_or words 2 c → a ∷ b ∷ c ∷ rest 3 words ≡ words
three [] a b c h p q r = absurd (omega arith)
three (x ∷ []) a b c h p q r = absurd (omega arith)
three (x ∷ y ∷ []) a b c h p q r = absurd (omega arith)
three (x ∷ y ∷ z ∷ words) a b c h p q r = rw (left 3 (x ∷ y ∷ z ∷ words)) (cc)

four : (words : List (List ℕ)) (a b c d : List ℕ) → 4 ≤ length words → a ≡ get_or words 0 a → b ≡ get_or words 1 b → c ≡ get_or words 2 c → d ≡ get_or words 3 d →
    a ∷ b ∷ c ∷ d ∷ rest 4 words ≡ words
four [] a b c d h p q r s = absurd (omega arith)
four (x ∷ []) a b c d h p q r s = absurd (omega arith)
four (x ∷ y ∷ []) a b c d h p q r s = absurd (omega arith)
four (x ∷ y ∷ z ∷ []) a b c d h p q r s = absurd (omega arith)
four (x ∷ y ∷ z ∷ w ∷ words) a b c d h p q r s = rw (left 4 (x ∷ y ∷ z ∷ w ∷ words)) (cc)

-- what is read of words that begin so
pub by_one : {T : Type 0} (f : List (List ℕ) → Option T) (words : List (List ℕ)) (a : List ℕ) (result : Result T WordsError) → 1 ≤ length words → a ≡ get_or words 0 a →
    Reads (f (a ∷ take (length words - 1) (drop 1 words))) result → Reads (f words) result
by_one f words a result h p k = let P : List (List ℕ) → Type 0 = λ ws. Reads (f ws) result in subst P (one words a h p) k

pub by_two : {T : Type 0} (f : List (List ℕ) → Option T) (words : List (List ℕ)) (a b : List ℕ) (result : Result T WordsError) → 2 ≤ length words → a ≡ get_or words 0 a → b ≡ get_or words 1 b →
    Reads (f (a ∷ b ∷ take (length words - 2) (drop 2 words))) result → Reads (f words) result
by_two f words a b result h p q k = let P : List (List ℕ) → Type 0 = λ ws. Reads (f ws) result in subst P (two words a b h p q) k

pub by_three : {T : Type 0} (f : List (List ℕ) → Option T) (words : List (List ℕ)) (a b c : List ℕ) (result : Result T WordsError) → 3 ≤ length words → a ≡ get_or words 0 a → b ≡ get_or words 1 b → c ≡ get_or words 2 c →
    Reads (f (a ∷ b ∷ c ∷ take (length words - 3) (drop 3 words))) result → Reads (f words) result
by_three f words a b c result h p q r k = let P : List (List ℕ) → Type 0 = λ ws. Reads (f ws) result in subst P (three words a b c h p q r) k

pub by_four : {T : Type 0} (f : List (List ℕ) → Option T) (words : List (List ℕ)) (a b c d : List ℕ) (result : Result T WordsError) → 4 ≤ length words → a ≡ get_or words 0 a → b ≡ get_or words 1 b → c ≡ get_or words 2 c → d ≡ get_or words 3 d →
    Reads (f (a ∷ b ∷ c ∷ d ∷ take (length words - 4) (drop 4 words))) result → Reads (f words) result
by_four f words a b c d result h p q r s k = let P : List (List ℕ) → Type 0 = λ ws. Reads (f ws) result in subst P (four words a b c d h p q r s) k

-- what is read of something that was found
pub found_then : {S T : Type 0} (found : Option S) (next : S → Option T) (s : S) (result : Result T WordsError) → found ≡ Some s → Reads (next s) result → Reads (option_and_then next found) result
found_then found next s result e k = let P : Option _ → Type 0 = λ o. Reads (option_and_then next o) result in subst P (sym e) k

-- and of something that wasn't
pub none_then : {S T : Type 0} (found : Option S) (next : S → Option T) (error : WordsError) (result : Result T WordsError) →
    (error ≢ Memory → found ≡ None) → IsErr result × IsErrAnd result (λ e. e ≡ error) → Reads (option_and_then next found) result
none_then found next error (Ok value) none is = cc
none_then found next error (Err given) none is = λ k. ap (option_and_then next) (none (λ m. k (is.1 ∙ m)))

-- an error that a `?` hands on
pub handed_on : {T : Type 0} (found : Option T) (error : WordsError) (result : Result T WordsError) →
    (error ≢ Memory → found ≡ None) → IsErr result × IsErrAnd result (λ e. e ≡ error) → Reads found result
handed_on found error (Ok value) none is = cc
handed_on found error (Err given) none is = λ k. none (λ m. k (is.1 ∙ m))
