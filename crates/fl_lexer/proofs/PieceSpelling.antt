-- A piece that is spelled so is read, and a piece that is read is spelled so.
use Rattle.std.proofs.Common.{◌≡◌, ℕ, zero, suc, ◌+◌, ◌-◌, ◌<◌, ◌≤◌, Bool, true, false, cond, eqb, ◌&&◌, ◌||◌, ◌⊎◌, inl, inr, List, [], ◌∷◌, ◌++◌, length, take, drop, Option, Some, None, refl, ap, sym, ◌∙◌, subst, arith, length-append, append_assoc}
use Rattle.std.specs.Prelude.{if◌then◌else◌, nat_le}
use Rattle.std.specs.List.{prefix_len}
use Rattle.std.proofs.lemmas.List.Sums.{prefix_len-le-length}
use Rattle.std.proofs.lemmas.Bool.Decides.{nat_tests}
use Rattle.tokens.specs.declared.TokenKind.{TokenKind}
use Rattle.tokens.specs.declared.TokenKind.TheVariants.{Word, Number, Mark, Dots, Sentinel, LineEnd}
use Rattle.fl_lexer.specs.declared.piece.Piece.{Piece}
use Rattle.fl_lexer.specs.declared.piece.PieceKind.{PieceKind}
use Rattle.fl_lexer.specs.declared.piece.PieceKind.TheVariants.{Blank, Lexical, BadByte, LongName, WideLiteral}
use Rattle.fl_lexer.specs.Bytes.{is_blank, is_letter, is_digit, is_word, is_mark, is_pair, begins}
use Rattle.fl_lexer.specs.Pieces.{piece, suffix_of, suffix_len_of, literal, number_from, number_of, name_of, dots_of, mark_of, piece_of, is_dot_word}
use Rattle.fl_lexer.specs.Spelling.{Each, IsName, IsDigits, IsSuffix, EndsNumber, IsOneMark, IsTwoMarks, IsLexical, IsPiece}
use Rattle.std.proofs.lemmas.List.{length-take-le, drop-drop}
use Rattle.fl_lexer.proofs.PieceLaws.{chosen}

-- the first of two, and the second
yes_one : {A : Type 0} (t : Bool) (x y : A) → t ≡ true → cond t x y ≡ x
yes_one t x y h = ap (λ s. cond s x y) h

no_one : {A : Type 0} (t : Bool) (x y : A) → t ≡ false → cond t x y ≡ y
no_one t x y h = ap (λ s. cond s x y) h

-- how far a class goes where what follows isn't of it
pub each_len : (test : ℕ → Bool) (bs rest : List ℕ) → Each test bs → begins test rest ≡ false → prefix_len test (bs ++ rest) ≡ length bs
each_len test [] [] e h = refl
each_len test [] (r ∷ rest) e h = no_one (test r) (1 + prefix_len test rest) 0 h
each_len test (b ∷ bs) rest e h =
    let rec : prefix_len test (bs ++ rest) ≡ length bs = each_len test bs rest e.1 h in
    yes_one (test b) (1 + prefix_len test (bs ++ rest)) 0 e.0 ∙ omega (arith, rec)

pub take_front : (bs rest : List ℕ) → take (length bs) (bs ++ rest) ≡ bs
take_front [] rest = refl
take_front (b ∷ bs) rest = ap (λ cs. b ∷ cs) (take_front bs rest)

pub drop_front : (bs rest : List ℕ) → drop (length bs) (bs ++ rest) ≡ rest
drop_front [] rest = refl
drop_front (b ∷ bs) rest = drop_front bs rest

letter_no_blank : (b : ℕ) → is_letter b ≡ true → is_blank b ≡ false
letter_no_blank b h = grind (arith, nat_tests)

digit_no_blank : (b : ℕ) → is_digit b ≡ true → is_blank b ≡ false
digit_no_blank b h = grind (arith, nat_tests)

digit_no_letter : (b : ℕ) → is_digit b ≡ true → is_letter b ≡ false
digit_no_letter b h = grind (arith, nat_tests)

mark_no_blank : (b : ℕ) → is_mark b ≡ true → is_blank b ≡ false
mark_no_blank b h = grind (arith, nat_tests)

mark_no_letter : (b : ℕ) → is_mark b ≡ true → is_letter b ≡ false
mark_no_letter b h = grind (arith, nat_tests)

mark_no_digit : (b : ℕ) → is_mark b ≡ true → is_digit b ≡ false
mark_no_digit b h = grind (arith, nat_tests)

mark_no_dot : (b : ℕ) → is_mark b ≡ true → eqb b 46 ≡ false
mark_no_dot b h = grind (arith, nat_tests)

within_true : (n m : ℕ) → n ≤ m → nat_le n m ≡ true
within_true n m h = grind (arith, nat_tests)

name_again : (b : ℕ) (bs rest : List ℕ) → is_letter b ≡ true → Each is_word bs → suc (length bs) ≤ 63 → begins is_word rest ≡ false →
    piece_of (b ∷ bs ++ rest) ≡ piece (suc (length bs)) (Lexical Word)
unfolding piece_of
name_again b bs rest l e short h =
    let len : 1 + prefix_len is_word (bs ++ rest) ≡ suc (length bs) = omega (arith, each_len is_word bs rest e h) in
    no_one (is_blank b) _ _ (letter_no_blank b l) ∙ yes_one (is_letter b) _ _ l ∙ ap name_of len
    ∙ ap (piece (suc (length bs))) (yes_one (nat_le (suc (length bs)) 63) (Lexical Word) LongName (within_true (suc (length bs)) 63 short))

suffix_again : (s : Option ℕ) (es rest : List ℕ) → IsSuffix s es → EndsNumber s rest → (suffix_of (es ++ rest) ≡ s) × (begins is_digit (es ++ rest) ≡ false) × (suffix_len_of s ≡ length es)
suffix_again None es rest i e = subst (λ (fs : List ℕ). (suffix_of (fs ++ rest) ≡ None) × (begins is_digit (fs ++ rest) ≡ false) × (0 ≡ length fs)) (sym i) (e.1, e.0, refl)
suffix_again (Some k) es rest (inl i) e =
    let at : List ℕ → ℕ → Type 0 = λ (fs : List ℕ) (n : ℕ). (suffix_of (fs ++ rest) ≡ Some n) × (begins is_digit (fs ++ rest) ≡ false) × (2 ≡ length fs) in
    subst (λ (n : ℕ). at es n) (sym i.0) (subst (λ (fs : List ℕ). at fs 4) (sym i.1) (refl, refl, refl))
suffix_again (Some k) es rest (inr i) e =
    let at : List ℕ → ℕ → Type 0 = λ (fs : List ℕ) (n : ℕ). (suffix_of (fs ++ rest) ≡ Some n) × (begins is_digit (fs ++ rest) ≡ false) × (2 ≡ length fs) in
    subst (λ (n : ℕ). at es n) (sym i.0) (subst (λ (fs : List ℕ). at fs 8) (sym i.1) (refl, refl, refl))

number_is : (s : Option ℕ) (ds es rest : List ℕ) → Each is_digit ds → IsSuffix s es → EndsNumber s rest → number_from 0 ds ≤ 9223372036854775807 →
    number_of (ds ++ (es ++ rest)) ≡ piece (length (ds ++ es)) (Lexical (Number (number_from 0 ds) s))
number_is s ds es rest e i n small =
    let q = suffix_again s es rest i n in
    let len : prefix_len is_digit (ds ++ (es ++ rest)) ≡ length ds = each_len is_digit ds (es ++ rest) e q.1 in
    let all = ds ++ (es ++ rest) in
    let size : length ds + suffix_len_of s ≡ length (ds ++ es) = omega (arith, q.2, length-append ds es) in
    ap (λ (k : ℕ). piece (k + suffix_len_of (suffix_of (drop k all))) (literal (number_from 0 (take k all)) (suffix_of (drop k all)))) len
    ∙ ap (λ (r : List ℕ). piece (length ds + suffix_len_of (suffix_of r)) (literal (number_from 0 (take (length ds) all)) (suffix_of r))) (drop_front ds (es ++ rest))
    ∙ ap (λ (f : List ℕ). piece (length ds + suffix_len_of (suffix_of (es ++ rest))) (literal (number_from 0 f) (suffix_of (es ++ rest)))) (take_front ds (es ++ rest))
    ∙ ap (λ (t : Option ℕ). piece (length ds + suffix_len_of t) (literal (number_from 0 ds) t)) q.0
    ∙ ap (λ (k : ℕ). piece k (literal (number_from 0 ds) s)) size
    ∙ ap (piece (length (ds ++ es))) (yes_one (nat_le (number_from 0 ds) 9223372036854775807) (Lexical (Number (number_from 0 ds) s)) WideLiteral (within_true _ _ small))

digits_again : (b : ℕ) (bs : List ℕ) → is_digit b ≡ true → piece_of (b ∷ bs) ≡ number_of (b ∷ bs)
unfolding piece_of
digits_again b bs h = no_one (is_blank b) _ _ (digit_no_blank b h) ∙ no_one (is_letter b) _ _ (digit_no_letter b h) ∙ yes_one (is_digit b) _ _ h

dots_again : (w rest : List ℕ) → Each is_letter w → is_dot_word w ≡ true → piece_of (46 ∷ (w ++ 46 ∷ rest)) ≡ piece (length w + 2) (Lexical Dots)
unfolding piece_of
dots_again w rest e d =
    let all = w ++ 46 ∷ rest in
    let len : prefix_len is_letter all ≡ length w = each_len is_letter w (46 ∷ rest) e refl in
    ap (λ (k : ℕ). if is_dot_word (take k all) && begins (λ b. eqb b 46) (drop k all) then piece (k + 2) (Lexical Dots) else piece 1 BadByte) len
    ∙ ap (λ (r : List ℕ). if is_dot_word (take (length w) all) && begins (λ b. eqb b 46) r then piece (length w + 2) (Lexical Dots) else piece 1 BadByte) (drop_front w (46 ∷ rest))
    ∙ ap (λ (f : List ℕ). if is_dot_word f && true then piece (length w + 2) (Lexical Dots) else piece 1 BadByte) (take_front w (46 ∷ rest))
    ∙ ap (λ (t : Bool). if t && true then piece (length w + 2) (Lexical Dots) else piece 1 BadByte) d

marks_again : (b : ℕ) (bs : List ℕ) → is_mark b ≡ true → piece_of (b ∷ bs) ≡ mark_of b bs
unfolding piece_of
marks_again b bs h =
    no_one (is_blank b) _ _ (mark_no_blank b h) ∙ no_one (is_letter b) _ _ (mark_no_letter b h) ∙ no_one (is_digit b) _ _ (mark_no_digit b h)
    ∙ no_one (eqb b 46) _ _ (mark_no_dot b h) ∙ yes_one (is_mark b) _ _ h

one_again : (b : ℕ) (rest : List ℕ) → begins (is_pair b) rest ≡ false → mark_of b rest ≡ piece 1 (Lexical Mark)
one_again b rest h = ap (λ (t : Bool). piece (if t then 2 else 1) (Lexical Mark)) h

two_again : (a b : ℕ) (rest : List ℕ) → is_pair a b ≡ true → mark_of a (b ∷ rest) ≡ piece 2 (Lexical Mark)
two_again a b rest h = ap (λ (t : Bool). piece (if t then 2 else 1) (Lexical Mark)) h

blank_again : (b : ℕ) (rest : List ℕ) → is_blank b ≡ true → piece_of (b ∷ rest) ≡ piece 1 Blank
unfolding piece_of
blank_again b rest h = yes_one (is_blank b) _ _ h

word_again : (bs rest : List ℕ) → IsName bs → length bs ≤ 63 → begins is_word rest ≡ false → piece_of (bs ++ rest) ≡ piece (length bs) (Lexical Word)
word_again [] rest i short h = absurd i
word_again (b ∷ bs) rest i short h = name_again b bs rest i.0 i.1 short h

numeral_again : (s : Option ℕ) (ds es rest : List ℕ) → IsDigits ds → IsSuffix s es → EndsNumber s rest → number_from 0 ds ≤ 9223372036854775807 →
    piece_of ((ds ++ es) ++ rest) ≡ piece (length (ds ++ es)) (Lexical (Number (number_from 0 ds) s))
numeral_again s [] es rest d i n small = absurd d
numeral_again s (b ∷ ds) es rest d i n small =
    ap piece_of (append_assoc (b ∷ ds) es rest) ∙ digits_again b (ds ++ (es ++ rest)) d.0 ∙ number_is s (b ∷ ds) es rest d i n small

dotted_again : (w rest : List ℕ) → Each is_letter w → is_dot_word w ≡ true → piece_of ((46 ∷ w ++ 46 ∷ []) ++ rest) ≡ piece (length (46 ∷ w ++ 46 ∷ [])) (Lexical Dots)
dotted_again w rest e d =
    let size : length w + 2 ≡ length (46 ∷ w ++ 46 ∷ []) = omega (arith, length-append w (46 ∷ [])) in
    ap (λ r. piece_of (46 ∷ r)) (append_assoc w (46 ∷ []) rest) ∙ dots_again w rest e d ∙ ap (λ n. piece n (Lexical Dots)) size

mark_again : (bs rest : List ℕ) → IsOneMark bs rest ⊎ IsTwoMarks bs → piece_of (bs ++ rest) ≡ piece (length bs) (Lexical Mark)
mark_again bs rest (inl (b, e, m, h)) =
    subst (λ (cs : List ℕ). piece_of (cs ++ rest) ≡ piece (length cs) (Lexical Mark)) (sym e) (marks_again b rest m ∙ one_again b rest h)
mark_again bs rest (inr (a, b, e, m, h)) =
    subst (λ (cs : List ℕ). piece_of (cs ++ rest) ≡ piece (length cs) (Lexical Mark)) (sym e) (marks_again a (b ∷ rest) m ∙ two_again a b rest h)

lexical_again : (kind : TokenKind) (bs rest : List ℕ) → IsLexical kind bs rest → piece_of (bs ++ rest) ≡ piece (length bs) (Lexical kind)
lexical_again Word bs rest i = word_again bs rest i.0 i.1 i.2
lexical_again (Number v s) bs rest ((ds, es, e, d, f, value, small), n) =
    let less : number_from 0 ds ≤ 9223372036854775807 = subst (λ (k : ℕ). k ≤ 9223372036854775807) value small in
    subst (λ (cs : List ℕ). piece_of (cs ++ rest) ≡ piece (length cs) (Lexical (Number v s))) (sym e)
    (numeral_again s ds es rest d f n less ∙ ap (λ (k : ℕ). piece (length (ds ++ es)) (Lexical (Number k s))) (sym value))
lexical_again Mark bs rest i = mark_again bs rest i
lexical_again Dots bs rest (w, e, l, d) = subst (λ (cs : List ℕ). piece_of (cs ++ rest) ≡ piece (length cs) (Lexical Dots)) (sym e) (dotted_again w rest l d)
lexical_again Sentinel bs rest i = absurd i
lexical_again LineEnd bs rest i = absurd i

-- bytes that spell a piece begin with it, whatever stands behind them
pub piece_again : (kind : PieceKind) (bs rest : List ℕ) → IsPiece kind bs rest → piece_of (bs ++ rest) ≡ piece (length bs) kind
piece_again Blank bs rest (b, e, h) = subst (λ (cs : List ℕ). piece_of (cs ++ rest) ≡ piece (length cs) Blank) (sym e) (blank_again b rest h)
piece_again (Lexical kind) bs rest i = lexical_again kind bs rest i
piece_again BadByte bs rest i = absurd i
piece_again LongName bs rest i = absurd i
piece_again WideLiteral bs rest i = absurd i

-- The other way round.

-- the front of a class
pub each_front : (test : ℕ → Bool) (bs : List ℕ) → Each test (take (prefix_len test bs) bs)
each_front test [] = tt
each_front test (b ∷ bs) =
    let n = prefix_len test bs in
    let one : suc n ≡ 1 + n = omega arith in
    chosen (test b) (1 + n) 0 (λ (k : ℕ). Each test (take k (b ∷ bs))) (λ h. subst (λ (k : ℕ). Each test (take k (b ∷ bs))) one (h, each_front test bs)) (λ _. tt)

pub ends_front : (test : ℕ → Bool) (bs : List ℕ) → begins test (drop (prefix_len test bs) bs) ≡ false
ends_front test [] = refl
ends_front test (b ∷ bs) =
    let n = prefix_len test bs in
    let one : suc n ≡ 1 + n = omega arith in
    chosen (test b) (1 + n) 0 (λ (k : ℕ). begins test (drop k (b ∷ bs)) ≡ false) (λ h. subst (λ (k : ℕ). begins test (drop k (b ∷ bs)) ≡ false) one (ends_front test bs)) (λ h. h)

pub take_both : (n k : ℕ) (bs : List ℕ) → take (n + k) bs ≡ take n bs ++ take k (drop n bs)
take_both zero k bs = let e : 0 + k ≡ k = omega arith in ap (λ m. take m bs) e
take_both (suc n) k [] = let e : suc n + k ≡ suc (n + k) = omega arith in ap (λ m. take m []) e ∙ nothing k
  where
    nothing : (k : ℕ) → ◌≡◌ {A = List ℕ} [] (take k [])
    nothing zero = refl
    nothing (suc k) = refl
take_both (suc n) k (b ∷ bs) = let e : suc n + k ≡ suc (n + k) = omega arith in ap (λ m. take m (b ∷ bs)) e ∙ ap (λ cs. b ∷ cs) (take_both n k bs)

pub drop_both : (n k : ℕ) (bs : List ℕ) → drop (n + k) bs ≡ drop k (drop n bs)
drop_both n k bs = sym (drop-drop k n bs)

-- a piece, where it is no refusal, is spelled so
abbrev pub Sound : PieceKind → List ℕ → List ℕ → Type 0
Sound Blank bs rest = IsPiece Blank bs rest
Sound (Lexical kind) bs rest = IsLexical kind bs rest
Sound BadByte bs rest = Unit {0}
Sound LongName bs rest = Unit {0}
Sound WideLiteral bs rest = Unit {0}

abbrev pub SoundAt : List ℕ → Piece → Type 0
SoundAt bs x = Sound x.kind (take x.len bs) (drop x.len bs)

true_within : (n m : ℕ) → nat_le n m ≡ true → n ≤ m
true_within n m h = grind (arith, nat_tests)

name_found : (b : ℕ) (bs : List ℕ) → is_letter b ≡ true → SoundAt (b ∷ bs) (name_of (1 + prefix_len is_word bs))
name_found b bs h =
    let n = prefix_len is_word bs in
    let one : suc n ≡ 1 + n = omega arith in
    chosen (nat_le (1 + n) 63) (Lexical Word) LongName (λ (k : PieceKind). Sound k (take (1 + n) (b ∷ bs)) (drop (1 + n) (b ∷ bs)))
    (λ short.
    let less : suc (length (take n bs)) ≤ 63 = omega (arith, true_within (1 + n) 63 short, length-take-le n bs (prefix_len-le-length is_word bs)) in
    subst (λ (k : ℕ). IsLexical Word (take k (b ∷ bs)) (drop k (b ∷ bs))) one ((h, each_front is_word bs), less, ends_front is_word bs))
    (λ _. tt)

or_true : (s t : Bool) → (s || t) ≡ true → (s ≡ true) ⊎ (t ≡ true)
or_true true t h = inl refl
or_true false t h = inr h

pub and_first : (s t : Bool) → (s && t) ≡ true → s ≡ true
and_first true t h = refl
and_first false t h = h

pub and_second : (s t : Bool) → (s && t) ≡ true → t ≡ true
and_second true t h = h
and_second false t h = absurd (let e : false ≡ true = h in cc)

pub same_byte : (a b : ℕ) → eqb a b ≡ true → a ≡ b
same_byte a b h = grind (arith, nat_tests)

suffix_is : (c d : ℕ) → c ≡ 95 → (eqb d 52 ≡ true) ⊎ (eqb d 56 ≡ true) → IsSuffix (Some (d - 48)) (c ∷ d ∷ [])
suffix_is c d e (inl f) = let g = same_byte d 52 f in inl (ap (λ n. n - 48) g, ap (λ n. n ∷ d ∷ []) e ∙ ap (λ n. 95 ∷ n ∷ []) g)
suffix_is c d e (inr f) = let g = same_byte d 56 f in inr (ap (λ n. n - 48) g, ap (λ n. n ∷ d ∷ []) e ∙ ap (λ n. 95 ∷ n ∷ []) g)

suffix_found : (bs : List ℕ) → IsSuffix (suffix_of bs) (take (suffix_len_of (suffix_of bs)) bs)
suffix_found [] = refl
suffix_found (c ∷ []) = refl
suffix_found (c ∷ d ∷ bs) =
    chosen ((eqb c 95) && ((eqb d 52) || (eqb d 56))) (Some (d - 48)) None (λ (s : Option ℕ). IsSuffix s (take (suffix_len_of s) (c ∷ d ∷ bs)))
    (λ h. suffix_is c d (same_byte c 95 (and_first (eqb c 95) _ h)) (or_true (eqb d 52) (eqb d 56) (and_second (eqb c 95) _ h))) (λ _. refl)

ends_by : (bs : List ℕ) (s : Option ℕ) → begins is_digit bs ≡ false → suffix_of bs ≡ s → EndsNumber s (drop (suffix_len_of s) bs)
ends_by bs None h e = (h, e)
ends_by bs (Some k) h e = tt

digits_found : (b : ℕ) (bs : List ℕ) → is_digit b ≡ true → IsDigits (take (prefix_len is_digit (b ∷ bs)) (b ∷ bs))
digits_found b bs h =
    let n = prefix_len is_digit bs in
    let one : suc n ≡ 1 + n = omega arith in
    let len : suc n ≡ prefix_len is_digit (b ∷ bs) = one ∙ sym (yes_one (is_digit b) (1 + n) 0 h) in
    subst (λ (k : ℕ). IsDigits (take k (b ∷ bs))) len (h, each_front is_digit bs)

number_found : (b : ℕ) (bs : List ℕ) → is_digit b ≡ true → SoundAt (b ∷ bs) (number_of (b ∷ bs))
number_found b bs h =
    let all = b ∷ bs in
    let n = prefix_len is_digit all in
    let s = suffix_of (drop n all) in
    let k = n + suffix_len_of s in
    chosen (nat_le (number_from 0 (take n all)) 9223372036854775807) (Lexical (Number (number_from 0 (take n all)) s)) WideLiteral (λ (kind : PieceKind). Sound kind (take k all) (drop k all))
    (λ small. (
      (take n all, take (suffix_len_of s) (drop n all), take_both n (suffix_len_of s) all, digits_found b bs h, suffix_found (drop n all), refl, true_within _ _ small),
      subst (λ (r : List ℕ). EndsNumber s r) (sym (drop_both n (suffix_len_of s) all)) (ends_by (drop n all) s (ends_front is_digit all) refl),
    ))
    (λ _. tt)

begins_one : (k : ℕ) (rs : List ℕ) → begins (λ b. eqb b k) rs ≡ true → take 1 rs ≡ k ∷ []
begins_one k [] h = absurd (let e : false ≡ true = h in cc)
begins_one k (r ∷ rs) h = ap (λ n. n ∷ []) (same_byte r k h)

dots_found : (b : ℕ) (bs : List ℕ) → eqb b 46 ≡ true → SoundAt (b ∷ bs) (dots_of bs)
dots_found b bs h =
    let n = prefix_len is_letter bs in
    let w = take n bs in
    let two : n + 2 ≡ suc (n + 1) = omega arith in
    chosen (is_dot_word w && begins (λ c. eqb c 46) (drop n bs)) (piece (n + 2) (Lexical Dots)) (piece 1 BadByte) (SoundAt (b ∷ bs))
    (λ t.
    let bytes : take (n + 2) (b ∷ bs) ≡ 46 ∷ w ++ 46 ∷ [] =
    ap (λ k. take k (b ∷ bs)) two ∙ ap (λ c. c ∷ take (n + 1) bs) (same_byte b 46 h)
    ∙ ap (λ cs. 46 ∷ cs) (take_both n 1 bs ∙ ap (λ cs. w ++ cs) (begins_one 46 (drop n bs) (and_second (is_dot_word w) _ t))) in
    (w, bytes, each_front is_letter bs, and_first (is_dot_word w) _ t))
    (λ _. tt)

two_found : (b : ℕ) (bs : List ℕ) → is_mark b ≡ true → begins (is_pair b) bs ≡ true → Sound (Lexical Mark) (take 2 (b ∷ bs)) (drop 2 (b ∷ bs))
two_found b [] m h = absurd (let e : false ≡ true = h in cc)
two_found b (c ∷ bs) m h = inr (b, c, refl, m, h)

mark_found : (b : ℕ) (bs : List ℕ) → is_mark b ≡ true → SoundAt (b ∷ bs) (mark_of b bs)
mark_found b bs m =
    chosen (begins (is_pair b) bs) 2 1 (λ (k : ℕ). Sound (Lexical Mark) (take k (b ∷ bs)) (drop k (b ∷ bs)))
    (λ h. two_found b bs m h) (λ h. inl (b, refl, m, h))

-- what bytes begin with, where it is no refusal, is spelled so
pub piece_found : (b : ℕ) (bs : List ℕ) → SoundAt (b ∷ bs) (piece_of (b ∷ bs))
unfolding piece_of
piece_found b bs =
    let P : Piece → Type 0 = SoundAt (b ∷ bs) in
    chosen (is_blank b) _ _ P (λ h. (b, refl, h))
    (λ _. chosen (is_letter b) _ _ P (λ h. name_found b bs h)
    (λ _. chosen (is_digit b) _ _ P (λ h. number_found b bs h)
    (λ _. chosen (eqb b 46) _ _ P (λ h. dots_found b bs h)
    (λ _. chosen (is_mark b) _ _ P (λ h. mark_found b bs h) (λ _. tt)))))

-- a piece has bytes
pub piece_some : (kind : PieceKind) (bs rest : List ℕ) → IsPiece kind bs rest → 0 < length bs
piece_some Blank bs rest (b, e, h) = omega (arith, ap length e)
piece_some (Lexical Word) [] rest i = absurd i.0
piece_some (Lexical Word) (b ∷ bs) rest i = omega arith
piece_some (Lexical (Number v s)) bs rest (([], es, e, d, f, v', m), n) = absurd d
piece_some (Lexical (Number v s)) bs rest ((c ∷ ds, es, e, d, f, v', m), n) = omega (arith, ap length e, length-append (c ∷ ds) es)
piece_some (Lexical Mark) bs rest (inl (b, e, m, h)) = omega (arith, ap length e)
piece_some (Lexical Mark) bs rest (inr (a, b, e, m, h)) = omega (arith, ap length e)
piece_some (Lexical Dots) bs rest (w, e, l, d) = omega (arith, ap length e)
piece_some (Lexical Sentinel) bs rest i = absurd i
piece_some (Lexical LineEnd) bs rest i = absurd i
piece_some BadByte bs rest i = absurd i
piece_some LongName bs rest i = absurd i
piece_some WideLiteral bs rest i = absurd i
