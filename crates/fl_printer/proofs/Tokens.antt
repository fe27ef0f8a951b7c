-- What the lexer makes of a printed token, whatever stands behind it that doesn't join.
use Rattle.std.proofs.Common.{Option, ◌≡◌, ℕ, ◌+◌, ◌-◌, ◌*◌, ◌/◌, ◌%◌, ◌<◌, ◌≤◌, Bool, true, false, cond, not, ◌&&◌, ◌||◌, inl, inr, List, [], ◌∷◌, ◌++◌, length, Some, None, refl, ap, sym, ◌∙◌, arith, append-nil, length-append}
use Rattle.std.specs.Prelude.{◌==◌, ◌^◌, if◌then◌else◌, nat_le, codes, decimal}
use Rattle.std.specs.List.{list_all}
use Rattle.std.proofs.lemmas.Bool.{and_parts}
use Rattle.std.proofs.lemmas.Bool.Decides.{nat_tests}
use Rattle.std.proofs.lemmas.Fmt.{decimal_by_steps, length-decimal-le}
use Rattle.tokens.specs.declared.TokenKind.{TokenKind}
use Rattle.tokens.specs.declared.TokenKind.TheVariants.{Word, Number, Mark, Dots}
use Rattle.fl_base.specs.Spelling.{is_name, is_name_byte, is_small_letter}
use Rattle.fl_ast.specs.declared.kind.Kind.{Kind}
use Rattle.fl_ast.specs.declared.kind.Kind.TheVariants as kind
use Rattle.fl_lexer.specs.declared.piece.PieceKind.TheVariants.{Lexical}
use Rattle.fl_lexer.specs.Bytes.{is_blank, is_letter, is_digit, is_word, is_mark, is_pair, begins}
use Rattle.fl_lexer.specs.Pieces.{piece_of, number_from}
use Rattle.fl_lexer.specs.Spelling.{Each, IsDigits, EndsNumber, IsLexical}
use Rattle.fl_lexer.specs.Printing.{is_plain}
use Rattle.fl_lexer.proofs.PieceSpelling.{piece_again}
use Rattle.fl_printer.specs.Words.{literal_text, suffix_text}

-- ---- classes

-- words and numbers join with each other, and marks that may begin or end a pair do
pub data Class : Type 0 where
  Wordy : Class
  Pairing : Class
  Calm : Class

abbrev pub is_pairing : ℕ → Bool
is_pairing b = (b == 61) || ((b == 47) || ((b == 60) || ((b == 62) || ((b == 42) || (b == 58)))))

abbrev pub class_of : List ℕ → Class
class_of [] = Calm
class_of (b ∷ bs) = if is_word b then Wordy else (if is_pairing b then Pairing else Calm)

abbrev pub touch : Class → Class → Bool
touch Calm d = true
touch Wordy Wordy = false
touch Wordy Pairing = true
touch Wordy Calm = true
touch Pairing Pairing = false
touch Pairing Wordy = true
touch Pairing Calm = true

pub touch_calm : (c : Class) → touch c Calm ≡ true
touch_calm Wordy = refl
touch_calm Pairing = refl
touch_calm Calm = refl

pub record IsToken (bs : List ℕ) : Type 0 where
  pub kind : TokenKind
  pub lexical : (rest : List ℕ) → touch (class_of bs) (class_of rest) ≡ true → IsLexical kind bs rest
  pub plain : Each is_plain bs
  pub begun : begins (λ b. not (is_blank b)) bs ≡ true
  pub short : length bs ≤ 64

pub kind_is : (bs : List ℕ) (t : IsToken bs) → (piece_of bs).kind ≡ Lexical t.kind
kind_is bs t =
    ap (λ (cs : List ℕ). (piece_of cs).kind) (sym (append-nil bs)) ∙ ap (λ x. x.kind) (piece_again (Lexical t.kind) bs [] (t.lexical [] (touch_calm (class_of bs))))

-- ---- words

true_false : {A : Type 0} → true ≡ false → A
true_false e = absurd (let g : true ≡ false = e in cc)

-- behind a word or number stands no byte of a word
wordy_by : (t : Bool) (c : Class) → touch Wordy (cond t Wordy c) ≡ true → t ≡ false
wordy_by true c h = true_false (sym h)
wordy_by false c h = refl

wordy_ends : (d : Class) (rest : List ℕ) → d ≡ Wordy → touch d (class_of rest) ≡ true → begins is_word rest ≡ false
wordy_ends d [] e h = refl
wordy_ends d (r ∷ rest) e h = wordy_by (is_word r) (cond (is_pairing r) Pairing Calm) (ap (λ c. touch c (class_of (r ∷ rest))) (sym e) ∙ h)

small_letter : (b : ℕ) → is_small_letter b ≡ true → is_letter b ≡ true
small_letter b h = grind (arith, nat_tests)

letter_word : (b : ℕ) → is_letter b ≡ true → is_word b ≡ true
letter_word b h = grind (arith, nat_tests)

digit_word : (b : ℕ) → is_digit b ≡ true → is_word b ≡ true
digit_word b h = grind (arith, nat_tests)

name_word : (b : ℕ) → is_name_byte b ≡ true → is_word b ≡ true
name_word b h = grind (arith, nat_tests)

word_plain : (b : ℕ) → is_word b ≡ true → is_plain b ≡ true
word_plain b h = grind (arith, nat_tests)

word_no_blank : (b : ℕ) → is_word b ≡ true → not (is_blank b) ≡ true
word_no_blank b h = grind (arith, nat_tests)

each_name : (bs : List ℕ) → list_all is_name_byte bs ≡ true → Each is_word bs
each_name [] h = tt
each_name (b ∷ bs) h = let p = and_parts (is_name_byte b) (list_all is_name_byte bs) h in (name_word b p.0, each_name bs p.1)

each_plain : (bs : List ℕ) → Each is_word bs → Each is_plain bs
each_plain [] e = tt
each_plain (b ∷ bs) e = (word_plain b e.0, each_plain bs e.1)

le_is : (n m : ℕ) → nat_le n m ≡ true → n ≤ m
le_is n m h = grind (arith, nat_tests)

wordy : (b : ℕ) (bs : List ℕ) → is_word b ≡ true → class_of (b ∷ bs) ≡ Wordy
wordy b bs h = ap (λ t. cond t Wordy (cond (is_pairing b) Pairing Calm)) h

pub name_token : (x : List ℕ) → is_name x ≡ true → IsToken x
name_token [] h = true_false (sym h)
name_token (b ∷ bs) h =
    let p = and_parts (is_small_letter b) (list_all is_name_byte bs && nat_le (length bs) 62) h in
    let q = and_parts (list_all is_name_byte bs) (nat_le (length bs) 62) p.1 in
    let l = small_letter b p.0 in
    let w = letter_word b l in
    let size : length bs ≤ 62 = le_is (length bs) 62 q.1 in
    let each = each_name bs q.0 in
    record {
      kind = Word;
      lexical = λ rest h. ((l, each), omega (arith, size), wordy_ends (class_of (b ∷ bs)) rest (wordy b bs w) h);
      plain = (word_plain b w, each_plain bs each);
      begun = word_no_blank b w;
      short = omega (arith, size);
    }

-- ---- numbers

number_last : (v d : ℕ) (ds : List ℕ) → number_from v (ds ++ d ∷ []) ≡ number_from v ds * 10 + (d - 48)
number_last v d [] = refl
number_last v d (c ∷ ds) = number_last (v * 10 + (c - 48)) d ds

digits_more : (ds : List ℕ) (d : ℕ) → IsDigits ds → is_digit d ≡ true → IsDigits (ds ++ d ∷ [])
digits_more [] d i h = absurd i
digits_more (c ∷ ds) d i h = (i.0, more ds i.1)
  where
    more : (cs : List ℕ) → Each is_digit cs → Each is_digit (cs ++ d ∷ [])
    more [] e = (h, tt)
    more (c ∷ cs) e = (e.0, more cs e.1)

abbrev is_numeral : ℕ → List ℕ → Type 0
is_numeral m ds = IsDigits ds × (m ≡ number_from 0 ds)

digit_is : (k : ℕ) → k < 10 → is_digit (48 + k) ≡ true
digit_is k h = grind (arith, nat_tests)

one_digit : (m : ℕ) → m < 10 → is_numeral m ((48 + m) ∷ [])
one_digit m h = ((digit_is m h, tt), omega arith)

more_digits : (m : ℕ) (ds : List ℕ) → 10 ≤ m → is_numeral (m / 10) ds → is_numeral m (ds ++ (48 + m % 10) ∷ [])
more_digits m ds h i =
    let last : m % 10 < 10 = omega arith in
    let e : m / 10 ≡ number_from 0 ds = i.1 in
    let s : number_from 0 (ds ++ (48 + m % 10) ∷ []) ≡ number_from 0 ds * 10 + (48 + m % 10 - 48) = number_last 0 (48 + m % 10) ds in
    (digits_more ds (48 + m % 10) i.0 (digit_is (m % 10) last), omega (arith, e, s))

numeral : (n : ℕ) → n < 2 ^ 64 → is_numeral n (decimal n)
numeral n h = decimal_by_steps is_numeral one_digit more_digits n h

-- what is behind digits without a suffix is none
no_suffix : (rest : List ℕ) → begins is_word rest ≡ false → EndsNumber None rest
no_suffix [] h = (refl, refl)
no_suffix (c ∷ []) h = (no_digit c h, refl)
  where
    no_digit : (b : ℕ) → is_word b ≡ false → is_digit b ≡ false
    no_digit b h = grind (arith, nat_tests)
no_suffix (c ∷ d ∷ rest) h = (no_digit c h, ap (λ t. cond (t && ((d == 52) || (d == 56))) (Some (d - 48)) None) (no_under c h))
  where
    no_digit : (b : ℕ) → is_word b ≡ false → is_digit b ≡ false
    no_digit b h = grind (arith, nat_tests)

    no_under : (b : ℕ) → is_word b ≡ false → (b == 95) ≡ false
    no_under b h = grind (arith, nat_tests)

digits_plain : (ds : List ℕ) → Each is_digit ds → Each is_plain ds
digits_plain [] e = tt
digits_plain (d ∷ ds) e = (word_plain d (digit_word d e.0), digits_plain ds e.1)

plain_append : (as' bs : List ℕ) → Each is_plain as' → Each is_plain bs → Each is_plain (as' ++ bs)
plain_append [] bs e f = f
plain_append (a ∷ as') bs e f = (e.0, plain_append as' bs e.1 f)

starts_wordy : (ds bs : List ℕ) → IsDigits ds → class_of (ds ++ bs) ≡ Wordy
starts_wordy [] bs i = absurd i
starts_wordy (d ∷ ds) bs i = wordy d (ds ++ bs) (digit_word d i.0)

starts_no_blank : (ds bs : List ℕ) → IsDigits ds → begins (λ b. not (is_blank b)) (ds ++ bs) ≡ true
starts_no_blank [] bs i = absurd i
starts_no_blank (d ∷ ds) bs i = word_no_blank d (digit_word d i.0)

digits_each : (ds : List ℕ) → IsDigits ds → Each is_digit ds
digits_each [] i = tt
digits_each (d ∷ ds) i = i

number_size : (n : ℕ) → n ≤ 9223372036854775807 → length (decimal n) ≤ 19
number_size n h = length-decimal-le 19 n (omega arith) (omega arith) (omega arith)

pub number_token : (n : ℕ) (k : Kind) → n ≤ 9223372036854775807 → IsToken (literal_text n k)
number_token n kind.Index h =
    let i = numeral n (omega arith) in
    let size = number_size n h in
    let whole : decimal n ++ [] ≡ decimal n = append-nil (decimal n) in
    record {
      kind = Number n None;
      lexical = λ rest t. ((decimal n, [], refl, i.0, refl, i.1, h), no_suffix rest (wordy_ends (class_of (decimal n ++ [])) rest (starts_wordy (decimal n) [] (i.0)) t));
      plain = plain_append (decimal n) [] (digits_plain (decimal n) (digits_each (decimal n) (i.0))) tt;
      begun = starts_no_blank (decimal n) [] (i.0);
      short = omega (arith, size, ap (λ (xs : List ℕ). length xs) whole);
    }
number_token n kind.Ring h =
    let i = numeral n (omega arith) in
    let size = number_size n h in
    record {
      kind = Number n (Some 8);
      lexical = λ rest t. ((decimal n, codes "_8", refl, i.0, inr (refl, refl), i.1, h), tt);
      plain = plain_append (decimal n) (codes "_8") (digits_plain (decimal n) (digits_each (decimal n) (i.0))) (refl, (refl, tt));
      begun = starts_no_blank (decimal n) (codes "_8") (i.0);
      short = omega (arith, size, length-append (decimal n) (codes "_8"));
    }

-- ---- signs

no_pair_behind : (b r : ℕ) → is_pairing r ≡ false → is_pair b r ≡ false
no_pair_behind b r h = grind (arith, nat_tests)

no_pair_before : (b r : ℕ) → is_pairing b ≡ false → is_pair b r ≡ false
no_pair_before b r h = grind (arith, nat_tests)

word_no_pair : (r : ℕ) → is_word r ≡ true → is_pairing r ≡ false
word_no_pair r h = grind (arith, nat_tests)

pairing_ends : (w p : Bool) → touch Pairing (cond w Wordy (cond p Pairing Calm)) ≡ true → (w ≡ true → p ≡ false) → p ≡ false
pairing_ends true p h f = f refl
pairing_ends false true h f = true_false (sym h)
pairing_ends false false h f = refl

mark_by : (p : Bool) (b : ℕ) (rest : List ℕ) → is_pairing b ≡ p → touch (cond p Pairing Calm) (class_of rest) ≡ true → begins (is_pair b) rest ≡ false
mark_by p b [] e h = refl
mark_by true b (r ∷ rest) e h = no_pair_behind b r (pairing_ends (is_word r) (is_pairing r) h (word_no_pair r))
mark_by false b (r ∷ rest) e h = no_pair_before b r e

mark_ends : (b : ℕ) (rest : List ℕ) → is_word b ≡ false → touch (class_of (b ∷ [])) (class_of rest) ≡ true → begins (is_pair b) rest ≡ false
mark_ends b rest w h =
    mark_by (is_pairing b) b rest refl (ap (λ t. touch (cond t Wordy (cond (is_pairing b) Pairing Calm)) (class_of rest)) (sym w) ∙ h)

pub mark_token : (b : ℕ) → is_mark b ≡ true → is_word b ≡ false → is_plain b ≡ true → not (is_blank b) ≡ true → IsToken (b ∷ [])
mark_token b m w p n = record {
  kind = Mark;
  lexical = λ rest h. inl (b, refl, m, mark_ends b rest w h);
  plain = (p, tt);
  begun = n;
  short = omega arith;
}

pub pair_token : (a b : ℕ) → is_mark a ≡ true → is_pair a b ≡ true → is_plain a ≡ true → is_plain b ≡ true → not (is_blank a) ≡ true → IsToken (a ∷ b ∷ [])
pair_token a b m i p q n = record {
  kind = Mark;
  lexical = λ rest h. inr (a, b, refl, m, i);
  plain = (p, (q, tt));
  begun = n;
  short = omega arith;
}

pub not_token : IsToken (codes ".not.")
not_token = record {
  kind = Dots;
  lexical = λ rest h. (codes "not", refl, (refl, (refl, (refl, tt))), refl);
  plain = (refl, (refl, (refl, (refl, (refl, tt)))));
  begun = refl;
  short = omega arith;
}

pub and_token : IsToken (codes ".and.")
and_token = record {
  kind = Dots;
  lexical = λ rest h. (codes "and", refl, (refl, (refl, (refl, tt))), refl);
  plain = (refl, (refl, (refl, (refl, (refl, tt)))));
  begun = refl;
  short = omega arith;
}

pub or_token : IsToken (codes ".or.")
or_token = record {
  kind = Dots;
  lexical = λ rest h. (codes "or", refl, (refl, (refl, tt)), refl);
  plain = (refl, (refl, (refl, (refl, tt))));
  begun = refl;
  short = omega arith;
}

-- ---- classes of words and numbers

pub class_name : (x : List ℕ) → is_name x ≡ true → class_of x ≡ Wordy
class_name [] h = true_false (sym h)
class_name (b ∷ bs) h =
    wordy b bs (letter_word b (small_letter b (and_parts (is_small_letter b) (list_all is_name_byte bs && nat_le (length bs) 62) h).0))

pub class_number : (n : ℕ) (k : Kind) → n ≤ 9223372036854775807 → class_of (literal_text n k) ≡ Wordy
class_number n k h = starts_wordy (decimal n) (suffix_text k) (numeral n (omega arith)).0

-- an index has no suffix
pub plain_literal : (n : ℕ) → literal_text n kind.Index ≡ decimal n
plain_literal n = append-nil (decimal n)

-- ---- kinds of words and numbers

pub kind_of_name : (x : List ℕ) → is_name x ≡ true → (piece_of x).kind ≡ Lexical Word
unfolding name_token
kind_of_name [] h = true_false (sym h)
kind_of_name (b ∷ bs) h = kind_is (b ∷ bs) (name_token (b ∷ bs) h)

abbrev pub suffix_of_kind : Kind → Option ℕ
suffix_of_kind kind.Index = None
suffix_of_kind kind.Ring = Some 8

pub kind_of_number : (n : ℕ) (k : Kind) → n ≤ 9223372036854775807 → (piece_of (literal_text n k)).kind ≡ Lexical (Number n (suffix_of_kind k))
unfolding number_token
kind_of_number n kind.Index h = kind_is (literal_text n kind.Index) (number_token n kind.Index h)
kind_of_number n kind.Ring h = kind_is (literal_text n kind.Ring) (number_token n kind.Ring h)
