-- What the lexemes of printed tokens are read as.
use Rattle.std.proofs.Common.{◌≡◌, ℕ, ◌+◌, ◌≤◌, Bool, true, false, cond, not, ◌&&◌, ◌||◌, List, [], ◌∷◌, length, map, Some, None, bytes_eq, refl, ap, sym, ◌∙◌, arith}
use Rattle.std.specs.Prelude.{nat_le, nat_lt}
use Rattle.std.specs.List.{list_all, list_any}
use Rattle.std.specs.Str.{str_to_ascii_lowercase}
use Rattle.std.specs.Char.{to_ascii_lowercase}
use Rattle.std.proofs.lemmas.Bool.{and_parts}
use Rattle.std.proofs.lemmas.Bool.Decides.{nat_tests}
use Rattle.std.proofs.lemmas.Slice.Eq.{bytes_eq-Decides}
use Rattle.tokens.specs.declared.TokenKind.{TokenKind}
use Rattle.tokens.specs.declared.TokenKind.TheVariants.{Word, Number}
use Rattle.tokens.specs.Lexeme.{Lexeme}
use Rattle.fl_base.specs.Spelling.{is_name, is_name_byte, is_small_letter}
use Rattle.fl_ast.specs.declared.kind.Kind.{Kind}
use Rattle.fl_ast.specs.declared.kind.Kind.TheVariants as kind
use Rattle.fl_ast.specs.Words.{reserved_words}
use Rattle.fl_ast.specs.Readable.{is_variable}
use Rattle.parsing.specs.declared.symbol.Symbol.{Symbol}
use Rattle.parsing.specs.declared.symbol.Symbol.TheVariants as s
use Rattle.parsing.specs.declared.cursor.Number.{Number as NumberValue}
use Rattle.parsing.specs.Symbol.{Entry, look_up, words, symbol_by, symbol_of}
use Rattle.parsing.specs.Terminal.{same, marked, names, name, number}
use Rattle.fl_lexer.specs.Pieces.{piece_of}
use Rattle.fl_lexer.specs.Printing.{lexical, lexeme_of}
use Rattle.fl_printer.specs.Words.{literal_text}
use Rattle.fl_printer.specs.Lexemes.{unplaced}
use Rattle.fl_printer.proofs.Tokens.{kind_of_name, suffix_of_kind, kind_of_number}
use Rattle.fl_printed.specs.Fits.{Fits}
use Rattle.fl_ast.specs.declared.expr.Expr.TheVariants.{Lit}
use Rattle.fl_expressions.specs.Trees.{kind_of, literal}

abbrev first_of : Lexeme → List Lexeme → Lexeme
first_of d [] = d
first_of d (t ∷ ts) = t

heads : (a b : Lexeme) (as' bs : List Lexeme) → a ∷ as' ≡ b ∷ bs → a ≡ b
heads a b as' bs e = ap (first_of a) e

-- ---- fixed tokens

pub symbol_is : (t : Lexeme) (bytes : List ℕ) (k : TokenKind) (bs : List ℕ) → lexeme_of 0 (piece_of bytes).kind bytes ≡ record { line = 0; kind = k; bytes = bs } ∷ [] → Fits t bytes →
    symbol_of t ≡ symbol_by k bs
symbol_is t bytes k bs e f = ap (λ x. symbol_by x.kind x.bytes) (heads (unplaced t) (record { line = 0; kind = k; bytes = bs }) [] [] (f ∙ e))

pub marked_is : (a b : Symbol) (t : Lexeme) → same a b ≡ true → symbol_of t ≡ b → marked a t ≡ Some t.line
marked_is a b t h e = ap (λ x. cond (same a x) (Some t.line) None) e ∙ ap (λ r. cond r (Some t.line) None) h

-- ---- names

small_lower : (b : ℕ) → is_small_letter b ≡ true → to_ascii_lowercase b ≡ b
small_lower b h = lower (nat_lt b 65) (nat_lt b 91) refl refl
  where
    lower : (p q : Bool) → nat_lt b 65 ≡ p → nat_lt b 91 ≡ q → cond (nat_lt b 65) b (cond (nat_lt b 91) (b + 32) b) ≡ b
    lower true q e f = absurd (grind (arith, nat_tests))
    lower false true e f = absurd (grind (arith, nat_tests))
    lower false false e f = ap (λ t. cond t b (cond (nat_lt b 91) (b + 32) b)) e ∙ ap (λ t. cond t (b + 32) b) f

byte_lower : (b : ℕ) → is_name_byte b ≡ true → to_ascii_lowercase b ≡ b
byte_lower b h = lower (nat_lt b 65) (nat_lt b 91) refl refl
  where
    lower : (p q : Bool) → nat_lt b 65 ≡ p → nat_lt b 91 ≡ q → cond (nat_lt b 65) b (cond (nat_lt b 91) (b + 32) b) ≡ b
    lower true q e f = ap (λ t. cond t b (cond (nat_lt b 91) (b + 32) b)) e
    lower false true e f = absurd (grind (arith, nat_tests))
    lower false false e f = ap (λ t. cond t b (cond (nat_lt b 91) (b + 32) b)) e ∙ ap (λ t. cond t (b + 32) b) f

bytes_lower : (bs : List ℕ) → list_all is_name_byte bs ≡ true → map to_ascii_lowercase bs ≡ bs
bytes_lower [] h = refl
bytes_lower (b ∷ bs) h =
    let p = and_parts (is_name_byte b) (list_all is_name_byte bs) h in
    ap (λ c. c ∷ map to_ascii_lowercase bs) (byte_lower b p.0) ∙ ap (λ cs. b ∷ cs) (bytes_lower bs p.1)

name_lower : (x : List ℕ) → is_name x ≡ true → str_to_ascii_lowercase x ≡ x
name_lower [] h = refl
name_lower (b ∷ bs) h =
    let p = and_parts (is_small_letter b) (list_all is_name_byte bs && nat_le (length bs) 62) h in
    let q = and_parts (list_all is_name_byte bs) (nat_le (length bs) 62) p.1 in
    ap (λ c. c ∷ map to_ascii_lowercase bs) (small_lower b p.0) ∙ ap (λ cs. b ∷ cs) (bytes_lower bs q.0)

-- a name's lexeme
pub name_lexeme : (t : Lexeme) (x : List ℕ) → is_name x ≡ true → Fits t x → unplaced t ≡ record { line = 0; kind = Word; bytes = x }
name_lexeme t x h f =
    heads (unplaced t) (lexical 0 Word x) [] [] (f ∙ ap (λ k. lexeme_of 0 k x) (kind_of_name x h)) ∙ ap (λ bs. record { line = 0; kind = Word; bytes = bs }) (name_lower x h)

-- a word with a meaning that isn't reserved may name a variable
abbrev names_or_reserved : Entry → Bool
names_or_reserved e = names e.1 || list_any (bytes_eq (str_to_ascii_lowercase e.0)) reserved_words

words_named : list_all names_or_reserved words ≡ true
words_named = refl

look_up_names : (x : List ℕ) (table : List Entry) → list_all names_or_reserved table ≡ true → list_any (bytes_eq x) reserved_words ≡ false → names (look_up table x s.Name) ≡ true
look_up_names x [] h r = refl
look_up_names x (e ∷ table) h r =
    let p = and_parts (names_or_reserved e) (list_all names_or_reserved table) h in
    by (bytes_eq x (str_to_ascii_lowercase e.0)) refl p.0 (look_up_names x table p.1 r)
  where
    or_left : (a b : Bool) → (a || b) ≡ true → b ≡ false → a ≡ true
    or_left true b o n = refl
    or_left false b o n = absurd (let g : false ≡ true = sym n ∙ o in cc)

    by : (t : Bool) → bytes_eq x (str_to_ascii_lowercase e.0) ≡ t → names_or_reserved e ≡ true → names (look_up table x s.Name) ≡ true →
        names (cond t e.1 (look_up table x s.Name)) ≡ true
    by true q n more =
        or_left (names e.1) (list_any (bytes_eq (str_to_ascii_lowercase e.0)) reserved_words) n
        (ap (λ (y : List ℕ). list_any (bytes_eq y) reserved_words) (sym ((bytes_eq-Decides x (str_to_ascii_lowercase e.0)).0 q)) ∙ r)
    by false q n more = more

not_is : (t : Bool) → not t ≡ true → t ≡ false
not_is true h = absurd (let g : false ≡ true = h in cc)
not_is false h = refl

pub name_read : (t : Lexeme) (x : List ℕ) → is_variable x ≡ true → Fits t x → name t ≡ Some (record { line = t.line; name = x })
unfolding symbol_by
name_read t x h f =
    let p = and_parts (is_name x) (not (list_any (bytes_eq x) reserved_words)) h in
    let e = name_lexeme t x p.0 f in
    let named : names (symbol_of t) ≡ true =
    ap (λ u. names (symbol_by u.kind u.bytes)) e ∙ look_up_names x words words_named (not_is (list_any (bytes_eq x) reserved_words) p.1) in
    ap (λ r. cond r (Some (record { line = t.line; name = t.bytes })) None) named ∙ ap (λ u. Some (record { line = t.line; name = u.bytes })) e

-- ---- numbers

pub number_read : (t : Lexeme) (n : ℕ) (k : Kind) → n ≤ 9223372036854775807 → Fits t (literal_text n k) → number t ≡ Some (record { value = n; suffix = suffix_of_kind k })
number_read t n k h f =
    ap (λ u. number u) (heads (unplaced t) (lexical 0 (Number n (suffix_of_kind k)) (literal_text n k)) [] [] (f ∙ ap (λ j. lexeme_of 0 j (literal_text n k)) (kind_of_number n k h)))

kind_back : (k : Kind) → kind_of (suffix_of_kind k) ≡ k
kind_back kind.Index = refl
kind_back kind.Ring = refl

-- a literal's lexeme is read as a literal of its kind
pub literal_read : (t : Lexeme) (n : ℕ) (k : Kind) → n ≤ 9223372036854775807 → Fits t (literal_text n k) →
    (x : NumberValue) × (number t ≡ Some x) × (literal x ≡ record { expr = Lit n k; depth = 1 })
literal_read t n k h f =
    (record { value = n; suffix = suffix_of_kind k }, number_read t n k h f, ap (λ j. record { expr = Lit n j; depth = 1 }) (kind_back k))
