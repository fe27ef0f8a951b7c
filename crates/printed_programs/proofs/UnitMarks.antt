-- What the lexemes of a unit's own lines are read as.
use Rattle.std.proofs.Common.{◌≡◌, ℕ, Bool, true, false, cond, ◌&&◌, List, [], ◌∷◌, Some, None, bytes_eq, refl, ap, sym, ◌∙◌}
use Rattle.std.specs.Prelude.{codes}
use Rattle.std.specs.List.{list_all}
use Rattle.std.specs.Str.{str_to_ascii_lowercase}
use Rattle.std.proofs.lemmas.Bool.{and_parts}
use Rattle.std.proofs.lemmas.Slice.Eq.{bytes_eq-Decides}
use Rattle.tokens.specs.declared.TokenKind.TheVariants.{Word}
use Rattle.tokens.specs.Lexeme.{Lexeme}
use Rattle.fl_base.specs.Spelling.{is_name}
use Rattle.parsing.specs.declared.symbol.Symbol.TheVariants as s
use Rattle.parsing.specs.Symbol.{Entry, look_up, words as table_of_words, symbol_by, symbol_of}
use Rattle.parsing.specs.Terminal.{marked, words, word, word_of, same_word}
use Rattle.fl_lexer.specs.Pieces.{piece_of}
use Rattle.fl_lexer.specs.Printing.{lexical, lexeme_of}
use Rattle.fl_printer.proofs.Tokens.{kind_of_name}
use Rattle.fl_printer.specs.Lexemes.{unplaced}
use Rattle.fl_printed.specs.Fits.{Fits}
use Rattle.fl_printed.proofs.Spelled.{symbol_is, marked_is, name_lexeme}

pub subroutine_read : (t : Lexeme) → Fits t (codes "subroutine") → marked s.Subroutine t ≡ Some t.line
unfolding piece_of symbol_by
subroutine_read t f = marked_is s.Subroutine s.Subroutine t refl (symbol_is t (codes "subroutine") Word (codes "subroutine") refl f)

pub implicit_read : (t : Lexeme) → Fits t (codes "implicit") → marked s.Implicit t ≡ Some t.line
unfolding piece_of symbol_by
implicit_read t f = marked_is s.Implicit s.Implicit t refl (symbol_is t (codes "implicit") Word (codes "implicit") refl f)

pub none_read : (t : Lexeme) → Fits t (codes "none") → marked s.NoneWord t ≡ Some t.line
unfolding piece_of symbol_by
none_read t f = marked_is s.NoneWord s.NoneWord t refl (symbol_is t (codes "none") Word (codes "none") refl f)

-- ---- any word

abbrev is_worded : Entry → Bool
is_worded e = words e.1

all_worded : list_all is_worded table_of_words ≡ true
all_worded = refl

look_up_words : (x : List ℕ) (table : List Entry) → list_all is_worded table ≡ true → words (look_up table x s.Name) ≡ true
look_up_words x [] h = refl
look_up_words x (e ∷ table) h =
    let p = and_parts (words e.1) (list_all is_worded table) h in
    by (bytes_eq x (str_to_ascii_lowercase e.0)) p.0 (look_up_words x table p.1)
  where
    by : (t : Bool) → words e.1 ≡ true → words (look_up table x s.Name) ≡ true → words (cond t e.1 (look_up table x s.Name)) ≡ true
    by true n more = n
    by false n more = more

worded : (t : Lexeme) (x : List ℕ) → is_name x ≡ true → Fits t x → words (symbol_of t) ≡ true
unfolding symbol_by
worded t x h f = ap (λ u. words (symbol_by u.kind u.bytes)) (name_lexeme t x h f) ∙ look_up_words x table_of_words all_worded

pub word_read : (t : Lexeme) (x : List ℕ) → is_name x ≡ true → Fits t x → word t ≡ Some (record { line = t.line; name = x })
word_read t x h f =
    ap (λ r. cond r (Some (record { line = t.line; name = t.bytes })) None) (worded t x h f) ∙ ap (λ u. Some (record { line = t.line; name = u.bytes })) (name_lexeme t x h f)

lower_name : (x : List ℕ) → is_name x ≡ true → str_to_ascii_lowercase x ≡ x
lower_name x h = ap (λ u. u.bytes) (name_lexeme (lexical 0 Word x) x h (sym (ap (λ k. lexeme_of 0 k x) (kind_of_name x h))))

is_itself : (x : List ℕ) → bytes_eq x x ≡ true
is_itself x = (bytes_eq-Decides x x).1 refl

same_bytes : (t : Lexeme) (x : List ℕ) → is_name x ≡ true → Fits t x → bytes_eq t.bytes (str_to_ascii_lowercase x) ≡ true
same_bytes t x h f = ap (λ u. bytes_eq u.bytes (str_to_ascii_lowercase x)) (name_lexeme t x h f) ∙ ap (bytes_eq x) (lower_name x h) ∙ is_itself x

pub same_word_read : (t : Lexeme) (x : List ℕ) → is_name x ≡ true → Fits t x → same_word x t ≡ Some tt
same_word_read t x h f =
    ap (λ r. cond (r && bytes_eq t.bytes (str_to_ascii_lowercase x)) (Some tt) None) (worded t x h f) ∙ ap (λ r. cond r (Some tt) None) (same_bytes t x h f)
