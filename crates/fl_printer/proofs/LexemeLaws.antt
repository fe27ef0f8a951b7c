-- Where lines are broken makes no difference to their lexemes.
use Rattle.std.proofs.Common.{◌≡◌, ℕ, ◌+◌, Bool, true, false, cond, ◌&&◌, List, [], ◌∷◌, ◌++◌, length, map, refl, ap, sym, ◌∙◌, append_assoc}
use Rattle.std.specs.Prelude.{codes}
use Rattle.std.proofs.lemmas.List.{map-append}
use Rattle.tokens.specs.declared.Token.{Token}
use Rattle.tokens.specs.declared.TokenKind.TheVariants.{Sentinel, LineEnd}
use Rattle.tokens.specs.Lexeme.{Lexeme, lexeme}
use Rattle.fl_lexer.specs.declared.piece.PieceKind.{PieceKind}
use Rattle.fl_lexer.specs.declared.piece.PieceKind.TheVariants.{Blank, Lexical, BadByte, LongName, WideLiteral}
use Rattle.fl_lexer.specs.Pieces.{piece_of}
use Rattle.fl_lexer.specs.Reading.{first_place, lexed}
use Rattle.fl_lexer.specs.Printing.{Printed, printed, printed_tokens, Follows, ArePrinted, lexical, lexeme_of, word_lexemes, printed_lexemes}
use Rattle.fl_lexer.proofs.ReadBack.{read_back}
use Rattle.fl_lexer.proofs.Lexemes.{lexemes_are}
use Rattle.fl_printer.specs.declared.spaced.Spaced.{Spaced}
use Rattle.fl_printer.specs.Rows.{Row}
use Rattle.fl_printer.specs.Layout.{blank_if, token, width, width_of_all, Laid, with_token, is_long, is_past, start, later_line, broken, laid, laid_behind, lines_by, row_lines, lines_of, rows_text}
use Rattle.fl_printer.specs.Lexemes.{unplaced, words_lexemes, sentinel_lexeme, end_lexeme, rows_lexemes, IsLexedAs}
use Rattle.fl_printer.proofs.Lines.{AreRows, row_printed, rows_printed}

abbrev bare : List Lexeme → List Lexeme
bare ts = map unplaced ts

bare_token : (n : ℕ) (kind : PieceKind) (bytes : List ℕ) → bare (lexeme_of n kind bytes) ≡ lexeme_of 0 kind bytes
bare_token n Blank bytes = refl
bare_token n (Lexical kind) bytes = refl
bare_token n BadByte bytes = refl
bare_token n LongName bytes = refl
bare_token n WideLiteral bytes = refl

-- the end of a line, unless it goes on
abbrev end_by : ℕ → Bool → List Lexeme
end_by n goes_on = cond goes_on [] (lexical n LineEnd (10 ∷ []) ∷ [])

-- what is behind some tokens of a line
abbrev rest_of : ℕ → Laid → List Lexeme
rest_of n l = (word_lexemes n l.words ++ end_by n l.goes_on) ++ printed_lexemes (n + 1) l.goes_on l.behind

token_and_rest : (n : ℕ) (bs : List ℕ) (l : Laid) →
    bare (((lexeme_of n (piece_of bs).kind bs ++ word_lexemes n l.words) ++ end_by n l.goes_on) ++ printed_lexemes (n + 1) l.goes_on l.behind)
    ≡ lexeme_of 0 (piece_of bs).kind bs ++ bare (rest_of n l)
token_and_rest n bs l =
    let t = lexeme_of n (piece_of bs).kind bs in
    let more = printed_lexemes (n + 1) l.goes_on l.behind in
    ap bare (ap (λ x. x ++ more) (append_assoc t (word_lexemes n l.words) (end_by n l.goes_on)) ∙ append_assoc t (word_lexemes n l.words ++ end_by n l.goes_on) more)
    ∙ map-append unplaced t (rest_of n l) ∙ ap (λ x. x ++ bare (rest_of n l)) (bare_token n (piece_of bs).kind bs)

-- a token with a blank before it or not, and what is behind it
before : (n : ℕ) (b : Bool) (bs : List ℕ) (l : Laid) →
    bare ((word_lexemes n (blank_if b ++ token bs ∷ l.words) ++ end_by n l.goes_on) ++ printed_lexemes (n + 1) l.goes_on l.behind)
    ≡ lexeme_of 0 (piece_of bs).kind bs ++ bare (rest_of n l)
before n true bs l = token_and_rest n bs l
before n false bs l = token_and_rest n bs l

-- a later line has no sentinel that is a token
later_lexemes : (n margin : ℕ) (d : Bool) (bs : List ℕ) (l : Laid) →
    printed_lexemes n true (later_line margin d bs l ∷ l.behind)
    ≡ (word_lexemes n (blank_if d ++ token bs ∷ l.words) ++ end_by n l.goes_on) ++ printed_lexemes (n + 1) l.goes_on l.behind
later_lexemes n margin true bs l = refl
later_lexemes n margin false bs l = refl

laid_by : (margin : ℕ) (d : Bool) (n : ℕ) (w : Spaced) (ws : List Spaced) (k l : Laid) →
    ((n : ℕ) → bare (rest_of n k) ≡ words_lexemes ws ++ end_lexeme ∷ []) → ((n : ℕ) → bare (rest_of n l) ≡ words_lexemes ws ++ end_lexeme ∷ []) → (t : Bool) →
    bare (rest_of n (cond t (broken margin d w.text k) (with_token w l))) ≡ words_lexemes (w ∷ ws) ++ end_lexeme ∷ []
laid_by margin d n w ws k l f g true =
    ap bare (later_lexemes (n + 1) margin d w.text k) ∙ before (n + 1) d w.text k ∙ ap (λ x. lexeme_of 0 (piece_of w.text).kind w.text ++ x) (f (n + 1))
    ∙ sym (append_assoc (lexeme_of 0 (piece_of w.text).kind w.text) (words_lexemes ws) (end_lexeme ∷ []))
laid_by margin d n w ws k l f g false =
    before n w.blank w.text l ∙ ap (λ x. lexeme_of 0 (piece_of w.text).kind w.text ++ x) (g n)
    ∙ sym (append_assoc (lexeme_of 0 (piece_of w.text).kind w.text) (words_lexemes ws) (end_lexeme ∷ []))

laid_lexemes : (margin : ℕ) (d long : Bool) (at : ℕ) (ws : List Spaced) (n : ℕ) → bare (rest_of n (laid margin d long at ws)) ≡ words_lexemes ws ++ end_lexeme ∷ []
laid_lexemes margin d long at [] n = refl
laid_lexemes margin d long at (w ∷ ws) n =
    let from = start margin d + length w.text in
    let next = is_long (from + width_of_all ws) in
    laid_by margin d n w ws (laid margin d next from ws) (laid margin d long (at + width w) ws)
    (λ n. laid_lexemes margin d next from ws n) (λ n. laid_lexemes margin d long (at + width w) ws n) (long && is_past (at + width w))

-- ---- rows

-- ---- rows

row_lexemes : (n : ℕ) (d : Bool) (margin : ℕ) (ws : List Spaced) → bare (printed_lexemes n false (lines_by d margin ws)) ≡ sentinel_lexeme d ++ (words_lexemes ws ++ end_lexeme ∷ [])
row_lexemes n true margin ws =
    let at = margin + 5 in
    ap (λ ts. lexical 0 Sentinel (codes "!$omp") ∷ ts) (laid_lexemes margin true (is_long (at + width_of_all ws)) at ws n)
row_lexemes n false margin [] = refl
row_lexemes n false margin (w ∷ ws) =
    let at = margin + width w in
    before n w.blank w.text (laid_behind margin false at ws)
    ∙ ap (λ x. lexeme_of 0 (piece_of w.text).kind w.text ++ x) (laid_lexemes margin false (is_long (at + width_of_all ws)) at ws n)
    ∙ sym (append_assoc (lexeme_of 0 (piece_of w.text).kind w.text) (words_lexemes ws) (end_lexeme ∷ []))

-- lines that end one row, and those of others behind them
split : (n : ℕ) (g d : Bool) (xs ys : List Printed) → Follows g d xs → ArePrinted xs → (m : ℕ) × (printed_lexemes n g (xs ++ ys) ≡ printed_lexemes n g xs ++ printed_lexemes m false ys)
split n false d [] ys f a = (n, refl)
split n true d [] ys f a = absurd f
split n g d (x ∷ xs) ys f a =
    let more = split (n + 1) x.goes_on x.directive xs ys a.1 a.2 in
    let here = (cond x.directive (cond g [] (lexical n Sentinel (codes "!$omp") ∷ [])) []) ++ (word_lexemes n x.words ++ cond x.goes_on [] (lexical n LineEnd (10 ∷ []) ∷ [])) in
    (more.0, ap (λ ts. here ++ ts) more.1 ∙ sym (append_assoc here (printed_lexemes (n + 1) x.goes_on xs) (printed_lexemes more.0 false ys)))

all_lexemes : (n : ℕ) (rs : List Row) → AreRows rs → bare (printed_lexemes n false (lines_of rs)) ≡ rows_lexemes rs
all_lexemes n [] a = refl
all_lexemes n (r ∷ rs) a =
    let cut = split n false r.directive (row_lines r) (lines_of rs) tt (row_printed r a.0) in
    ap bare cut.1 ∙ map-append unplaced (printed_lexemes n false (row_lines r)) (printed_lexemes cut.0 false (lines_of rs))
    ∙ ap (λ ts. ts ++ bare (printed_lexemes cut.0 false (lines_of rs))) (row_lexemes n r.directive r.margin r.words)
    ∙ ap (λ ts. (sentinel_lexeme r.directive ++ (words_lexemes r.words ++ end_lexeme ∷ [])) ++ ts) (all_lexemes cut.0 rs a.1)

both : (text : List ℕ) (ts : List Token) → map (λ t. unplaced (lexeme text t)) ts ≡ bare (map (lexeme text) ts)
both text [] = refl
both text (t ∷ ts) = ap (λ us. unplaced (lexeme text t) ∷ us) (both text ts)

-- the text of rows has their tokens
pub rows_lexed : (rs : List Row) (text : List ℕ) → AreRows rs → text ≡ rows_text rs → IsLexedAs text rs
unfolding rows_text
rows_lexed rs text a e =
    let ls = lines_of rs in
    let ts = printed_tokens first_place false ls in (
      ts,
      ap lexed e ∙ read_back ls (rows_printed rs a),
      ap (λ t. map (λ u. unplaced (lexeme t u)) ts) e ∙ both (printed ls) ts ∙ ap bare (lexemes_are ls) ∙ all_lexemes 1 rs a,
    )
