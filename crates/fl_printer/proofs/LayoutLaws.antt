-- The bytes of lines, a token at a time.
use Rattle.std.proofs.Common.{◌≡◌, ℕ, suc, ◌+◌, ◌-◌, take, Bool, true, false, List, [], ◌∷◌, ◌++◌, length, drop, get_or, refl, ap, sym, ◌∙◌, append-nil, append_assoc, arith}
use Rattle.std.specs.Prelude.{replicate, ◌==◌, Option, None}
use Rattle.fl_ast.specs.declared.directive.Directive.{Directive}
use Rattle.std.proofs.lemmas.Bool.Decides.{nat_tests}
use Rattle.std.proofs.Math.Seq.{take-length}
use Rattle.fl_lexer.specs.Spelling.{text_of}
use Rattle.fl_lexer.specs.Printing.{Printed, opening, joint_of, content, printed}
use Rattle.fl_printer.specs.declared.spaced.Spaced.{Spaced}
use Rattle.fl_printer.specs.Rows.{Row, statement_row, directive_row, atomic_rows, parallel_rows}
use Rattle.fl_printer.specs.Layout.{token, width, Laid, at_end, with_token, indent, broken, first_line, laid_behind, lines_of, row_lines, rows_text, blank_bytes, blank_if, laid_text, break_text, begun_text}

printed_append : (a b : List Printed) → printed (a ++ b) ≡ printed a ++ printed b
printed_append [] b = refl
printed_append (l ∷ ls) b = ap (λ bs. content l ++ 10 ∷ bs) (printed_append ls b) ∙ sym (append_assoc (content l) (10 ∷ printed ls) (printed b))

lines_append : (a b : List Row) → lines_of (a ++ b) ≡ lines_of a ++ lines_of b
lines_append [] b = refl
lines_append (r ∷ rs) b = ap (λ ls. row_lines r ++ ls) (lines_append rs b) ∙ sym (append_assoc (row_lines r) (lines_of rs) (lines_of b))

pub rows_append : (a b : List Row) → rows_text (a ++ b) ≡ rows_text a ++ rows_text b
unfolding rows_text
rows_append a b = ap printed (lines_append a b) ∙ printed_append (lines_of a) (lines_of b)

pub rows_none : rows_text [] ≡ []
unfolding rows_text
rows_none = refl

-- ---- tokens

before_token : (b : Bool) (text : List ℕ) (l : Laid) →
    text_of (blank_if b ++ token text ∷ l.words) ≡ blank_bytes b ++ (text ++ text_of l.words)
before_token true text l = refl
before_token false text l = refl

pub with_token_text : (w : Spaced) (l : Laid) → laid_text (with_token w l) ≡ blank_bytes w.blank ++ (w.text ++ laid_text l)
with_token_text w l =
    let rest = joint_of l.goes_on ++ 10 ∷ printed l.behind in
    ap (λ bs. bs ++ rest) (before_token w.blank w.text l) ∙ append_assoc (blank_bytes w.blank) (w.text ++ text_of l.words) rest
    ∙ ap (λ bs. blank_bytes w.blank ++ bs) (append_assoc w.text (text_of l.words) rest)

-- a line's bytes and those behind it
line_text : (margin : ℕ) (directive : Bool) (words : List ℕ) (l : Laid) →
    (replicate margin 32 ++ (opening directive ++ (words ++ joint_of l.goes_on))) ++ 10 ∷ printed l.behind
    ≡ replicate margin 32 ++ (opening directive ++ (words ++ (joint_of l.goes_on ++ 10 ∷ printed l.behind)))
line_text margin directive words l =
    let rest = 10 ∷ printed l.behind in
    append_assoc (replicate margin 32) (opening directive ++ (words ++ joint_of l.goes_on)) rest
    ∙ ap (λ bs. replicate margin 32 ++ bs) (append_assoc (opening directive) (words ++ joint_of l.goes_on) rest
    ∙ ap (λ bs. opening directive ++ bs) (append_assoc words (joint_of l.goes_on) rest))

pub broken_text : (margin : ℕ) (directive : Bool) (text : List ℕ) (l : Laid) →
    laid_text (broken margin directive text l) ≡ break_text margin directive ++ (text ++ laid_text l)
broken_text margin directive text l =
    let blanks = replicate (indent margin directive) 32 in
    let words = text_of (blank_if directive ++ token text ∷ l.words) in
    let rest = joint_of l.goes_on ++ 10 ∷ printed l.behind in
    ap (λ bs. 32 ∷ 38 ∷ 10 ∷ bs)
    (line_text (indent margin directive) directive words l
    ∙ ap (λ bs. blanks ++ (opening directive ++ (bs ++ rest))) (before_token directive text l)
    ∙ ap (λ bs. blanks ++ (opening directive ++ bs)) (append_assoc (blank_bytes directive) (text ++ text_of l.words) rest ∙ ap (λ bs. blank_bytes directive ++ bs) (append_assoc text (text_of l.words) rest))
    ∙ ap (λ bs. blanks ++ bs) (sym (append_assoc (opening directive) (blank_bytes directive) (text ++ laid_text l)))
    ∙ sym (append_assoc blanks (opening directive ++ blank_bytes directive) (text ++ laid_text l)))

-- ---- rows

pub directive_text : (margin : ℕ) (words : List Spaced) →
    rows_text (directive_row margin words ∷ []) ≡ replicate margin 32 ++ (opening true ++ laid_text (laid_behind margin true (margin + 5) words))
unfolding rows_text
directive_text margin words =
    let l = laid_behind margin true (margin + 5) words in
    ap printed (append-nil (first_line margin true l)) ∙ line_text margin true (text_of l.words) l

pub no_words_text : (margin : ℕ) → rows_text (statement_row margin [] ∷ []) ≡ replicate margin 32 ++ 10 ∷ []
unfolding rows_text
no_words_text margin = line_text margin false [] at_end

pub statement_text : (margin : ℕ) (w : Spaced) (ws : List Spaced) →
    rows_text (statement_row margin (w ∷ ws) ∷ [])
    ≡ replicate margin 32 ++ (blank_bytes w.blank ++ (w.text ++ laid_text (laid_behind margin false (margin + width w) ws)))
unfolding rows_text
statement_text margin w ws =
    let rest = laid_behind margin false (margin + width w) ws in
    let l = with_token w rest in
    ap printed (append-nil (first_line margin false l)) ∙ line_text margin false (text_of l.words) l
    ∙ ap (λ bs. replicate margin 32 ++ bs) (with_token_text w rest)

-- ---- texts that grow

pub no_rows : (text : List ℕ) → text ≡ text ++ rows_text []
no_rows text = sym (append-nil text) ∙ ap (λ ts. text ++ ts) (sym rows_none)

pub two : (s t u : List ℕ) (a b : List Row) → t ≡ s ++ rows_text a → u ≡ t ++ rows_text b → u ≡ s ++ rows_text (a ++ b)
two s t u a b f g = g ∙ ap (λ x. x ++ rows_text b) f ∙ append_assoc s (rows_text a) (rows_text b) ∙ ap (λ x. s ++ x) (sym (rows_append a b))

pub three : (s t u v : List ℕ) (a b c : List Row) → t ≡ s ++ rows_text a → u ≡ t ++ rows_text b → v ≡ u ++ rows_text c → v ≡ s ++ rows_text (a ++ (b ++ c))
three s t u v a b c f g h = two s t v a (b ++ c) f (two t u v b c g h)

pub no_atomic : (margin : ℕ) (atomic : Bool) (text : List ℕ) → atomic ≡ false → text ≡ text ++ rows_text (atomic_rows margin atomic)
no_atomic margin true text h = absurd (let g : true ≡ false = h in cc)
no_atomic margin false text h = no_rows text

pub no_parallel : (margin : ℕ) (d : Option Directive) (text : List ℕ) → d ≡ None → text ≡ text ++ rows_text (parallel_rows margin d)
no_parallel margin d text e = no_rows text ∙ ap (λ d. text ++ rows_text (parallel_rows margin d)) (sym e)

pub directive_done : (margin n : ℕ) (words : List Spaced) (s t u v : List ℕ) → n ≡ margin + 5 → t ≡ s ++ replicate margin 32 → u ≡ t ++ opening true →
    v ≡ u ++ laid_text (laid_behind margin true n words) → v ≡ s ++ rows_text (directive_row margin words ∷ [])
directive_done margin n words s t u v e f g h =
    h ∙ ap (λ n. u ++ laid_text (laid_behind margin true n words)) e ∙ ap (λ x. x ++ laid_text (laid_behind margin true (margin + 5) words)) (g ∙ ap (λ x. x ++ opening true) f)
    ∙ append_assoc (s ++ replicate margin 32) (opening true) (laid_text (laid_behind margin true (margin + 5) words))
    ∙ append_assoc s (replicate margin 32) (opening true ++ laid_text (laid_behind margin true (margin + 5) words))
    ∙ ap (λ x. s ++ x) (sym (directive_text margin words))

pub no_words_done : (margin : ℕ) (words : List Spaced) (s t u : List ℕ) → words ≡ [] → t ≡ s ++ replicate margin 32 → u ≡ t ++ 10 ∷ [] → u ≡ s ++ rows_text (statement_row margin words ∷ [])
no_words_done margin words s t u e f g =
    g ∙ ap (λ x. x ++ 10 ∷ []) f ∙ append_assoc s (replicate margin 32) (10 ∷ []) ∙ ap (λ x. s ++ x) (sym (no_words_text margin))
    ∙ ap (λ ws. s ++ rows_text (statement_row margin ws ∷ [])) (sym e)

pub statement_done : (margin : ℕ) (words : List Spaced) (w : Spaced) (ws : List Spaced) (s t u : List ℕ) → words ≡ w ∷ ws →
    t ≡ s ++ replicate margin 32 → u ≡ t ++ begun_text margin w ws → u ≡ s ++ rows_text (statement_row margin words ∷ [])
statement_done margin words w ws s t u d f g =
    g ∙ ap (λ y. y ++ begun_text margin w ws) f ∙ append_assoc s (replicate margin 32) (begun_text margin w ws)
    ∙ ap (λ y. s ++ y) (sym (statement_text margin w ws)) ∙ ap (λ ws. s ++ rows_text (statement_row margin ws ∷ [])) (sym d)

pub no_words : (ws : List Spaced) → (length ws == 0) ≡ true → ws ≡ []
no_words [] h = refl
no_words (w ∷ ws) h = absurd (grind (arith, nat_tests))

less_one : (n : ℕ) → suc n - 1 ≡ n
less_one n = omega arith

pub first_word : (ws : List Spaced) (d : Spaced) → (length ws == 0) ≡ false → ws ≡ get_or ws 0 d ∷ take (length ws - 1) (drop 1 ws)
first_word [] d h = absurd (let g : true ≡ false = h in cc)
first_word (w ∷ ws) d h = ap (λ xs. w ∷ xs) (sym (ap (λ n. take n ws) (less_one (length ws)) ∙ take-length ws))

pub grown : (old new all : List ℕ) (a b : List Row) → new ≡ old ++ rows_text a → old ++ rows_text (a ++ b) ≡ all → new ++ rows_text b ≡ all
grown old new all a b f g = ap (λ x. x ++ rows_text b) f ∙ append_assoc old (rows_text a) (rows_text b) ∙ ap (λ x. old ++ x) (sym (rows_append a b)) ∙ g

pub finished : (text all : List ℕ) (a : List Row) → a ≡ [] → text ++ rows_text a ≡ all → text ≡ all
finished text all a e f = no_rows text ∙ ap (λ a. text ++ rows_text a) (sym e) ∙ f
