-- Lexemes of rows, cut where the rows are.
use Rattle.std.proofs.Common.{◌≡◌, ℕ, List, [], ◌∷◌, ◌++◌, map, refl, sym, ap, ◌∙◌, append_assoc, append-nil}
use Rattle.tokens.specs.Lexeme.{Lexeme}
use Rattle.parsing.specs.Reading.{Lexemes}
use Rattle.fl_printer.specs.declared.spaced.Spaced.{Spaced}
use Rattle.fl_printer.specs.Rows.{Row, statement_row}
use Rattle.fl_printer.specs.Lexemes.{unplaced, words_lexemes, sentinel_lexeme, end_lexeme, rows_lexemes}

no_lexeme : {A : Type 0} (t : Lexeme) (ts : Lexemes) → [] ≡ t ∷ ts → A
no_lexeme t ts e = absurd (let f : [] ≡ t ∷ ts = e in cc)

heads : (t u : Lexeme) (ts us : Lexemes) → t ∷ ts ≡ u ∷ us → t ≡ u
heads t u ts us e = cc

tails : (t u : Lexeme) (ts us : Lexemes) → t ∷ ts ≡ u ∷ us → ts ≡ us
tails t u ts us e = cc

-- what holds of lexemes holds once it holds of them in two parts
pub cut : (us xs ys : Lexemes) (G : Lexemes → Type 0) → map unplaced us ≡ xs ++ ys → ((vs ws : Lexemes) → map unplaced vs ≡ xs → map unplaced ws ≡ ys → G (vs ++ ws)) → G us
cut us [] ys G e k = k [] us refl e
cut [] (x ∷ xs) ys G e k = no_lexeme x (xs ++ ys) e
cut (u ∷ us) (x ∷ xs) ys G e k =
    cut us xs ys (λ v. G (u ∷ v)) (tails (unplaced u) x (map unplaced us) (xs ++ ys) e)
    (λ vs ws p q. k (u ∷ vs) ws (ap (λ t. t ∷ map unplaced vs) (heads (unplaced u) x (map unplaced us) (xs ++ ys) e) ∙ ap (λ ts. x ∷ ts) p) q)

pub cut_one : (us : Lexemes) (x : Lexeme) (ys : Lexemes) (G : Lexemes → Type 0) → map unplaced us ≡ x ∷ ys → ((t : Lexeme) (ws : Lexemes) → unplaced t ≡ x → map unplaced ws ≡ ys → G (t ∷ ws)) → G us
cut_one [] x ys G e k = no_lexeme x ys e
cut_one (u ∷ us) x ys G e k = k u us (heads (unplaced u) x (map unplaced us) ys e) (tails (unplaced u) x (map unplaced us) ys e)

pub cut_none : (us : Lexemes) (G : Lexemes → Type 0) → map unplaced us ≡ [] → G [] → G us
cut_none [] G e k = k
cut_none (u ∷ us) G e k = no_lexeme (unplaced u) (map unplaced us) (sym e)

of_rows : (a b : List Row) → rows_lexemes (a ++ b) ≡ rows_lexemes a ++ rows_lexemes b
of_rows [] b = refl
of_rows (r ∷ rs) b =
    let here = sentinel_lexeme r.directive ++ (words_lexemes r.words ++ end_lexeme ∷ []) in
    ap (λ v. here ++ v) (of_rows rs b) ∙ sym (append_assoc here (rows_lexemes rs) (rows_lexemes b))

pub cut_rows : (us : Lexemes) (a b : List Row) (G : Lexemes → Type 0) → map unplaced us ≡ rows_lexemes (a ++ b) →
    ((vs ws : Lexemes) → map unplaced vs ≡ rows_lexemes a → map unplaced ws ≡ rows_lexemes b → G (vs ++ ws)) → G us
cut_rows us a b G e k = cut us (rows_lexemes a) (rows_lexemes b) G (e ∙ of_rows a b) k

-- the row of a statement's line before others
pub cut_row : (us : Lexemes) (margin : ℕ) (ws : List Spaced) (rs : List Row) (G : Lexemes → Type 0) → map unplaced us ≡ rows_lexemes (statement_row margin ws ∷ rs) →
    ((vs more : Lexemes) → map unplaced vs ≡ words_lexemes ws ++ end_lexeme ∷ [] → map unplaced more ≡ rows_lexemes rs → G (vs ++ more)) → G us
cut_row us margin ws rs G e k = cut us (words_lexemes ws ++ end_lexeme ∷ []) (rows_lexemes rs) G e k

pub last_row : (us : Lexemes) (margin : ℕ) (ws : List Spaced) → map unplaced us ≡ rows_lexemes (statement_row margin ws ∷ []) → map unplaced us ≡ words_lexemes ws ++ end_lexeme ∷ []
last_row us margin ws e = e ∙ append-nil (words_lexemes ws ++ end_lexeme ∷ [])
