-- Lexemes one by one with the words that they are printed as.
use Rattle.std.proofs.Common.{◌≡◌, ℕ, List, [], ◌∷◌, ◌++◌, map, refl, ap, sym, ◌∙◌}
use Rattle.tokens.specs.declared.TokenKind.{TokenKind}
use Rattle.tokens.specs.Lexeme.{Lexeme}
use Rattle.parsing.specs.Reading.{Lexemes}
use Rattle.fl_lexer.specs.declared.piece.PieceKind.TheVariants.{Lexical}
use Rattle.fl_lexer.specs.Pieces.{piece_of}
use Rattle.fl_lexer.specs.Printing.{lexical, lexeme_of}
use Rattle.fl_printer.specs.declared.spaced.Spaced.{Spaced}
use Rattle.fl_printer.specs.Lexemes.{unplaced, words_lexemes}
use Rattle.fl_printer.proofs.Tokens.{Class, class_of, IsToken, kind_is}
use Rattle.fl_printer.proofs.Flow.{Flow}
use Rattle.fl_printed.specs.Fits.{Fits}
use Rattle.fl_printed.specs.ReadBack.{AreOf}

abbrev pub Lexed : Lexemes → List Spaced → Type 0
Lexed [] [] = Unit {0}
Lexed [] (w ∷ ws) = ⊥
Lexed (t ∷ us) [] = ⊥
Lexed (t ∷ us) (w ∷ ws) = Fits t w.text × Lexed us ws

-- what holds of lexemes holds once it holds of them in parts
pub first : (us : Lexemes) (w : Spaced) (ws : List Spaced) (G : Lexemes → Type 0) → Lexed us (w ∷ ws) → ((t : Lexeme) (rest : Lexemes) → Fits t w.text → Lexed rest ws → G (t ∷ rest)) → G us
first [] w ws G l k = absurd l
first (t ∷ us) w ws G l k = k t us l.0 l.1

pub none : (us : Lexemes) (G : Lexemes → Type 0) → Lexed us [] → G [] → G us
none [] G l k = k
none (t ∷ us) G l k = absurd l

pub parts : (us : Lexemes) (xs ys : List Spaced) (G : Lexemes → Type 0) → Lexed us (xs ++ ys) → ((vs ws : Lexemes) → Lexed vs xs → Lexed ws ys → G (vs ++ ws)) → G us
parts us [] ys G l k = k [] us tt l
parts [] (x ∷ xs) ys G l k = absurd l
parts (t ∷ us) (x ∷ xs) ys G l k = parts us xs ys (λ v. G (t ∷ v)) l.1 (λ vs ws p q. k (t ∷ vs) ws (l.0, p) q)

-- ---- the lexemes of words

no_lexeme : {A : Type 0} (t : Lexeme) (ts : List Lexeme) → [] ≡ t ∷ ts → A
no_lexeme t ts e = absurd (let f : [] ≡ t ∷ ts = e in cc)

heads : (t u : Lexeme) (ts us : List Lexeme) → t ∷ ts ≡ u ∷ us → t ≡ u
heads t u ts us e = cc

tails : (t u : Lexeme) (ts us : List Lexeme) → t ∷ ts ≡ u ∷ us → ts ≡ us
tails t u ts us e = cc

one_word : (w : Spaced) (t : IsToken w.text) (ws : List Spaced) → words_lexemes (w ∷ ws) ≡ lexical 0 t.kind w.text ∷ words_lexemes ws
one_word w t ws = ap (λ k. lexeme_of 0 k w.text ++ words_lexemes ws) (kind_is w.text t)

pub lexed : (us : Lexemes) (ws : List Spaced) (c d : Class) → Flow c ws d → AreOf us ws → Lexed us ws
lexed [] [] c d f e = tt
lexed [] (w ∷ ws) c d f e = no_lexeme (lexical 0 f.0.kind w.text) (words_lexemes ws) (e ∙ one_word w f.0 ws)
lexed (u ∷ us) [] c d f e = no_lexeme (unplaced u) (map unplaced us) (sym e)
lexed (u ∷ us) (w ∷ ws) c d f e =
    let whole : unplaced u ∷ map unplaced us ≡ lexical 0 f.0.kind w.text ∷ words_lexemes ws = e ∙ one_word w f.0 ws in (
      ap (λ x. x ∷ []) (heads (unplaced u) (lexical 0 f.0.kind w.text) (map unplaced us) (words_lexemes ws) whole) ∙ ap (λ k. lexeme_of 0 k w.text) (sym (kind_is w.text f.0)),
      lexed us ws (class_of w.text) d f.2 (tails (unplaced u) (lexical 0 f.0.kind w.text) (map unplaced us) (words_lexemes ws) whole),
    )
