-- The lexemes of a text that a printer writes.
use Rattle.std.proofs.Common.{◌≡◌, ℕ, ◌+◌, Bool, true, false, cond, List, [], ◌∷◌, ◌++◌, length, drop, slice_range, map, refl, ap, sym, ◌∙◌, arith, append_assoc}
use Rattle.std.specs.Prelude.{replicate, codes}
use Rattle.std.proofs.lemmas.List.{length-replicate, map-append}
use Rattle.tokens.specs.Lexeme.{Lexeme, lexeme}
use Rattle.tokens.specs.declared.TokenKind.{TokenKind}
use Rattle.tokens.specs.declared.TokenKind.TheVariants.{Sentinel, LineEnd}
use Rattle.fl_lexer.specs.declared.piece.PieceKind.{PieceKind}
use Rattle.fl_lexer.specs.declared.piece.PieceKind.TheVariants.{Blank, Lexical, BadByte, LongName, WideLiteral}
use Rattle.fl_lexer.specs.declared.line.LinePlace.{LinePlace}
use Rattle.fl_lexer.specs.Reading.{token, line_end, after, first_place}
use Rattle.fl_lexer.specs.Spelling.{Spelt, text_of, token_of, tokens_of}
use Rattle.fl_lexer.specs.Printing.{Printed, opening, joint_of, content, printed, line_of, sentinel_of, end_of_line, printed_tokens, lexical, lexeme_of, word_lexemes, printed_lexemes}
use Rattle.fl_lexer.proofs.PieceSpelling.{drop_front, drop_both}
use Rattle.fl_lexer.proofs.Placing.{slice_is}

-- a token's lexeme, by the bytes there
lexeme_at : (whole bs more : List ℕ) (p : LinePlace) (at n : ℕ) (kind : TokenKind) → n ≡ length bs → drop (p.start + at) whole ≡ bs ++ more → lexeme whole (token p at n kind) ≡ lexical p.line kind bs
lexeme_at whole bs more p at n kind size h =
    ap (λ (cs : List ℕ). lexical p.line kind cs) (ap (λ k. slice_range whole (p.start + at) (p.start + at + k)) size ∙ slice_is whole bs more (p.start + at) h)

piece_lexeme : (whole bs more : List ℕ) (p : LinePlace) (at : ℕ) (kind : PieceKind) → drop (p.start + at) whole ≡ bs ++ more → map (lexeme whole) (token_of p at (length bs) kind) ≡ lexeme_of p.line kind bs
piece_lexeme whole bs more p at Blank h = refl
piece_lexeme whole bs more p at (Lexical kind) h = ap (λ x. x ∷ []) (lexeme_at whole bs more p at (length bs) kind refl h)
piece_lexeme whole bs more p at BadByte h = refl
piece_lexeme whole bs more p at LongName h = refl
piece_lexeme whole bs more p at WideLiteral h = refl

-- the next bytes, behind some
behind : (whole bs more : List ℕ) (p : LinePlace) (at : ℕ) → drop (p.start + at) whole ≡ bs ++ more → drop (p.start + (at + length bs)) whole ≡ more
behind whole bs more p at h =
    let e : p.start + (at + length bs) ≡ p.start + at + length bs = omega arith in
    ap (λ k. drop k whole) e ∙ drop_both (p.start + at) (length bs) whole ∙ ap (drop (length bs)) h ∙ drop_front bs more

words_are : (whole more : List ℕ) (p : LinePlace) (at : ℕ) (xs : List Spelt) → drop (p.start + at) whole ≡ text_of xs ++ more → map (lexeme whole) (tokens_of p at xs) ≡ word_lexemes p.line xs
words_are whole more p at [] h = refl
words_are whole more p at (x ∷ xs) h =
    let n = length x.bytes in
    let split : drop (p.start + at) whole ≡ x.bytes ++ (text_of xs ++ more) = h ∙ append_assoc x.bytes (text_of xs) more in
    map-append (lexeme whole) (token_of p at n x.kind) (tokens_of p (at + n) xs)
    ∙ ap (λ ys. ys ++ map (lexeme whole) (tokens_of p (at + n) xs)) (piece_lexeme whole x.bytes (text_of xs ++ more) p at x.kind split)
    ∙ ap (λ ys. lexeme_of p.line x.kind x.bytes ++ ys) (words_are whole more p (at + n) xs (behind whole x.bytes (text_of xs ++ more) p at split))

abbrev sentinel_lexeme : ℕ → Bool → Bool → List Lexeme
sentinel_lexeme line directive continued = cond directive (cond continued [] (lexical line Sentinel (codes "!$omp") ∷ [])) []

sentinel_is : (directive continued : Bool) (whole more : List ℕ) (p : LinePlace) (at : ℕ) → drop (p.start + at) whole ≡ opening directive ++ more →
    map (lexeme whole) (cond directive (cond continued [] (token p at 5 Sentinel ∷ [])) []) ≡ sentinel_lexeme p.line directive continued
sentinel_is true true whole more p at h = refl
sentinel_is true false whole more p at h = ap (λ x. x ∷ []) (lexeme_at whole (codes "!$omp") more p at 5 Sentinel refl h)
sentinel_is false continued whole more p at h = refl

end_is : (g : Bool) (whole more : List ℕ) (p : LinePlace) (l : Printed) → drop (p.start + length (content l)) whole ≡ 10 ∷ more →
    map (lexeme whole) (cond g [] (line_end p (line_of l) ∷ [])) ≡ cond g [] (lexical p.line LineEnd (10 ∷ []) ∷ [])
end_is true whole more p l h = refl
end_is false whole more p l h = ap (λ x. x ∷ []) (lexeme_at whole (10 ∷ []) more p (length (content l)) 1 LineEnd refl h)

from_zero : (n : ℕ) → n ≡ 0 + n
from_zero n = omega arith

lines_are : (whole : List ℕ) (p : LinePlace) (continued : Bool) (ls : List Printed) → drop p.start whole ≡ printed ls → map (lexeme whole) (printed_tokens p continued ls) ≡ printed_lexemes p.line continued ls
lines_are whole p continued [] h = refl
lines_are whole p continued (l ∷ ls) h =
    let rest = 10 ∷ printed ls in
    let first_bytes = opening l.directive in
    let words = text_of l.words in
    let joint = joint_of l.goes_on in
    let at = l.indent + length first_bytes in
    let f = lexeme whole in
    let none : p.start + 0 ≡ p.start = omega arith in
    let whole_line : drop (p.start + 0) whole ≡ content l ++ rest = ap (λ k. drop k whole) none ∙ h in
    let lead : drop (p.start + 0) whole ≡ replicate l.indent 32 ++ ((first_bytes ++ (words ++ joint)) ++ rest) = whole_line ∙ append_assoc (replicate l.indent 32) (first_bytes ++ (words ++ joint)) rest in
    let size : 0 + length (replicate l.indent 32) ≡ l.indent = omega (arith, length-replicate {A = ℕ} l.indent 32) in
    let opened : drop (p.start + l.indent) whole ≡ first_bytes ++ ((words ++ joint) ++ rest) =
    ap (λ k. drop (p.start + k) whole) (sym size) ∙ behind whole (replicate l.indent 32) ((first_bytes ++ (words ++ joint)) ++ rest) p 0 lead ∙ append_assoc first_bytes (words ++ joint) rest in
    let worded : drop (p.start + at) whole ≡ words ++ (joint ++ rest) = behind whole first_bytes ((words ++ joint) ++ rest) p l.indent opened ∙ append_assoc words joint rest in
    let ended : drop (p.start + length (content l)) whole ≡ rest = ap (λ k. drop (p.start + k) whole) (from_zero (length (content l))) ∙ behind whole (content l) rest p 0 whole_line in
    let one : (after p (line_of l)).start ≡ p.start + length (content l) + 1 = refl in
    let next : drop (after p (line_of l)).start whole ≡ printed ls = drop_both (p.start + length (content l)) 1 whole ∙ ap (drop 1) ended in
    let first = sentinel_of p continued l in
    let mid = tokens_of p at l.words in
    let end = end_of_line p l in
    let more = printed_tokens (after p (line_of l)) l.goes_on ls in
    map-append f (first ++ (mid ++ end)) more
    ∙ ap (λ ys. ys ++ map f more) (map-append f first (mid ++ end) ∙ ap (λ ys. map f first ++ ys) (map-append f mid end))
    ∙ ap (λ ys. (ys ++ (map f mid ++ map f end)) ++ map f more) (sentinel_is l.directive continued whole ((words ++ joint) ++ rest) p l.indent opened)
    ∙ ap (λ ys. (sentinel_lexeme p.line l.directive continued ++ (ys ++ map f end)) ++ map f more) (words_are whole (joint ++ rest) p at l.words worded)
    ∙ ap (λ ys. (sentinel_lexeme p.line l.directive continued ++ (word_lexemes p.line l.words ++ ys)) ++ map f more) (end_is l.goes_on whole (printed ls) p l ended)
    ∙ ap (λ ys. (sentinel_lexeme p.line l.directive continued ++ (word_lexemes p.line l.words ++ cond l.goes_on [] (lexical p.line LineEnd (10 ∷ []) ∷ []))) ++ ys)
    (lines_are whole (after p (line_of l)) l.goes_on ls next)

-- what is printed has these lexemes
pub lexemes_are : (ls : List Printed) → map (lexeme (printed ls)) (printed_tokens first_place false ls) ≡ printed_lexemes 1 false ls
lexemes_are ls = lines_are (printed ls) first_place false ls refl
