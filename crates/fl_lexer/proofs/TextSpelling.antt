-- A text is read exactly where it spells its tokens.
use Rattle.std.proofs.Common.{◌≡◌, ℕ, zero, suc, ◌+◌, ◌-◌, ◌<◌, ◌≤◌, Bool, true, false, cond, List, [], ◌∷◌, ◌++◌, length, take, drop, Ok, Err, Result, refl, ap, sym, ◌∙◌, subst, arith, append_assoc, append-nil, length-append}
use Rattle.std.specs.Prelude.{nat_lt}
use Rattle.std.specs.List.{prefix_len}
use Rattle.std.proofs.lemmas.List.{take-append-drop, length-take-le}
use Rattle.std.proofs.lemmas.Bool.Decides.{nat_tests}
use Rattle.tokens.specs.declared.TokenKind.TheVariants.{Sentinel}
use Rattle.fl_lexer.specs.declared.error.LexError.{LexError}
use Rattle.fl_lexer.specs.declared.error.Refusal.{Refusal}
use Rattle.fl_lexer.specs.declared.piece.PieceKind.{PieceKind}
use Rattle.fl_lexer.specs.declared.piece.PieceKind.TheVariants.{Blank, Lexical, BadByte, LongName, WideLiteral}
use Rattle.fl_lexer.specs.declared.line.LinePlace.{LinePlace}
use Rattle.fl_lexer.specs.declared.line.LineClass.{LineClass}
use Rattle.fl_lexer.specs.declared.line.LineClass.TheVariants.{Empty, Conditional, Statement, Directive}
use Rattle.fl_lexer.specs.Bytes.{is_blank}
use Rattle.fl_lexer.specs.Pieces.{piece, piece_of}
use Rattle.fl_lexer.specs.Lines.{Line, lines, class_of, text_from, goes_on, body_of, next_class, continues}
use Rattle.fl_lexer.specs.Reading.{Tokens, Reading, ◌>>=◌, with_piece, pieces, token, line_end, ended, text, joint, directive, of_class, sooner, within_limit, one_line, all_lines, after, first_place, leaves_open, told, lexed}
use Rattle.fl_lexer.specs.Spelling.{IsPiece, Spelt, spelt, text_of, AreLongest, token_of, tokens_of, Goes, end_of, SpellsText, SpellsClass, SpellLines, Spells}
use Rattle.fl_lexer.proofs.PieceLaws.{chosen, piece_within}
use Rattle.fl_lexer.proofs.ReadLaws.{pieces-skipped, pieces-ok}
use Rattle.fl_lexer.proofs.PieceSpelling.{piece_again, piece_some, piece_found, drop_front, Sound}

-- a step that was taken
pub bind_ok : (r : Reading) (f : Tokens → Reading) (us : Tokens) → (r >>= f) ≡ Ok us → (ts : Tokens) × (r ≡ Ok ts) × (f ts ≡ Ok us)
bind_ok (Ok ts) f us h = (ts, refl, h)
bind_ok (Err e) f us h = absurd (let g : ◌≡◌ {A = Reading} (Err e) (Ok us) = h in cc)

no_err : {A : Type 0} (e : Refusal) (us : Tokens) → ◌≡◌ {A = Reading} (Err e) (Ok us) → A
no_err e us h = absurd (let g : ◌≡◌ {A = Reading} (Err e) (Ok us) = h in cc)

ok_same : (ts us : Tokens) → ◌≡◌ {A = Reading} (Ok ts) (Ok us) → ts ≡ us
ok_same ts us h = let g : ◌≡◌ {A = Reading} (Ok ts) (Ok us) = h in cc

with_good : (p : LinePlace) (at n : ℕ) (ts : Tokens) (kind : PieceKind) (bs rest : List ℕ) → IsPiece kind bs rest → with_piece p at ts n kind ≡ Ok (ts ++ token_of p at n kind)
with_good p at n ts Blank bs rest i = ap (λ us. Ok us) (sym (append-nil ts))
with_good p at n ts (Lexical kind) bs rest i = refl
with_good p at n ts BadByte bs rest i = absurd i
with_good p at n ts LongName bs rest i = absurd i
with_good p at n ts WideLiteral bs rest i = absurd i

-- pieces that could be no longer are read
pub pieces_again : (p : LinePlace) (at : ℕ) (xs : List Spelt) (ts : Tokens) → AreLongest xs → pieces p 0 at (text_of xs) ts ≡ Ok (ts ++ tokens_of p at xs)
unfolding pieces
pieces_again p at [] ts a = ap (λ us. Ok us) (sym (append-nil ts))
pieces_again p at (x ∷ xs) ts a =
    let n = length x.bytes in
    let rest = text_of xs in
    let us = ts ++ token_of p at n x.kind in
    let some : 0 < length (x.bytes ++ rest) = omega (arith, piece_some x.kind x.bytes rest a.0, length-append x.bytes rest) in
    pieces-ok p at (x.bytes ++ rest) ts us (piece n x.kind) some (sym (piece_again x.kind x.bytes rest a.0)) (with_good p at n ts x.kind x.bytes rest a.0)
    ∙ ap (λ bs. pieces p 0 (at + n) bs us) (drop_front x.bytes rest)
    ∙ pieces_again p (at + n) xs us a.1
    ∙ ap (λ vs. Ok vs) (append_assoc ts (token_of p at n x.kind) (tokens_of p (at + n) xs))

abbrev Found : LinePlace → ℕ → List ℕ → Tokens → Tokens → Type 0
Found p at bs ts us = (xs : List Spelt) × (bs ≡ text_of xs) × AreLongest xs × (us ≡ ts ++ tokens_of p at xs)

before_one : (n : ℕ) → 0 < n → n ≡ suc (n - 1)
before_one n h = omega arith

-- one more piece before those found
more_found : (p : LinePlace) (at n : ℕ) (b : ℕ) (bs : List ℕ) (ts us : Tokens) (kind : PieceKind) → 0 < n → n ≤ suc (length bs) →
    IsPiece kind (take n (b ∷ bs)) (drop n (b ∷ bs)) → Found p (at + 1 + (n - 1)) (drop (n - 1) bs) (ts ++ token_of p at n kind) us → Found p (at + 0) (b ∷ bs) ts us
more_found p at n b bs ts us kind some within i (xs, e, a, u) =
    let all = b ∷ bs in
    let front = take n all in
    let rest : drop n all ≡ text_of xs = ap (λ k. drop k all) (before_one n some) ∙ e in
    let size : length front ≡ n = length-take-le n all within in
    let whole : all ≡ front ++ text_of xs = sym (take-append-drop n all) ∙ ap (λ cs. front ++ cs) rest in
    let none : at ≡ at + 0 = omega arith in
    let behind : at + 1 + (n - 1) ≡ at + n = omega arith in
    let tokens : us ≡ ts ++ (token_of p at n kind ++ tokens_of p (at + n) xs) =
    u ∙ ap (λ m. (ts ++ token_of p at n kind) ++ tokens_of p m xs) behind ∙ append_assoc ts (token_of p at n kind) (tokens_of p (at + n) xs) in
    let sized : us ≡ ts ++ (token_of p at (length front) kind ++ tokens_of p (at + length front) xs) =
    subst (λ (m : ℕ). us ≡ ts ++ (token_of p at m kind ++ tokens_of p (at + m) xs)) (sym size) tokens in (
      spelt kind front ∷ xs,
      whole,
      (subst (λ (r : List ℕ). IsPiece kind front r) rest i, a),
      subst (λ (m : ℕ). us ≡ ts ++ tokens_of p m (spelt kind front ∷ xs)) none sized,
    )

by_kind : (p : LinePlace) (at n : ℕ) (b : ℕ) (bs : List ℕ) (ts us : Tokens) (kind : PieceKind) → 0 < n → n ≤ suc (length bs) →
    Sound kind (take n (b ∷ bs)) (drop n (b ∷ bs)) →
    ((vs : Tokens) → pieces p (n - 1) (at + 1) bs vs ≡ Ok us → Found p (at + 1 + (n - 1)) (drop (n - 1) bs) vs us) →
    (with_piece p at ts n kind >>= pieces p (n - 1) (at + 1) bs) ≡ Ok us → Found p (at + 0) (b ∷ bs) ts us
by_kind p at n b bs ts us Blank some within i rec h =
    more_found p at n b bs ts us Blank some within i (subst (λ (vs : Tokens). Found p (at + 1 + (n - 1)) (drop (n - 1) bs) vs us) (sym (append-nil ts)) (rec ts h))
by_kind p at n b bs ts us (Lexical kind) some within i rec h = more_found p at n b bs ts us (Lexical kind) some within i (rec (ts ++ token p at n kind ∷ []) h)
by_kind p at n b bs ts us BadByte some within i rec h = no_err _ us h
by_kind p at n b bs ts us LongName some within i rec h = no_err _ us h
by_kind p at n b bs ts us WideLiteral some within i rec h = no_err _ us h

-- what was read are pieces that could be no longer
pub pieces_found : (p : LinePlace) (n at : ℕ) (bs : List ℕ) (ts us : Tokens) → pieces p n at bs ts ≡ Ok us → Found p (at + n) (drop n bs) ts us
unfolding pieces
pieces_found p zero at [] ts us h = ([], refl, tt, sym (ok_same ts us h) ∙ sym (append-nil ts))
pieces_found p (suc n) at [] ts us h = ([], refl, tt, sym (ok_same ts us h) ∙ sym (append-nil ts))
pieces_found p zero at (b ∷ bs) ts us h =
    let x = piece_of (b ∷ bs) in
    let w = piece_within b bs in
    by_kind p at x.len b bs ts us x.kind w.some w.within (piece_found b bs) (λ vs g. pieces_found p (x.len - 1) (at + 1) bs vs us g) h
pieces_found p (suc n) at (b ∷ bs) ts us h =
    let e : at + 1 + n ≡ at + suc n = omega arith in
    subst (λ (m : ℕ). Found p m (drop n bs) ts us) e (pieces_found p n (at + 1) bs ts us h)

goes_found : (c : Bool) (class : LineClass) (ls : List Line) (ts us : Tokens) (e : Refusal) → continues class (next_class ls) ≡ c →
    cond c (Ok ts) (Err e) ≡ Ok us → (continues class (next_class ls) ≡ true) × (ts ≡ us)
goes_found true class ls ts us e g h = (g, ok_same ts us h)
goes_found false class ls ts us e g h = no_err e us h

ended_by : (t : Bool) (p : LinePlace) (class : LineClass) (l : Line) (ls : List Line) (ts us : Tokens) (e : Refusal) →
    cond t (cond (continues class (next_class ls)) (Ok ts) (Err e)) (Ok (ts ++ line_end p l ∷ [])) ≡ Ok us → Goes t class ls × (us ≡ ts ++ end_of t p l)
ended_by true p class l ls ts us e h = let g = goes_found (continues class (next_class ls)) class ls ts us e refl h in (g.0, sym g.1 ∙ sym (append-nil ts))
ended_by false p class l ls ts us e h = (tt, sym (ok_same _ us h))

ended_found : (p : LinePlace) (class : LineClass) (from : ℕ) (l : Line) (ls : List Line) (ts us : Tokens) → ended p class from l ls ts ≡ Ok us →
    Goes (goes_on (text_from from l.bytes)) class ls × (us ≡ ts ++ end_of (goes_on (text_from from l.bytes)) p l)
unfolding ended
ended_found p class from l ls ts us h = ended_by (goes_on (text_from from l.bytes)) p class l ls ts us _ h

ended_again_by : (t : Bool) (p : LinePlace) (class : LineClass) (l : Line) (ls : List Line) (ts : Tokens) (e : Refusal) → Goes t class ls →
    cond t (cond (continues class (next_class ls)) (Ok ts) (Err e)) (Ok (ts ++ line_end p l ∷ [])) ≡ Ok (ts ++ end_of t p l)
ended_again_by true p class l ls ts e g = ap (λ c. cond c (Ok ts) (Err e)) g ∙ ap (λ us. Ok us) (sym (append-nil ts))
ended_again_by false p class l ls ts e g = refl

ended_again : (p : LinePlace) (class : LineClass) (from : ℕ) (l : Line) (ls : List Line) (ts : Tokens) → Goes (goes_on (text_from from l.bytes)) class ls →
    ended p class from l ls ts ≡ Ok (ts ++ end_of (goes_on (text_from from l.bytes)) p l)
unfolding ended
ended_again p class from l ls ts g = ended_again_by (goes_on (text_from from l.bytes)) p class l ls ts _ g

text_found : (p : LinePlace) (class : LineClass) (from skipped : ℕ) (l : Line) (ls : List Line) (ts us : Tokens) → text p class from skipped l ls ts ≡ Ok us →
    (vs : Tokens) × SpellsText p class from skipped l ls vs × (us ≡ ts ++ vs)
unfolding text
text_found p class from skipped l ls ts us h =
    let bytes = text_from from l.bytes in
    let read = bind_ok (pieces p skipped from (body_of bytes) ts) (ended p class from l ls) us h in
    let found = pieces_found p skipped from (body_of bytes) ts read.0 read.1 in
    let end = ended_found p class from l ls read.0 us read.2 in (
      tokens_of p (from + skipped) found.0 ++ end_of (goes_on bytes) p l,
      (found.0, found.1, found.2, end.0, refl),
      end.1 ∙ ap (λ vs. vs ++ end_of (goes_on bytes) p l) found.3 ∙ append_assoc ts (tokens_of p (from + skipped) found.0) (end_of (goes_on bytes) p l),
    )

text_again : (p : LinePlace) (class : LineClass) (from skipped : ℕ) (l : Line) (ls : List Line) (ts vs : Tokens) → SpellsText p class from skipped l ls vs →
    text p class from skipped l ls ts ≡ Ok (ts ++ vs)
unfolding text
text_again p class from skipped l ls ts vs (xs, e, a, g, u) =
    let bytes = text_from from l.bytes in
    let mid = tokens_of p (from + skipped) xs in
    let end = end_of (goes_on bytes) p l in
    ap (λ r. r >>= ended p class from l ls)
    (pieces-skipped p skipped from (body_of bytes) ts ∙ ap (λ bs. pieces p 0 (from + skipped) bs ts) e ∙ pieces_again p (from + skipped) xs ts a)
    ∙ ended_again p class from l ls (ts ++ mid) g
    ∙ ap (λ us. Ok us) (append_assoc ts mid end ∙ ap (λ us. ts ++ us) (sym u))

sentinel_found : (continued : Bool) (p : LinePlace) (from : ℕ) (ts : Tokens) →
    cond continued ts (ts ++ token p from 5 Sentinel ∷ []) ≡ ts ++ cond continued [] (token p from 5 Sentinel ∷ [])
sentinel_found true p from ts = sym (append-nil ts)
sentinel_found false p from ts = refl

class_found : (p : LinePlace) (continued : Bool) (class : LineClass) (l : Line) (ls : List Line) (ts us : Tokens) → of_class p continued class l ls ts ≡ Ok us →
    (vs : Tokens) × SpellsClass p continued class l ls vs × (us ≡ ts ++ vs)
unfolding of_class directive
class_found p continued Empty l ls ts us h = ([], refl, sym (ok_same ts us h) ∙ sym (append-nil ts))
class_found p continued Conditional l ls ts us h = no_err _ us h
class_found p continued Statement l ls ts us h =
    let from = prefix_len is_blank l.bytes in
    text_found p Statement from (joint continued from l) l ls ts us h
class_found p continued Directive l ls ts us h =
    let from = prefix_len is_blank l.bytes in
    let first = cond continued [] (token p from 5 Sentinel ∷ []) in
    let found = text_found p Directive (from + 5) 0 l ls (cond continued ts (ts ++ token p from 5 Sentinel ∷ [])) us h in
    (first ++ found.0, (found.0, found.1, refl), found.2 ∙ ap (λ vs. vs ++ found.0) (sentinel_found continued p from ts) ∙ append_assoc ts first found.0)

class_again : (p : LinePlace) (continued : Bool) (class : LineClass) (l : Line) (ls : List Line) (ts vs : Tokens) → SpellsClass p continued class l ls vs →
    of_class p continued class l ls ts ≡ Ok (ts ++ vs)
unfolding of_class directive
class_again p continued Empty l ls ts vs e = ap (λ us. Ok us) (sym (append-nil ts) ∙ ap (λ us. ts ++ us) (sym e))
class_again p continued Conditional l ls ts vs i = absurd i
class_again p continued Statement l ls ts vs i =
    let from = prefix_len is_blank l.bytes in
    text_again p Statement from (joint continued from l) l ls ts vs i
class_again p continued Directive l ls ts vs (us, i, e) =
    let from = prefix_len is_blank l.bytes in
    let first = cond continued [] (token p from 5 Sentinel ∷ []) in
    ap (λ ws. text p Directive (from + 5) 0 l ls ws) (sentinel_found continued p from ts)
    ∙ text_again p Directive (from + 5) 0 l ls (ts ++ first) us i
    ∙ ap (λ ws. Ok ws) (append_assoc ts first us ∙ ap (λ ws. ts ++ ws) (sym e))

sooner_no : {A : Type 0} (p : LinePlace) (r : Reading) (us : Tokens) → sooner p r ≡ Ok us → A
sooner_no p (Ok ts) us h = no_err _ us h
sooner_no {A} p (Err e) us h =
    let P : Reading → Type 0 = λ (r : Reading). r ≡ Ok us → A in
    chosen (nat_lt e.at (p.start + 1024)) _ _ P (λ _ g. no_err _ us g) (λ _ g. no_err _ us g) h

limit_by : (t : Bool) (p : LinePlace) (r : Reading) (us : Tokens) → cond t (sooner p r) r ≡ Ok us → (t ≡ false) × (r ≡ Ok us)
limit_by true p r us h = sooner_no p r us h
limit_by false p r us h = (refl, h)

not_above : (n m : ℕ) → nat_lt m n ≡ false → n ≤ m
not_above n m h = grind (arith, nat_tests)

pub not_below : (n m : ℕ) → n ≤ m → nat_lt m n ≡ false
not_below n m h = grind (arith, nat_tests)

pub limit_found : (p : LinePlace) (l : Line) (r : Reading) (us : Tokens) → within_limit p l r ≡ Ok us → (length l.bytes ≤ 1024) × (r ≡ Ok us)
unfolding within_limit
limit_found p l r us h = let g = limit_by (nat_lt 1024 (length l.bytes)) p r us h in (not_above (length l.bytes) 1024 g.0, g.1)

limit_again : (p : LinePlace) (l : Line) (r : Reading) → length l.bytes ≤ 1024 → within_limit p l r ≡ r
unfolding within_limit
limit_again p l r h = ap (λ t. cond t (sooner p r) r) (not_below (length l.bytes) 1024 h)

pub lines_found : (p : LinePlace) (continued : Bool) (ls : List Line) (ts us : Tokens) → all_lines p continued ls ts ≡ Ok us →
    (vs : Tokens) × SpellLines p continued ls vs × (us ≡ ts ++ vs)
unfolding all_lines one_line
lines_found p continued [] ts us h = ([], refl, sym (ok_same ts us h) ∙ sym (append-nil ts))
lines_found p continued (l ∷ ls) ts us h =
    let next = leaves_open continued (class_of l.bytes) l.bytes in
    let read = bind_ok (within_limit p l (of_class p continued (class_of l.bytes) l ls ts)) (all_lines (after p l) next ls) us h in
    let limit = limit_found p l (of_class p continued (class_of l.bytes) l ls ts) read.0 read.1 in
    let found = class_found p continued (class_of l.bytes) l ls ts read.0 limit.1 in
    let rest = lines_found (after p l) next ls read.0 us read.2 in
    (found.0 ++ rest.0, (found.0, rest.0, limit.0, found.1, rest.1, refl), rest.2 ∙ ap (λ vs. vs ++ rest.0) found.2 ∙ append_assoc ts found.0 rest.0)

pub lines_again : (p : LinePlace) (continued : Bool) (ls : List Line) (ts us : Tokens) → SpellLines p continued ls us → all_lines p continued ls ts ≡ Ok (ts ++ us)
unfolding all_lines one_line
lines_again p continued [] ts us e = ap (λ vs. Ok vs) (sym (append-nil ts) ∙ ap (λ vs. ts ++ vs) (sym e))
lines_again p continued (l ∷ ls) ts us (vs, ws, limit, i, rest, e) =
    let next = leaves_open continued (class_of l.bytes) l.bytes in
    ap (λ r. r >>= all_lines (after p l) next ls)
    (limit_again p l (of_class p continued (class_of l.bytes) l ls ts) limit ∙ class_again p continued (class_of l.bytes) l ls ts vs i)
    ∙ lines_again (after p l) next ls (ts ++ vs) ws rest
    ∙ ap (λ xs. Ok xs) (append_assoc ts vs ws ∙ ap (λ xs. ts ++ xs) (sym e))

told_ok : (r : Reading) (us : Tokens) → told r ≡ Ok us → r ≡ Ok us
told_ok (Ok ts) us h = let g : ◌≡◌ {A = Result Tokens LexError} (Ok ts) (Ok us) = h in ap (λ vs. Ok vs) (let e : ts ≡ us = cc in e)
told_ok (Err e) us h = absurd (let g : ◌≡◌ {A = Result Tokens LexError} (Err e.error) (Ok us) = h in cc)

-- what is read is spelled so
pub lexed_found : (bytes : List ℕ) (us : Tokens) → lexed bytes ≡ Ok us → Spells bytes us
unfolding lexed
lexed_found bytes us h =
    let found = lines_found first_place false (lines bytes) [] us (told_ok _ us h) in
    subst (λ (vs : Tokens). Spells bytes vs) (sym found.2) found.1

-- what is spelled so is read
pub lexed_again : (bytes : List ℕ) (us : Tokens) → Spells bytes us → lexed bytes ≡ Ok us
unfolding lexed
lexed_again bytes us s = ap told (lines_again first_place false (lines bytes) [] us s)
