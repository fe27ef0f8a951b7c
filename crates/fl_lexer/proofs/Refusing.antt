-- What reading refuses is the first of all that the rules refuse.
use Rattle.std.proofs.Common.{◌≡◌, ℕ, zero, suc, ◌+◌, ◌-◌, ◌<◌, ◌≤◌, Bool, true, false, cond, List, [], ◌∷◌, ◌++◌, length, take, drop, ◌⊎◌, inl, inr, Ok, Err, Result, refl, ap, sym, ◌∙◌, subst, arith, append-nil, length-append, length-drop}
use Rattle.std.specs.Prelude.{nat_lt}
use Rattle.std.specs.List.{prefix_len, position_or_len}
use Rattle.std.proofs.lemmas.List.{length-take-le, length-take}
use Rattle.std.proofs.lemmas.List.Sums.{prefix_len-le-length}
use Rattle.std.proofs.lemmas.Bool.Decides.{nat_tests}
use Rattle.fl_lexer.specs.declared.error.LexError.{LexError}
use Rattle.fl_lexer.specs.declared.error.LexError.TheVariants as errors
use Rattle.fl_lexer.specs.declared.error.Refusal.{Refusal}
use Rattle.fl_lexer.specs.declared.piece.PieceKind.{PieceKind}
use Rattle.fl_lexer.specs.declared.piece.PieceKind.TheVariants.{Blank, Lexical, BadByte, LongName, WideLiteral}
use Rattle.fl_lexer.specs.declared.line.LinePlace.{LinePlace}
use Rattle.fl_lexer.specs.declared.line.LineClass.{LineClass}
use Rattle.fl_lexer.specs.declared.line.LineClass.TheVariants.{Empty, Conditional, Statement, Directive}
use Rattle.fl_lexer.specs.Bytes.{is_blank, is_bang}
use Rattle.fl_lexer.specs.Pieces.{piece_of}
use Rattle.fl_lexer.specs.Lines.{Line, lines, class_of, class_of_text, text_from, goes_on, body_of, trimmed_len, next_class, continues}
use Rattle.fl_lexer.specs.Reading.{Tokens, Reading, ◌>>=◌, with_piece, pieces, token, ended, text, joint, directive, of_class, sooner, within_limit, one_line, all_lines, after, first_place, leaves_open, told, lexed}
use Rattle.fl_lexer.specs.Refusals.{refusal, bad_piece, bad_pieces, bad_end, bad_text, bad_class, too_long, bad_lines, refusals, Every, Among, IsLongLine, Decides, IsFirst}
use Rattle.fl_lexer.proofs.PieceLaws.{chosen}
use Rattle.fl_lexer.proofs.TextSpelling.{bind_ok, limit_found, not_below}
use Rattle.fl_lexer.proofs.PieceSpelling.{and_first}
use Rattle.fl_lexer.proofs.Placing.{text_in_line, directive_has}

-- Lists of refusals.

abbrev From : ℕ → List Refusal → Type 0
From n = Every (λ r. n ≤ r.at)

abbrev Below : ℕ → List Refusal → Type 0
Below n = Every (λ r. r.at < n)

every_append : (P : Refusal → Type 0) (rs qs : List Refusal) → Every P rs → Every P qs → Every P (rs ++ qs)
every_append P [] qs a b = b
every_append P (r ∷ rs) qs a b = (a.0, every_append P rs qs a.1 b)

every_weaker : (P Q : Refusal → Type 0) (rs : List Refusal) → ((r : Refusal) → P r → Q r) → Every P rs → Every Q rs
every_weaker P Q [] f a = tt
every_weaker P Q (r ∷ rs) f a = (f r a.0, every_weaker P Q rs f a.1)

from_lower : (m n : ℕ) (rs : List Refusal) → m ≤ n → From n rs → From m rs
from_lower m n rs h = every_weaker (λ r. n ≤ r.at) (λ r. m ≤ r.at) rs (λ r g. omega (arith, h, g))

below_higher : (m n : ℕ) (rs : List Refusal) → m ≤ n → Below m rs → Below n rs
below_higher m n rs h = every_weaker (λ r. r.at < m) (λ r. r.at < n) rs (λ r g. omega (arith, h, g))

among_front : (r : Refusal) (rs qs : List Refusal) → Among r rs → Among r (rs ++ qs)
among_front r [] qs a = absurd a
among_front r (q ∷ rs) qs (inl e) = inl e
among_front r (q ∷ rs) qs (inr a) = inr (among_front r rs qs a)

among_last : (r : Refusal) (rs : List Refusal) → Among r (rs ++ r ∷ [])
among_last r [] = inl refl
among_last r (q ∷ rs) = inr (among_last r rs)

every_both : (P Q R : Refusal → Type 0) (rs : List Refusal) → ((r : Refusal) → P r → Q r → R r) → Every P rs → Every Q rs → Every R rs
every_both P Q R [] f a b = tt
every_both P Q R (r ∷ rs) f a b = (f r a.0 b.0, every_both P Q R rs f a.1 b.1)

-- the first of some, and the others stand behind it
abbrev First : Refusal → List Refusal → Type 0
First e rs = (qs : List Refusal) × (rs ≡ e ∷ qs) × Every (λ q. e.at < q.at) qs

first_append : (e : Refusal) (rs qs : List Refusal) → First e rs → Every (λ q. e.at < q.at) qs → First e (rs ++ qs)
first_append e rs qs (ps, h, a) b = (ps ++ qs, ap (λ xs. xs ++ qs) h, every_append (λ q. e.at < q.at) ps qs a b)

-- Readings.

bind_err : (r : Reading) (f : Tokens → Reading) (e : Refusal) → (r >>= f) ≡ Err e → (r ≡ Err e) ⊎ ((ts : Tokens) × (r ≡ Ok ts) × (f ts ≡ Err e))
bind_err (Ok ts) f e h = inr (ts, refl, h)
bind_err (Err g) f e h = inl h

no_ok : {A : Type 0} (ts : Tokens) (e : Refusal) → ◌≡◌ {A = Reading} (Ok ts) (Err e) → A
no_ok ts e h = absurd (let g : ◌≡◌ {A = Reading} (Ok ts) (Err e) = h in cc)

no_err : {A : Type 0} (e : Refusal) (us : Tokens) → ◌≡◌ {A = Reading} (Err e) (Ok us) → A
no_err e us h = absurd (let g : ◌≡◌ {A = Reading} (Err e) (Ok us) = h in cc)

err_same : (d e : Refusal) → ◌≡◌ {A = Reading} (Err d) (Err e) → d ≡ e
err_same d e h = let g : ◌≡◌ {A = Reading} (Err d) (Err e) = h in cc

-- Pieces.

bad_piece_from : (p : LinePlace) (at : ℕ) (kind : PieceKind) → From (p.start + at) (bad_piece p at kind) × Below (p.start + at + 1) (bad_piece p at kind)
bad_piece_from p at Blank = (tt, tt)
bad_piece_from p at (Lexical kind) = (tt, tt)
bad_piece_from p at BadByte = ((omega arith, tt), (omega arith, tt))
bad_piece_from p at LongName = ((omega arith, tt), (omega arith, tt))
bad_piece_from p at WideLiteral = ((omega arith, tt), (omega arith, tt))

bad_from : (p : LinePlace) (n at : ℕ) (bs : List ℕ) → From (p.start + at) (bad_pieces p n at bs)
unfolding bad_pieces
bad_from p zero at [] = tt
bad_from p (suc n) at [] = tt
bad_from p zero at (b ∷ bs) =
    let x = piece_of (b ∷ bs) in
    every_append (λ r. p.start + at ≤ r.at) (bad_piece p at x.kind) (bad_pieces p (x.len - 1) (at + 1) bs) (bad_piece_from p at x.kind).0
    (from_lower (p.start + at) (p.start + (at + 1)) (bad_pieces p (x.len - 1) (at + 1) bs) (omega arith) (bad_from p (x.len - 1) (at + 1) bs))
bad_from p (suc n) at (b ∷ bs) = from_lower (p.start + at) (p.start + (at + 1)) (bad_pieces p n (at + 1) bs) (omega arith) (bad_from p n (at + 1) bs)

bad_below : (p : LinePlace) (n at : ℕ) (bs : List ℕ) → Below (p.start + at + length bs) (bad_pieces p n at bs)
unfolding bad_pieces
bad_below p zero at [] = tt
bad_below p (suc n) at [] = tt
bad_below p zero at (b ∷ bs) =
    let x = piece_of (b ∷ bs) in
    every_append (λ r. r.at < p.start + at + suc (length bs)) (bad_piece p at x.kind) (bad_pieces p (x.len - 1) (at + 1) bs)
    (below_higher (p.start + at + 1) (p.start + at + suc (length bs)) (bad_piece p at x.kind) (omega arith) (bad_piece_from p at x.kind).1)
    (below_higher (p.start + (at + 1) + length bs) (p.start + at + suc (length bs)) (bad_pieces p (x.len - 1) (at + 1) bs) (omega arith) (bad_below p (x.len - 1) (at + 1) bs))
bad_below p (suc n) at (b ∷ bs) =
    below_higher (p.start + (at + 1) + length bs) (p.start + at + suc (length bs)) (bad_pieces p n (at + 1) bs) (omega arith) (bad_below p n (at + 1) bs)

ok_by_kind : (p : LinePlace) (at n : ℕ) (ts us : Tokens) (kind : PieceKind) (f : Tokens → Reading) (rs : List Refusal) →
    ((vs : Tokens) → f vs ≡ Ok us → rs ≡ []) → (with_piece p at ts n kind >>= f) ≡ Ok us → bad_piece p at kind ++ rs ≡ []
ok_by_kind p at n ts us Blank f rs rec h = rec ts h
ok_by_kind p at n ts us (Lexical kind) f rs rec h = rec (ts ++ token p at n kind ∷ []) h
ok_by_kind p at n ts us BadByte f rs rec h = no_err _ us h
ok_by_kind p at n ts us LongName f rs rec h = no_err _ us h
ok_by_kind p at n ts us WideLiteral f rs rec h = no_err _ us h

pieces_none : (p : LinePlace) (n at : ℕ) (bs : List ℕ) (ts us : Tokens) → pieces p n at bs ts ≡ Ok us → bad_pieces p n at bs ≡ []
unfolding pieces bad_pieces
pieces_none p zero at [] ts us h = refl
pieces_none p (suc n) at [] ts us h = refl
pieces_none p zero at (b ∷ bs) ts us h =
    let x = piece_of (b ∷ bs) in
    ok_by_kind p at x.len ts us x.kind (pieces p (x.len - 1) (at + 1) bs) (bad_pieces p (x.len - 1) (at + 1) bs) (λ vs g. pieces_none p (x.len - 1) (at + 1) bs vs us g) h
pieces_none p (suc n) at (b ∷ bs) ts us h = pieces_none p n (at + 1) bs ts us h

here : (p : LinePlace) (at : ℕ) (e : Refusal) (error : LexError) (rs : List Refusal) → From (p.start + (at + 1)) rs → ◌≡◌ {A = Reading} (Err (refusal p at error)) (Err e) →
    First e (refusal p at error ∷ rs)
here p at e error rs low h =
    let same : refusal p at error ≡ e = err_same (refusal p at error) e h in (
      rs,
      ap (λ r. r ∷ rs) same,
      every_weaker (λ r. p.start + (at + 1) ≤ r.at) (λ r. e.at < r.at) rs (λ r g. let k : p.start + at ≡ e.at = ap (λ q. q.at) same in omega (arith, g, k)) low,
    )

err_by_kind : (p : LinePlace) (at n : ℕ) (ts : Tokens) (e : Refusal) (kind : PieceKind) (f : Tokens → Reading) (rs : List Refusal) → From (p.start + (at + 1)) rs →
    ((vs : Tokens) → f vs ≡ Err e → First e rs) → (with_piece p at ts n kind >>= f) ≡ Err e → First e (bad_piece p at kind ++ rs)
err_by_kind p at n ts e Blank f rs low rec h = rec ts h
err_by_kind p at n ts e (Lexical kind) f rs low rec h = rec (ts ++ token p at n kind ∷ []) h
err_by_kind p at n ts e BadByte f rs low rec h = here p at e _ rs low h
err_by_kind p at n ts e LongName f rs low rec h = here p at e _ rs low h
err_by_kind p at n ts e WideLiteral f rs low rec h = here p at e _ rs low h

pieces_first : (p : LinePlace) (n at : ℕ) (bs : List ℕ) (ts : Tokens) (e : Refusal) → pieces p n at bs ts ≡ Err e → First e (bad_pieces p n at bs)
unfolding pieces bad_pieces
pieces_first p zero at [] ts e h = no_ok ts e h
pieces_first p (suc n) at [] ts e h = no_ok ts e h
pieces_first p zero at (b ∷ bs) ts e h =
    let x = piece_of (b ∷ bs) in
    err_by_kind p at x.len ts e x.kind (pieces p (x.len - 1) (at + 1) bs) (bad_pieces p (x.len - 1) (at + 1) bs) (bad_from p (x.len - 1) (at + 1) bs)
    (λ vs g. pieces_first p (x.len - 1) (at + 1) bs vs e g) h
pieces_first p (suc n) at (b ∷ bs) ts e h = pieces_first p n (at + 1) bs ts e h

-- The end of a line's text.

ended_none_by : (t c : Bool) (ts us vs : Tokens) (e : Refusal) → cond t (cond c (Ok ts) (Err e)) (Ok vs) ≡ Ok us → cond t (cond c [] (e ∷ [])) [] ≡ []
ended_none_by true true ts us vs e h = refl
ended_none_by true false ts us vs e h = no_err e us h
ended_none_by false c ts us vs e h = refl

ended_none : (p : LinePlace) (class : LineClass) (from : ℕ) (l : Line) (ls : List Line) (ts us : Tokens) → ended p class from l ls ts ≡ Ok us → bad_end p class from l ls ≡ []
unfolding ended bad_end
ended_none p class from l ls ts us h = ended_none_by (goes_on (text_from from l.bytes)) (continues class (next_class ls)) ts us _ _ h

ended_first_by : (t c : Bool) (ts vs : Tokens) (d e : Refusal) → cond t (cond c (Ok ts) (Err d)) (Ok vs) ≡ Err e → First e (cond t (cond c [] (d ∷ [])) [])
ended_first_by true true ts vs d e h = no_ok ts e h
ended_first_by true false ts vs d e h = ([], ap (λ r. r ∷ []) (err_same d e h), tt)
ended_first_by false c ts vs d e h = no_ok vs e h

ended_first : (p : LinePlace) (class : LineClass) (from : ℕ) (l : Line) (ls : List Line) (ts : Tokens) (e : Refusal) → ended p class from l ls ts ≡ Err e → First e (bad_end p class from l ls)
unfolding ended bad_end
ended_first p class from l ls ts e h = ended_first_by (goes_on (text_from from l.bytes)) (continues class (next_class ls)) ts _ _ e h

-- where a text goes on, its `&` stands right behind its body
body_is : (text : List ℕ) → goes_on text ≡ true → body_of text ≡ take (trimmed_len text - 1) text
unfolding body_of
body_is text h = ap (λ t. cond t (take (trimmed_len text - 1) text) text) h

is_some_number : (n : ℕ) → nat_lt 0 n ≡ true → 0 < n
is_some_number n h = grind (arith, nat_tests)

goes_some : (text : List ℕ) → goes_on text ≡ true → 0 < trimmed_len text
unfolding goes_on
goes_some text h = is_some_number (trimmed_len text) (and_first (nat_lt 0 (trimmed_len text)) _ h)

take_size : (n : ℕ) (bs : List ℕ) → length (take n bs) ≤ length bs
take_size n bs = omega (arith, length-take n bs)

text_size : (from : ℕ) (bytes : List ℕ) → length (text_from from bytes) ≤ length bytes - from
text_size from bytes = omega (arith, take_size (position_or_len is_bang (drop from bytes)) (drop from bytes), length-drop from bytes)

Ends : LinePlace → ℕ → Line → Refusal → Type 0
Ends p from l r = (p.start + from + length (body_of (text_from from l.bytes)) ≤ r.at) × (r.at < p.start + length l.bytes)

end_bounds : (p : LinePlace) (class : LineClass) (from : ℕ) (l : Line) (ls : List Line) → Every (Ends p from l) (bad_end p class from l ls)
unfolding bad_end Ends
end_bounds p class from l ls =
    let text = text_from from l.bytes in
    let P : List Refusal → Type 0 = Every (Ends p from l) in
    chosen (goes_on text) _ _ P
    (λ g.
    let n = trimmed_len text in
    let some : 0 < n = goes_some text g in
    let size : length (body_of text) ≡ n - 1 = ap length (body_is text g) ∙ length-take-le (n - 1) text (omega arith) in
    let fits : length text ≤ length l.bytes - from = text_size from l.bytes in
    let within : n ≤ length text = omega arith in
    chosen (continues class (next_class ls)) _ _ P (λ _. tt) (λ _. ((omega (arith, size), omega (arith, some, fits, within)), tt)))
    (λ _. tt)

-- The text of a line.

text_none : (p : LinePlace) (class : LineClass) (from skipped : ℕ) (l : Line) (ls : List Line) (ts us : Tokens) → text p class from skipped l ls ts ≡ Ok us → bad_text p class from skipped l ls ≡ []
unfolding text bad_text
text_none p class from skipped l ls ts us h =
    let read = bind_ok (pieces p skipped from (body_of (text_from from l.bytes)) ts) (ended p class from l ls) us h in
    ap (λ rs. rs ++ bad_end p class from l ls) (pieces_none p skipped from (body_of (text_from from l.bytes)) ts read.0 read.1)
    ∙ ended_none p class from l ls read.0 us read.2

-- what holds of all holds of the first
first_holds : (P : Refusal → Type 0) (e : Refusal) (rs : List Refusal) → First e rs → Every P rs → P e
first_holds P e rs (qs, h, a) all = (subst (Every P) h all).0

text_first_by : (p : LinePlace) (class : LineClass) (from skipped : ℕ) (l : Line) (ls : List Line) (ts : Tokens) (e : Refusal) →
    let body = body_of (text_from from l.bytes) in
    (pieces p skipped from body ts ≡ Err e) ⊎ ((us : Tokens) × (pieces p skipped from body ts ≡ Ok us) × (ended p class from l ls us ≡ Err e)) →
    First e (bad_pieces p skipped from body ++ bad_end p class from l ls)
unfolding Ends
text_first_by p class from skipped l ls ts e (inl h) =
    let body = body_of (text_from from l.bytes) in
    let first = pieces_first p skipped from body ts e h in
    let before : e.at < p.start + from + length body = first_holds (λ r. r.at < p.start + from + length body) e (bad_pieces p skipped from body) first (bad_below p skipped from body) in
    first_append e (bad_pieces p skipped from body) (bad_end p class from l ls) first
    (every_weaker (Ends p from l) (λ q. e.at < q.at) (bad_end p class from l ls) (λ r g. omega (arith, before, g.0)) (end_bounds p class from l ls))
text_first_by p class from skipped l ls ts e (inr (us, g, h)) =
    let body = body_of (text_from from l.bytes) in
    subst (λ (rs : List Refusal). First e (rs ++ bad_end p class from l ls)) (sym (pieces_none p skipped from body ts us g)) (ended_first p class from l ls us e h)

text_first : (p : LinePlace) (class : LineClass) (from skipped : ℕ) (l : Line) (ls : List Line) (ts : Tokens) (e : Refusal) → text p class from skipped l ls ts ≡ Err e → First e (bad_text p class from skipped l ls)
unfolding text bad_text
text_first p class from skipped l ls ts e h =
    text_first_by p class from skipped l ls ts e (bind_err (pieces p skipped from (body_of (text_from from l.bytes)) ts) (ended p class from l ls) e h)

Bounds : LinePlace → Line → Refusal → Type 0
Bounds p l r = (p.start ≤ r.at) × (r.at < p.start + length l.bytes)

text_bounds : (p : LinePlace) (class : LineClass) (from skipped : ℕ) (l : Line) (ls : List Line) → from ≤ length l.bytes → Every (Bounds p l) (bad_text p class from skipped l ls)
unfolding bad_text Bounds Ends
text_bounds p class from skipped l ls h =
    let body = body_of (text_from from l.bytes) in
    let rs = bad_pieces p skipped from body in
    let found = text_in_line from 0 l.bytes in
    let size : from + length body ≤ length l.bytes = omega (arith, ap length found.1, length-append body found.0, length-drop (from + 0) l.bytes, h) in
    every_append (Bounds p l) rs (bad_end p class from l ls)
    (every_both (λ r. p.start + from ≤ r.at) (λ r. r.at < p.start + from + length body) (Bounds p l) rs (λ r f g. (omega (arith, f), omega (arith, g, size)))
    (bad_from p skipped from body) (bad_below p skipped from body))
    (every_weaker (Ends p from l) (Bounds p l) (bad_end p class from l ls) (λ r g. (omega (arith, g.0), g.1)) (end_bounds p class from l ls))

-- A line of its class.

text_some : (bs : List ℕ) → (class_of_text bs ≡ Empty → ⊥) → 0 < length bs
text_some [] h = absurd (h refl)
text_some (b ∷ bs) h = omega arith

conditional_some : (bytes : List ℕ) → class_of bytes ≡ Conditional → prefix_len is_blank bytes < length bytes
unfolding class_of
conditional_some bytes h =
    let from = prefix_len is_blank bytes in
    let some : 0 < length (drop from bytes) = text_some (drop from bytes) (λ e. let g : Conditional ≡ Empty = sym h ∙ e in cc) in
    omega (arith, some, length-drop from bytes)

class_none : (p : LinePlace) (continued : Bool) (class : LineClass) (l : Line) (ls : List Line) (ts us : Tokens) → of_class p continued class l ls ts ≡ Ok us → bad_class p continued class l ls ≡ []
unfolding of_class directive bad_class
class_none p continued Empty l ls ts us h = refl
class_none p continued Conditional l ls ts us h = no_err _ us h
class_none p continued Statement l ls ts us h = text_none p Statement (prefix_len is_blank l.bytes) (joint continued (prefix_len is_blank l.bytes) l) l ls ts us h
class_none p continued Directive l ls ts us h = text_none p Directive (prefix_len is_blank l.bytes + 5) 0 l ls _ us h

class_first : (p : LinePlace) (continued : Bool) (class : LineClass) (l : Line) (ls : List Line) (ts : Tokens) (e : Refusal) → of_class p continued class l ls ts ≡ Err e → First e (bad_class p continued class l ls)
unfolding of_class directive bad_class
class_first p continued Empty l ls ts e h = no_ok ts e h
class_first p continued Conditional l ls ts e h = ([], ap (λ r. r ∷ []) (err_same _ e h), tt)
class_first p continued Statement l ls ts e h = text_first p Statement (prefix_len is_blank l.bytes) (joint continued (prefix_len is_blank l.bytes) l) l ls ts e h
class_first p continued Directive l ls ts e h = text_first p Directive (prefix_len is_blank l.bytes + 5) 0 l ls _ e h

class_bounds : (p : LinePlace) (continued : Bool) (class : LineClass) (l : Line) (ls : List Line) → class_of l.bytes ≡ class → Every (Bounds p l) (bad_class p continued class l ls)
unfolding bad_class Bounds
class_bounds p continued Empty l ls h = tt
class_bounds p continued Conditional l ls h = ((omega arith, omega (arith, conditional_some l.bytes h)), tt)
class_bounds p continued Statement l ls h = text_bounds p Statement (prefix_len is_blank l.bytes) (joint continued (prefix_len is_blank l.bytes) l) l ls (prefix_len-le-length is_blank l.bytes)
class_bounds p continued Directive l ls h =
    let has = directive_has l.bytes h in
    text_bounds p Directive (prefix_len is_blank l.bytes + 5) 0 l ls (omega (arith, has.0, length-drop (prefix_len is_blank l.bytes) l.bytes, prefix_len-le-length is_blank l.bytes))

-- A line within its limit.

first_decides : (e : Refusal) (rs : List Refusal) → First e rs → Among e rs × Every (Decides e) rs
first_decides e rs (qs, h, a) =
    subst (λ (xs : List Refusal). Among e xs × Every (Decides e) xs) (sym h)
    (inl refl, (inr (refl, inl refl), every_weaker (λ q. e.at < q.at) (Decides e) qs (λ q g. inl g) a))

below_true : (m n : ℕ) → nat_lt m n ≡ true → m < n
below_true m n h = grind (arith, nat_tests)

below_false : (m n : ℕ) → nat_lt m n ≡ false → n ≤ m
below_false m n h = grind (arith, nat_tests)

long_decides_by : (t : Bool) (r q : Refusal) → nat_lt r.at q.at ≡ t → IsLongLine r.error → r.at ≤ q.at → Decides r q
long_decides_by true r q e long h = inl (below_true r.at q.at e)
long_decides_by false r q e long h = let g : q.at ≤ r.at = below_false r.at q.at e in inr (omega (arith, g, h), inr long)

long_decides : (r q : Refusal) → IsLongLine r.error → r.at ≤ q.at → Decides r q
long_decides r q long h = long_decides_by (nat_lt r.at q.at) r q refl long h

abbrev long_line : LinePlace → Refusal
long_line p = refusal p 1024 (errors.LongLine p.line)

-- the error is the first of these, and stands in the line
Holds : LinePlace → Line → List Refusal → Refusal → Type 0
Holds p l rs e = Among e rs × Every (Decides e) rs × (p.start ≤ e.at) × (e.at < p.start + length l.bytes)

shorter_by : (t : Bool) (p : LinePlace) (l : Line) (rs : List Refusal) (f e : Refusal) → nat_lt f.at (p.start + 1024) ≡ t → 1024 < length l.bytes → First f rs → Every (Bounds p l) rs →
    ◌≡◌ {A = Reading} (cond t (Err f) (Err (long_line p))) (Err e) → Holds p l (rs ++ long_line p ∷ []) e
unfolding Holds Bounds
shorter_by true p l rs f e t long first all h =
    let same : f ≡ e = err_same f e h in
    let g = subst (λ (r : Refusal). First r rs) same first in
    let less : f.at < p.start + 1024 = below_true f.at (p.start + 1024) t in
    let less' : e.at < p.start + 1024 = subst (λ (r : Refusal). r.at < p.start + 1024) same less in
    let d = first_decides e rs g in
    let b = first_holds (Bounds p l) e rs g all in
    (among_front e rs (long_line p ∷ []) d.0, every_append (Decides e) rs (long_line p ∷ []) d.1 (inl less', tt), b.0, b.1)
shorter_by false p l rs f e t long (qs, k, a) all h =
    let same : long_line p ≡ e = err_same (long_line p) e h in
    let low : p.start + 1024 ≤ f.at = below_false f.at (p.start + 1024) t in
    let each : Every (Decides (long_line p)) rs =
    subst (Every (Decides (long_line p))) (sym k)
    (long_decides (long_line p) f tt low, every_weaker (λ q. f.at < q.at) (Decides (long_line p)) qs (λ q g. long_decides (long_line p) q tt (omega (arith, g, low))) a) in
    subst (Holds p l (rs ++ long_line p ∷ [])) same
    (among_last (long_line p) rs, every_append (Decides (long_line p)) rs (long_line p ∷ []) each (inr (refl, inl refl), tt), omega arith, omega (arith, long))

longer_by : (p : LinePlace) (l : Line) (rs : List Refusal) (r : Reading) (e : Refusal) → 1024 < length l.bytes → ((us : Tokens) → r ≡ Ok us → rs ≡ []) →
    ((f : Refusal) → r ≡ Err f → First f rs) → Every (Bounds p l) rs → sooner p r ≡ Err e → Holds p l (rs ++ long_line p ∷ []) e
unfolding Holds
longer_by p l rs (Ok us) e long none first all h =
    let same : long_line p ≡ e = err_same (long_line p) e h in
    subst (λ (xs : List Refusal). Holds p l (xs ++ long_line p ∷ []) e) (sym (none us refl))
    (subst (Holds p l (long_line p ∷ [])) same (inl refl, (inr (refl, inl refl), tt), omega arith, omega (arith, long)))
longer_by p l rs (Err f) e long none first all h = shorter_by (nat_lt f.at (p.start + 1024)) p l rs f e refl long (first f refl) all h

limited_by : (t : Bool) (p : LinePlace) (l : Line) (rs : List Refusal) (r : Reading) (e : Refusal) → nat_lt 1024 (length l.bytes) ≡ t → ((us : Tokens) → r ≡ Ok us → rs ≡ []) →
    ((f : Refusal) → r ≡ Err f → First f rs) → Every (Bounds p l) rs → cond t (sooner p r) r ≡ Err e → Holds p l (rs ++ cond t (long_line p ∷ []) []) e
unfolding Holds Bounds
limited_by true p l rs r e t none first all h = longer_by p l rs r e (below_true 1024 (length l.bytes) t) none first all h
limited_by false p l rs r e t none first all h =
    let g = first e h in
    let d = first_decides e rs g in
    let b = first_holds (Bounds p l) e rs g all in
    subst (λ (xs : List Refusal). Holds p l xs e) (sym (append-nil rs)) (d.0, d.1, b.0, b.1)

line_first : (p : LinePlace) (continued : Bool) (l : Line) (ls : List Line) (ts : Tokens) (e : Refusal) → one_line p continued l ls ts ≡ Err e →
    Holds p l (bad_class p continued (class_of l.bytes) l ls ++ too_long p l) e
unfolding one_line within_limit too_long
line_first p continued l ls ts e h =
    let class = class_of l.bytes in
    limited_by (nat_lt 1024 (length l.bytes)) p l (bad_class p continued class l ls) (of_class p continued class l ls ts) e refl
    (λ us g. class_none p continued class l ls ts us g) (λ f g. class_first p continued class l ls ts f g) (class_bounds p continued class l ls refl) h

line_none : (p : LinePlace) (continued : Bool) (l : Line) (ls : List Line) (ts us : Tokens) → one_line p continued l ls ts ≡ Ok us → bad_class p continued (class_of l.bytes) l ls ++ too_long p l ≡ []
unfolding one_line too_long
line_none p continued l ls ts us h =
    let class = class_of l.bytes in
    let limit = limit_found p l (of_class p continued class l ls ts) us h in
    ap (λ rs. rs ++ cond (nat_lt 1024 (length l.bytes)) (long_line p ∷ []) []) (class_none p continued class l ls ts us limit.1)
    ∙ ap (λ t. cond t (long_line p ∷ []) []) (not_below (length l.bytes) 1024 limit.0)

-- All lines.

long_from : (p : LinePlace) (l : Line) → From p.start (too_long p l)
unfolding too_long
long_from p l = chosen (nat_lt 1024 (length l.bytes)) _ _ (From p.start) (λ _. (omega arith, tt)) (λ _. tt)

lines_from : (p : LinePlace) (continued : Bool) (ls : List Line) → From p.start (bad_lines p continued ls)
unfolding bad_lines Bounds
lines_from p continued [] = tt
lines_from p continued (l ∷ ls) =
    let class = class_of l.bytes in
    let rs = bad_class p continued class l ls in
    let qs = bad_lines (after p l) (leaves_open continued class l.bytes) ls in
    every_append (λ r. p.start ≤ r.at) (rs ++ too_long p l) qs
    (every_append (λ r. p.start ≤ r.at) rs (too_long p l) (every_weaker (Bounds p l) (λ r. p.start ≤ r.at) rs (λ r g. g.0) (class_bounds p continued class l ls refl)) (long_from p l))
    (from_lower p.start (after p l).start qs (omega arith) (lines_from (after p l) (leaves_open continued class l.bytes) ls))

lines_none : (p : LinePlace) (continued : Bool) (ls : List Line) (ts us : Tokens) → all_lines p continued ls ts ≡ Ok us → bad_lines p continued ls ≡ []
unfolding all_lines bad_lines
lines_none p continued [] ts us h = refl
lines_none p continued (l ∷ ls) ts us h =
    let next = leaves_open continued (class_of l.bytes) l.bytes in
    let read = bind_ok (one_line p continued l ls ts) (all_lines (after p l) next ls) us h in
    ap (λ rs. rs ++ bad_lines (after p l) next ls) (line_none p continued l ls ts read.0 read.1) ∙ lines_none (after p l) next ls read.0 us read.2

lines_first_by : (p : LinePlace) (continued : Bool) (l : Line) (ls : List Line) (ts : Tokens) (e : Refusal) →
    let next = leaves_open continued (class_of l.bytes) l.bytes in
    let rs = bad_class p continued (class_of l.bytes) l ls ++ too_long p l in
    let qs = bad_lines (after p l) next ls in
    ((us : Tokens) → all_lines (after p l) next ls us ≡ Err e → Among e qs × Every (Decides e) qs) →
    (one_line p continued l ls ts ≡ Err e) ⊎ ((us : Tokens) × (one_line p continued l ls ts ≡ Ok us) × (all_lines (after p l) next ls us ≡ Err e)) →
    Among e (rs ++ qs) × Every (Decides e) (rs ++ qs)
unfolding Holds
lines_first_by p continued l ls ts e rec (inl h) =
    let next = leaves_open continued (class_of l.bytes) l.bytes in
    let rs = bad_class p continued (class_of l.bytes) l ls ++ too_long p l in
    let qs = bad_lines (after p l) next ls in
    let d = line_first p continued l ls ts e h in (
      among_front e rs qs d.0,
      every_append (Decides e) rs qs d.1 (every_weaker (λ r. (after p l).start ≤ r.at) (Decides e) qs (λ r g. inl (omega (arith, g, d.3))) (lines_from (after p l) next ls)),
    )
lines_first_by p continued l ls ts e rec (inr (us, g, h)) =
    let next = leaves_open continued (class_of l.bytes) l.bytes in
    let qs = bad_lines (after p l) next ls in
    subst (λ (xs : List Refusal). Among e (xs ++ qs) × Every (Decides e) (xs ++ qs)) (sym (line_none p continued l ls ts us g)) (rec us h)

lines_first : (p : LinePlace) (continued : Bool) (ls : List Line) (ts : Tokens) (e : Refusal) → all_lines p continued ls ts ≡ Err e →
    Among e (bad_lines p continued ls) × Every (Decides e) (bad_lines p continued ls)
unfolding all_lines bad_lines
lines_first p continued [] ts e h = no_ok ts e h
lines_first p continued (l ∷ ls) ts e h =
    let next = leaves_open continued (class_of l.bytes) l.bytes in
    lines_first_by p continued l ls ts e (λ us g. lines_first (after p l) next ls us e g) (bind_err (one_line p continued l ls ts) (all_lines (after p l) next ls) e h)

told_err : (r : Reading) (e : LexError) → told r ≡ Err e → (q : Refusal) × (r ≡ Err q) × (q.error ≡ e)
told_err (Ok ts) e h = absurd (let g : ◌≡◌ {A = Result Tokens LexError} (Ok ts) (Err e) = h in cc)
told_err (Err q) e h = (q, refl, let g : ◌≡◌ {A = Result Tokens LexError} (Err q.error) (Err e) = h in cc)

told_ok : (r : Reading) (us : Tokens) → told r ≡ Ok us → r ≡ Ok us
told_ok (Ok ts) us h = ap (λ vs. Ok vs) (let g : ◌≡◌ {A = Result Tokens LexError} (Ok ts) (Ok us) = h in let e : ts ≡ us = cc in e)
told_ok (Err e) us h = absurd (let g : ◌≡◌ {A = Result Tokens LexError} (Err e.error) (Ok us) = h in cc)

-- what is answered is the first of all that is refused
pub lexed_refused : (bytes : List ℕ) (e : LexError) → lexed bytes ≡ Err e → IsFirst (refusals bytes) e
unfolding lexed
lexed_refused bytes e h =
    let q = told_err (all_lines first_place false (lines bytes) []) e h in
    let d = lines_first first_place false (lines bytes) [] q.0 q.1 in
    (q.0, d.0, d.1, q.2)

-- where tokens are answered nothing is refused
pub lexed_none : (bytes : List ℕ) (us : Tokens) → lexed bytes ≡ Ok us → refusals bytes ≡ []
unfolding lexed
lexed_none bytes us h = lines_none first_place false (lines bytes) [] us (told_ok (all_lines first_place false (lines bytes) []) us h)
