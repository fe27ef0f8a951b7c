-- Reading goes on behind what was read.
use Rattle.std.proofs.Common.{◌≡◌, ℕ, zero, suc, ◌+◌, ◌-◌, ◌<◌, ◌≤◌, Bool, List, [], ◌∷◌, length, take, drop, Ok, Err, refl, ap, sym, ◌∙◌, subst, arith, add-zero, length-drop}
use Rattle.std.proofs.lemmas.List.{take_all, drop-drop}
use Rattle.fl_lexer.specs.declared.piece.Piece.{Piece}
use Rattle.fl_lexer.specs.declared.error.Refusal.{Refusal}
use Rattle.fl_lexer.specs.declared.error.Halt.{Halt}
use Rattle.fl_lexer.specs.declared.error.Halt.TheVariants.{Memory, Refused}
use Rattle.fl_lexer.specs.declared.line.LinePlace.{LinePlace}
use Rattle.fl_lexer.specs.declared.line.LineClass.{LineClass}
use Rattle.fl_lexer.specs.declared.line.LineClass.TheVariants.{Empty, Conditional, Statement, Directive}
use Rattle.fl_lexer.specs.Pieces.{piece_of}
use Rattle.fl_lexer.specs.Lines.{Line, lines, class_of, next_class, or_else}
use Rattle.fl_lexer.specs.Reading.{Tokens, Reading, ◌>>=◌, with_piece, pieces, one_line, all_lines, after, leaves_open, Fails}
use Rattle.fl_lexer.proofs.PieceLaws.{IsWithin, first_within}

-- what is skipped is as if it weren't there
pub pieces-skipped : (p : LinePlace) (n at : ℕ) (bs : List ℕ) (ts : Tokens) → pieces p n at bs ts ≡ pieces p 0 (at + n) (drop n bs) ts
unfolding pieces
pieces-skipped p zero at bs ts = ap (λ m. pieces p 0 m bs ts) (sym (add-zero at))
pieces-skipped p (suc n) at [] ts = refl
pieces-skipped p (suc n) at (b ∷ bs) ts =
    let e : at + 1 + n ≡ at + suc n = omega arith in
    pieces-skipped p n (at + 1) bs ts ∙ ap (λ m. pieces p 0 m (drop n bs) ts) e

before_one : (n : ℕ) → 0 < n → n ≡ suc (n - 1)
before_one n h = omega arith

-- a piece was read: the rest is read behind it
pub pieces-ok : (p : LinePlace) (at : ℕ) (bs : List ℕ) (ts us : Tokens) (x : Piece) → 0 < length bs → x ≡ piece_of bs →
    with_piece p at ts x.len x.kind ≡ Ok us → pieces p 0 at bs ts ≡ pieces p 0 (at + x.len) (drop x.len bs) us
unfolding pieces
pieces-ok p at [] ts us x some is h = absurd (omega arith)
pieces-ok p at (b ∷ bs) ts us x some is h =
    let y = piece_of (b ∷ bs) in
    let read : with_piece p at ts y.len y.kind ≡ Ok us = subst (λ (z : Piece). with_piece p at ts z.len z.kind ≡ Ok us) is h in
    let len : y.len ≡ suc (y.len - 1) = before_one y.len (first_within (b ∷ bs) some).some in
    let place : at + 1 + (y.len - 1) ≡ at + y.len = omega (arith, len) in
    ap (λ r. r >>= pieces p (y.len - 1) (at + 1) bs) read
    ∙ pieces-skipped p (y.len - 1) (at + 1) bs us
    ∙ ap (λ m. pieces p 0 m (drop (y.len - 1) bs) us) place
    ∙ ap (λ m. pieces p 0 (at + y.len) (drop m (b ∷ bs)) us) (sym len)
    ∙ ap (λ (z : Piece). pieces p 0 (at + z.len) (drop z.len (b ∷ bs)) us) (sym is)

-- a piece was refused
pub pieces-err : (p : LinePlace) (at : ℕ) (bs : List ℕ) (ts : Tokens) (x : Piece) (e : Refusal) → 0 < length bs → x ≡ piece_of bs →
    with_piece p at ts x.len x.kind ≡ Err e → pieces p 0 at bs ts ≡ Err e
unfolding pieces
pieces-err p at [] ts x e some is h = absurd (omega arith)
pieces-err p at (b ∷ bs) ts x e some is h =
    let y = piece_of (b ∷ bs) in
    let read : with_piece p at ts y.len y.kind ≡ Err e = subst (λ (z : Piece). with_piece p at ts z.len z.kind ≡ Err e) is h in
    ap (λ r. r >>= pieces p (y.len - 1) (at + 1) bs) read

-- nothing is left
pub pieces-end : (p : LinePlace) (at : ℕ) (bs : List ℕ) (ts : Tokens) → length bs ≤ 0 → pieces p 0 at bs ts ≡ Ok ts
unfolding pieces
pieces-end p at [] ts h = refl
pieces-end p at (b ∷ bs) ts h = absurd (omega arith)

-- a line was read, and the rest is
pub all_lines-ok : (p : LinePlace) (c : Bool) (l : Line) (ls : List Line) (ts us : Tokens) → one_line p c l ls ts ≡ Ok us →
    all_lines p c (l ∷ ls) ts ≡ all_lines (after p l) (leaves_open c (class_of l.bytes) l.bytes) ls us
unfolding all_lines
all_lines-ok p c l ls ts us h = ap (λ r. r >>= all_lines (after p l) (leaves_open c (class_of l.bytes) l.bytes) ls) h

pub all_lines-err : (p : LinePlace) (c : Bool) (l : Line) (ls : List Line) (ts : Tokens) (e : Refusal) → one_line p c l ls ts ≡ Err e →
    all_lines p c (l ∷ ls) ts ≡ Err e
unfolding all_lines
all_lines-err p c l ls ts e h = ap (λ r. r >>= all_lines (after p l) (leaves_open c (class_of l.bytes) l.bytes) ls) h

-- no line is left
pub all_lines-end : (p : LinePlace) (c : Bool) (bs : List ℕ) (ts : Tokens) → length bs ≡ 0 → all_lines p c (lines bs) ts ≡ Ok ts
unfolding all_lines lines
all_lines-end p c [] ts h = refl
all_lines-end p c (b ∷ bs) ts h = absurd (omega arith)

-- what refuses the one refuses the other
pub fails_too : (r s : Reading) (h : Halt) → ((e : Refusal) → r ≡ Err e → s ≡ Err e) → Fails r h → Fails s h
fails_too r s Memory f x = tt
fails_too r s (Refused e) f x = f e x

-- a line without text leaves the next class to those behind it, any other is it
pub next_class-empty : (l : Line) (ls : List Line) → class_of l.bytes ≡ Empty → next_class (l ∷ ls) ≡ next_class ls
unfolding next_class
next_class-empty l ls h = ap (λ c. or_else c (next_class ls)) h

or_else-some : (c d : LineClass) → (c ≡ Empty → ⊥) → or_else c d ≡ c
or_else-some Empty d h = absurd (h refl)
or_else-some Conditional d h = refl
or_else-some Statement d h = refl
or_else-some Directive d h = refl

pub next_class-some : (l : Line) (ls : List Line) → (class_of l.bytes ≡ Empty → ⊥) → next_class (l ∷ ls) ≡ class_of l.bytes
unfolding next_class
next_class-some l ls h = or_else-some (class_of l.bytes) (next_class ls) h

pub next_class-none : (bs : List ℕ) → length bs ≡ 0 → next_class (lines bs) ≡ Empty
unfolding next_class lines
next_class-none [] h = refl
next_class-none (b ∷ bs) h = absurd (omega arith)

-- the bytes from one on, as the code cuts them
pub rest_is : (bs : List ℕ) (at : ℕ) → take (length bs - at) (drop at bs) ≡ drop at bs
rest_is bs at = take_all (length bs - at) (drop at bs) (omega (arith, length-drop at bs))

pub piece_is : (bs : List ℕ) (at : ℕ) (x : Piece) → x ≡ piece_of (take (length bs - at) (drop at bs)) → x ≡ piece_of (drop at bs)
piece_is bs at x h = h ∙ ap piece_of (rest_is bs at)

pub some_left : (bs : List ℕ) (at : ℕ) → at < length bs → 0 < length (drop at bs)
some_left bs at h = omega (arith, h, length-drop at bs)

pub rest_none : (bs : List ℕ) (at : ℕ) → length bs ≤ at → length (drop at bs) ≤ 0
rest_none bs at h = omega (arith, h, length-drop at bs)

-- the piece there ends within the bytes
pub piece_fits : (bs : List ℕ) (at : ℕ) (x : Piece) → at < length bs → x ≡ piece_of (take (length bs - at) (drop at bs)) → (at + x.len ≤ length bs) × (0 < x.len)
piece_fits bs at x lt h =
    let w : IsWithin (length (drop at bs)) x = subst (IsWithin (length (drop at bs))) (sym (piece_is bs at x h)) (first_within (drop at bs) (some_left bs at lt)) in
    (omega (arith, w.within, length-drop at bs, lt), w.some)

-- one turn over the pieces of bytes
pub pieces-turn : (p : LinePlace) (from at : ℕ) (bs : List ℕ) (ts us : Tokens) (x : Piece) → at < length bs → x ≡ piece_of (take (length bs - at) (drop at bs)) →
    with_piece p (from + at) ts x.len x.kind ≡ Ok us → pieces p 0 (from + (at + x.len)) (drop (at + x.len) bs) us ≡ pieces p 0 (from + at) (drop at bs) ts
pieces-turn p from at bs ts us x lt is h =
    let e : from + (at + x.len) ≡ from + at + x.len = omega arith in
    ap (λ m. pieces p 0 m (drop (at + x.len) bs) us) e
    ∙ ap (λ cs. pieces p 0 (from + at + x.len) cs us) (sym (drop-drop x.len at bs))
    ∙ sym (pieces-ok p (from + at) (drop at bs) ts us x (some_left bs at lt) (piece_is bs at x is) h)
