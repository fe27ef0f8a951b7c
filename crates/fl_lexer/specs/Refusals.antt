-- All that the rules refuse in a text, and which of it decides.
use Rattle.std.specs.Prelude.{◌≡◌, ℕ, zero, suc, ◌+◌, ◌-◌, ◌<◌, Bool, false, nat_lt, if◌then◌else◌, List, [], ◌∷◌, ◌++◌, length, ◌⊎◌}
use Rattle.std.specs.List.{prefix_len}
use Rattle.fl_lexer.specs.declared.error.LexError.{LexError}
use Rattle.fl_lexer.specs.declared.error.LexError.TheVariants as errors
use Rattle.fl_lexer.specs.declared.error.LexError.TheVariants.{LongLine}
use Rattle.fl_lexer.specs.declared.error.Refusal.{Refusal}
use Rattle.fl_lexer.specs.declared.piece.PieceKind.{PieceKind}
use Rattle.fl_lexer.specs.declared.piece.PieceKind.TheVariants.{BadByte, LongName, WideLiteral}
use Rattle.fl_lexer.specs.declared.line.LineClass.{LineClass}
use Rattle.fl_lexer.specs.declared.line.LineClass.TheVariants.{Empty, Conditional, Statement, Directive}
use Rattle.fl_lexer.specs.declared.line.LinePlace.{LinePlace}
use Rattle.fl_lexer.specs.Bytes.{is_blank}
use Rattle.fl_lexer.specs.Pieces.{piece_of}
use Rattle.fl_lexer.specs.Lines.{Line, lines, class_of, text_from, trimmed_len, goes_on, body_of, next_class, continues}
use Rattle.fl_lexer.specs.Reading.{joint, after, first_place, leaves_open}

abbrev pub refusal : LinePlace → ℕ → LexError → Refusal
refusal p at error = record { at = p.start + at; error = error }

-- a byte that begins no token, a name that is too long, a number that is too great
abbrev pub bad_piece : LinePlace → ℕ → PieceKind → List Refusal
bad_piece p at BadByte = refusal p at (errors.BadByte p.line (at + 1)) ∷ []
bad_piece p at LongName = refusal p at (errors.LongName p.line) ∷ []
bad_piece p at WideLiteral = refusal p at (errors.WideLiteral p.line) ∷ []
bad_piece p at _ = []

-- those among the pieces of bytes that stand in the line from a byte on
unfoldable pub bad_pieces : LinePlace → ℕ → ℕ → List ℕ → List Refusal
bad_pieces p skipped at [] = []
bad_pieces p zero at (b ∷ bs) =
    let piece = piece_of (b ∷ bs) in
    bad_piece p at piece.kind ++ bad_pieces p (piece.len - 1) (at + 1) bs
bad_pieces p (suc n) at (b ∷ bs) = bad_pieces p n (at + 1) bs

-- a `&` that ends a line which no line of its kind continues
unfoldable pub bad_end : LinePlace → LineClass → ℕ → Line → List Line → List Refusal
bad_end p class from l ls =
    let text = text_from from l.bytes in
    if goes_on text
    then (if continues class (next_class ls) then [] else refusal p (from + (trimmed_len text - 1)) (errors.OpenContinuation p.line) ∷ [])
    else []

unfoldable pub bad_text : LinePlace → LineClass → ℕ → ℕ → Line → List Line → List Refusal
bad_text p class from skipped l ls = bad_pieces p skipped from (body_of (text_from from l.bytes)) ++ bad_end p class from l ls

unfoldable pub bad_class : LinePlace → Bool → LineClass → Line → List Line → List Refusal
bad_class p continued Empty l ls = []
bad_class p continued Conditional l ls = let at = prefix_len is_blank l.bytes in refusal p at (errors.BadByte p.line (at + 1)) ∷ []
bad_class p continued Statement l ls =
    let from = prefix_len is_blank l.bytes in
    bad_text p Statement from (joint continued from l) l ls
bad_class p continued Directive l ls = bad_text p Directive (prefix_len is_blank l.bytes + 5) 0 l ls

-- the byte behind a line's limit
unfoldable pub too_long : LinePlace → Line → List Refusal
too_long p l = if nat_lt 1024 (length l.bytes) then refusal p 1024 (errors.LongLine p.line) ∷ [] else []

unfoldable pub bad_lines : LinePlace → Bool → List Line → List Refusal
bad_lines p continued [] = []
bad_lines p continued (l ∷ ls) =
    (bad_class p continued (class_of l.bytes) l ls ++ too_long p l) ++ bad_lines (after p l) (leaves_open continued (class_of l.bytes) l.bytes) ls

-- all that is refused in a text
abbrev pub refusals : List ℕ → List Refusal
refusals text = bad_lines first_place false (lines text)

abbrev pub Every : (Refusal → Type 0) → List Refusal → Type 0
Every P [] = Unit {0}
Every P (r ∷ rs) = P r × Every P rs

abbrev pub Among : Refusal → List Refusal → Type 0
Among r [] = ⊥
Among r (q ∷ rs) = (r ≡ q) ⊎ Among r rs

abbrev pub IsLongLine : LexError → Type 0
IsLongLine (LongLine n) = Unit {0}
IsLongLine _ = ⊥

-- one stands before another, or at the same byte, where a long line decides
abbrev pub Decides : Refusal → Refusal → Type 0
Decides r q = (r.at < q.at) ⊎ ((r.at ≡ q.at) × ((r ≡ q) ⊎ IsLongLine r.error))

-- the error is that of the first place among those refused
abbrev pub IsFirst : List Refusal → LexError → Type 0
IsFirst rs e = (r : Refusal) × Among r rs × Every (Decides r) rs × (r.error ≡ e)
