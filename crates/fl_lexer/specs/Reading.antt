-- The tokens of a text, or what is refused in it.
use Rattle.std.specs.Prelude.{◌≡◌, ℕ, zero, suc, ◌+◌, ◌-◌, Bool, false, ◌&&◌, ◌==◌, nat_lt, if◌then◌else◌, List, [], ◌∷◌, ◌++◌, length, drop, Result, Ok, Err}
use Rattle.std.specs.List.{prefix_len}
use Rattle.std.specs.declared.alloc.Global.{Global}
use Rattle.std.specs.declared.vec.Vec.{Vec}
use Rattle.tokens.specs.declared.Token.{Token}
use Rattle.tokens.specs.declared.TokenKind.{TokenKind}
use Rattle.tokens.specs.declared.TokenKind.TheVariants.{Sentinel, LineEnd}
use Rattle.fl_lexer.specs.declared.error.LexError.{LexError}
use Rattle.fl_lexer.specs.declared.error.LexError.TheVariants as errors
use Rattle.fl_lexer.specs.declared.error.Refusal.{Refusal}
use Rattle.fl_lexer.specs.declared.error.Halt.{Halt}
use Rattle.fl_lexer.specs.declared.error.Halt.TheVariants.{Memory, Refused}
use Rattle.fl_lexer.specs.declared.piece.PieceKind.{PieceKind}
use Rattle.fl_lexer.specs.declared.piece.PieceKind.TheVariants.{Blank, Lexical, BadByte, LongName, WideLiteral}
use Rattle.fl_lexer.specs.declared.line.LineClass.{LineClass}
use Rattle.fl_lexer.specs.declared.line.LineClass.TheVariants.{Empty, Conditional, Statement, Directive}
use Rattle.fl_lexer.specs.declared.line.LinePlace.{LinePlace}
use Rattle.fl_lexer.specs.Bytes.{is_blank, begins}
use Rattle.fl_lexer.specs.Pieces.{piece_of}
use Rattle.fl_lexer.specs.Lines.{Line, lines, ending_len, class_of, text_start, text_from, trimmed_len, goes_on, body_of, next_class, continues}

abbrev pub Tokens : Type 0
Tokens = List Token

-- the tokens so far, or the first refusal
abbrev pub Reading : Type 0
Reading = Result Tokens Refusal

infixl 10 ◌>>=◌
abbrev pub ◌>>=◌ : Reading → (Tokens → Reading) → Reading
(Ok ts) >>= f = f ts
(Err e) >>= f = Err e

-- what is refused at a byte of the line
abbrev pub refused : LinePlace → ℕ → LexError → Reading
refused p at error = Err (record { at = p.start + at; error = error })

abbrev pub bad_byte : LinePlace → ℕ → Reading
bad_byte p at = refused p at (errors.BadByte p.line (at + 1))

-- a token of so many bytes at a byte of the line
abbrev pub token : LinePlace → ℕ → ℕ → TokenKind → Token
token p at n kind = record { line = p.line; col = at + 1; start = p.start + at; end = p.start + at + n; kind = kind }

-- the tokens behind those so far and a piece
abbrev pub with_piece : LinePlace → ℕ → Tokens → ℕ → PieceKind → Reading
with_piece p at ts n Blank = Ok ts
with_piece p at ts n (Lexical kind) = Ok (ts ++ token p at n kind ∷ [])
with_piece p at ts n BadByte = bad_byte p at
with_piece p at ts n LongName = refused p at (errors.LongName p.line)
with_piece p at ts n WideLiteral = refused p at (errors.WideLiteral p.line)

-- The pieces of bytes that stand in the line from a byte on: one begins where the one before it ends. The
-- first bytes, as many as are skipped, are another's.
unfoldable pub pieces : LinePlace → ℕ → ℕ → List ℕ → Tokens → Reading
pieces p skipped at [] ts = Ok ts
pieces p zero at (b ∷ bs) ts =
    let piece = piece_of (b ∷ bs) in
    with_piece p at ts piece.len piece.kind >>= pieces p (piece.len - 1) (at + 1) bs
pieces p (suc n) at (b ∷ bs) ts = pieces p n (at + 1) bs ts

-- the end of a line
abbrev pub line_end : LinePlace → Line → Token
line_end p l = token p (length l.bytes) (ending_len l.ending) LineEnd

-- behind a line's text: nothing where it goes on and may, and else the line's end
unfoldable pub ended : LinePlace → LineClass → ℕ → Line → List Line → Tokens → Reading
ended p class from l ls ts =
    let text = text_from from l.bytes in
    if goes_on text
    then (if continues class (next_class ls) then Ok ts else refused p (from + (trimmed_len text - 1)) (errors.OpenContinuation p.line))
    else Ok (ts ++ line_end p l ∷ [])

-- a line's text from a byte on, of which some bytes are skipped, and what is behind it
unfoldable pub text : LinePlace → LineClass → ℕ → ℕ → Line → List Line → Tokens → Reading
text p class from skipped l ls ts =
    pieces p skipped from (body_of (text_from from l.bytes)) ts >>= ended p class from l ls

-- how many bytes of the first text of a continuing line don't count: its `&`
abbrev pub joint : Bool → ℕ → Line → ℕ
joint continued from l = if continued && begins (λ b. b == 38) (drop from l.bytes) then 1 else 0

-- a directive's line; its sentinel is a token but where a directive goes on
unfoldable pub directive : LinePlace → Bool → ℕ → Line → List Line → Tokens → Reading
directive p continued from l ls ts = text p Directive (from + 5) 0 l ls (if continued then ts else ts ++ token p from 5 Sentinel ∷ [])

-- a line of its class
unfoldable pub of_class : LinePlace → Bool → LineClass → Line → List Line → Tokens → Reading
of_class p continued Empty l ls ts = Ok ts
of_class p continued Conditional l ls ts = bad_byte p (prefix_len is_blank l.bytes)
of_class p continued Statement l ls ts =
    let from = prefix_len is_blank l.bytes in
    text p Statement from (joint continued from l) l ls ts
of_class p continued Directive l ls ts = directive p continued (prefix_len is_blank l.bytes) l ls ts

-- the limit on a line's bytes: one more is refused where nothing before it is
abbrev pub sooner : LinePlace → Reading → Reading
sooner p (Ok ts) = refused p 1024 (errors.LongLine p.line)
sooner p (Err e) = if nat_lt e.at (p.start + 1024) then Err e else refused p 1024 (errors.LongLine p.line)

unfoldable pub within_limit : LinePlace → Line → Reading → Reading
within_limit p l reading = if nat_lt 1024 (length l.bytes) then sooner p reading else reading

unfoldable pub one_line : LinePlace → Bool → Line → List Line → Tokens → Reading
one_line p continued l ls ts = within_limit p l (of_class p continued (class_of l.bytes) l ls ts)

-- whether what follows the line continues it
abbrev pub leaves_open : Bool → LineClass → List ℕ → Bool
leaves_open continued Empty bytes = continued
leaves_open continued Conditional bytes = false
leaves_open continued class bytes = goes_on (text_from (text_start class bytes) bytes)

abbrev pub after : LinePlace → Line → LinePlace
after p l = record { line = p.line + 1; start = p.start + length l.bytes + ending_len l.ending }

unfoldable pub all_lines : LinePlace → Bool → List Line → Tokens → Reading
all_lines p continued [] ts = Ok ts
all_lines p continued (l ∷ ls) ts = one_line p continued l ls ts >>= all_lines (after p l) (leaves_open continued (class_of l.bytes) l.bytes) ls

abbrev pub first_place : LinePlace
first_place = record { line = 1; start = 0 }

abbrev pub told : Reading → Result Tokens LexError
told (Ok ts) = Ok ts
told (Err e) = Err e.error

-- the tokens that a text spells, or the first refusal
unfoldable pub lexed : List ℕ → Result Tokens LexError
lexed bytes = told (all_lines first_place false (lines bytes) [])

-- what a call that reads promises: the tokens behind those before it, or the refusal, unless memory is wanting
abbrev pub Fails : Reading → Halt → Type 0
Fails reading Memory = Unit {0}
Fails reading (Refused e) = reading ≡ Err e

abbrev pub Reads : {A : Type 0} → Reading → Result A Halt → Tokens → Type 0
Reads reading (Ok x) new = reading ≡ Ok new
Reads reading (Err h) new = Fails reading h

abbrev pub Gives : Reading → Result (Vec Token Global) Halt → Type 0
Gives reading (Ok v) = reading ≡ Ok v.items
Gives reading (Err h) = Fails reading h
