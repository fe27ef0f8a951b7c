-- How rows are laid out in lines. A line of more than 120 bytes is broken before the first token, other than its first, that
-- would end past byte 118: a blank before that token is dropped, the line then ends with ` &`, and the next one begins with
-- the row's margin and four blanks, or in a directive with the margin and the sentinel. A sentinel is a first token
-- where the directive begins.
use Rattle.std.specs.Prelude.{ℕ, ◌+◌, Bool, true, false, ◌&&◌, nat_lt, if◌then◌else◌, List, [], ◌∷◌, ◌++◌, length, replicate, codes}
use Rattle.fl_lexer.specs.declared.piece.PieceKind.TheVariants.{Blank}
use Rattle.fl_lexer.specs.Pieces.{piece_of}
use Rattle.fl_lexer.specs.Spelling.{Spelt, spelt, text_of}
use Rattle.fl_lexer.specs.Printing.{Printed, opening, joint_of, printed}
use Rattle.fl_printer.specs.declared.spaced.Spaced.{Spaced}
use Rattle.fl_printer.specs.Rows.{Row}

-- ---- tokens in a line

abbrev pub blank : Spelt
blank = spelt Blank (32 ∷ [])

abbrev pub blank_if : Bool → List Spelt
blank_if before = if before then blank ∷ [] else []

-- a token, of the kind that these bytes have
abbrev pub token : List ℕ → Spelt
token bytes = spelt (piece_of bytes).kind bytes

-- how many bytes it takes, with the blank before it
abbrev pub width : Spaced → ℕ
width w = (if w.blank then 1 else 0) + length w.text

abbrev pub width_of_all : List Spaced → ℕ
width_of_all [] = 0
width_of_all (w ∷ ws) = width w + width_of_all ws

-- ---- lines

-- the rest of a line, and the lines behind it
pub record Laid : Type 0 where
  pub words : List Spelt
  pub goes_on : Bool
  pub behind : List Printed

abbrev pub at_end : Laid
at_end = record { words = []; goes_on = false; behind = [] }

-- with a token before it
abbrev pub with_token : Spaced → Laid → Laid
with_token w l = record { words = blank_if w.blank ++ token w.text ∷ l.words; goes_on = l.goes_on; behind = l.behind }

-- whether so many bytes are too many for a line
abbrev pub is_long : ℕ → Bool
is_long bytes = nat_lt 120 bytes

-- whether a token that ends there leaves no room for ` &`
abbrev pub is_past : ℕ → Bool
is_past bytes = nat_lt 118 bytes

module _ (margin : ℕ) (directive : Bool) where
  -- where the first token of a later line begins
  abbrev pub start : ℕ
  start = margin + (if directive then 6 else 4)

  abbrev pub indent : ℕ
  indent = margin + (if directive then 0 else 4)

  -- a later line that begins with a token
  abbrev pub later_line : List ℕ → Laid → Printed
  later_line text l = record { indent = indent; directive = directive; words = blank_if directive ++ token text ∷ l.words; goes_on = l.goes_on }

  -- the token stands on a later line
  abbrev pub broken : List ℕ → Laid → Laid
  broken text l = record { words = blank ∷ []; goes_on = true; behind = later_line text l ∷ l.behind }

  -- tokens behind those of a line that has so many bytes, where the line is too long with all of them or isn't
  abbrev pub laid : Bool → ℕ → List Spaced → Laid
  laid long at [] = at_end
  laid long at (w ∷ ws) =
      if long && is_past (at + width w)
      then broken w.text (laid (is_long (start + length w.text + width_of_all ws)) (start + length w.text) ws)
      else with_token w (laid long (at + width w) ws)

abbrev pub first_line : ℕ → Bool → Laid → List Printed
first_line margin directive l = record { indent = margin; directive = directive; words = l.words; goes_on = l.goes_on } ∷ l.behind

-- tokens behind a line's first token
abbrev pub laid_behind : ℕ → Bool → ℕ → List Spaced → Laid
laid_behind margin directive at ws = laid margin directive (is_long (at + width_of_all ws)) at ws

-- a row begins with its first token, or with the five bytes of the sentinel
abbrev pub lines_by : Bool → ℕ → List Spaced → List Printed
lines_by true margin ws = first_line margin true (laid_behind margin true (margin + 5) ws)
lines_by false margin [] = first_line margin false at_end
lines_by false margin (w ∷ ws) = first_line margin false (with_token w (laid_behind margin false (margin + width w) ws))

abbrev pub row_lines : Row → List Printed
row_lines r = lines_by r.directive r.margin r.words

abbrev pub lines_of : List Row → List Printed
lines_of [] = []
lines_of (r ∷ rs) = row_lines r ++ lines_of rs

unfoldable pub rows_text : List Row → List ℕ
rows_text rows = printed (lines_of rows)

-- ---- bytes of parts

abbrev pub blank_bytes : Bool → List ℕ
blank_bytes before = if before then 32 ∷ [] else []

-- the rest of a line, its end and the lines behind it
abbrev pub laid_text : Laid → List ℕ
laid_text l = text_of l.words ++ (joint_of l.goes_on ++ 10 ∷ printed l.behind)

-- the end of a line that goes on, and what stands before the first token of the next one
abbrev pub break_text : ℕ → Bool → List ℕ
break_text margin directive = codes " &\n" ++ (replicate (indent margin directive) 32 ++ (opening directive ++ blank_bytes directive))

-- a statement's first token and those behind it
abbrev pub begun_text : ℕ → Spaced → List Spaced → List ℕ
begun_text margin w ws = blank_bytes w.blank ++ (w.text ++ laid_text (laid_behind margin false (margin + width w) ws))
