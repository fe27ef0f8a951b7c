-- The lines of a text, what each line is, and where its text goes on.
use Rattle.std.specs.Prelude.{ℕ, ◌+◌, ◌-◌, Bool, true, false, ◌&&◌, ◌==◌, nat_lt, if◌then◌else◌, List, [], ◌∷◌, length, take, drop, slice_index}
use Rattle.std.specs.List.{prefix_len, suffix_len, before_first}
use Rattle.fl_lexer.specs.declared.line.LineClass.{LineClass}
use Rattle.fl_lexer.specs.declared.line.LineClass.TheVariants.{Empty, Conditional, Statement, Directive}
use Rattle.fl_lexer.specs.declared.line.Ending.{Ending}
use Rattle.fl_lexer.specs.declared.line.Ending.TheVariants.{Missing, LineFeed, CrLf}
use Rattle.fl_lexer.specs.declared.line.Line as declared
use Rattle.fl_lexer.specs.Bytes.{is_blank, is_bang, is_line_feed, is_either}

-- a line without its end, and how it ends
pub record Line : Type 0 where
  pub bytes : List ℕ
  pub ending : Ending

abbrev pub line : List ℕ → Ending → Line
line bytes ending = record { bytes = bytes; ending = ending }

-- how many bytes end a line
abbrev pub ending_len : Ending → ℕ
ending_len Missing = 0
ending_len LineFeed = 1
ending_len CrLf = 2

-- a line with one more byte before it: a CR right before the line feed ends the line with it
abbrev pub longer : ℕ → List ℕ → Ending → Line
longer b [] LineFeed = if b == 13 then line [] CrLf else line (b ∷ []) LineFeed
longer b bytes ending = line (b ∷ bytes) ending

abbrev pub ahead : ℕ → List Line → List Line
ahead b [] = line (b ∷ []) Missing ∷ []
ahead b (l ∷ ls) = longer b l.bytes l.ending ∷ ls

-- the lines of a text
unfoldable pub lines : List ℕ → List Line
lines [] = []
lines (b ∷ bs) = if is_line_feed b then line [] LineFeed ∷ lines bs else ahead b (lines bs)

-- the line that these bytes and a line feed are
unfoldable pub with_feed : List ℕ → Line
with_feed [] = line [] LineFeed
with_feed (b ∷ bs) = longer b (with_feed bs).bytes (with_feed bs).ending

-- behind `!$`: a blank or tab, which begins a conditional line
abbrev pub is_conditional : List ℕ → Bool
is_conditional (a ∷ b ∷ bs) = (a == 36) && is_blank b
is_conditional _ = false

-- a blank, a tab or the end of the line
abbrev pub ends_word : List ℕ → Bool
ends_word [] = true
ends_word (b ∷ bs) = is_blank b

-- behind `!`: `$omp` in any case, alone
abbrev pub is_sentinel : List ℕ → Bool
is_sentinel (a ∷ b ∷ c ∷ d ∷ bs) = (a == 36) && is_either b 111 && is_either c 109 && is_either d 112 && ends_word bs
is_sentinel _ = false

-- what a line is whose first text is `!`, by what stands behind it
abbrev pub class_of_bang : List ℕ → LineClass
class_of_bang bs = if is_sentinel bs then Directive else (if is_conditional bs then Conditional else Empty)

-- what a line is, by its first text
abbrev pub class_of_text : List ℕ → LineClass
class_of_text [] = Empty
class_of_text (b ∷ bs) = if is_bang b then class_of_bang bs else Statement

unfoldable pub class_of : List ℕ → LineClass
class_of bytes = class_of_text (drop (prefix_len is_blank bytes) bytes)

-- where the text of a line begins, its sentinel aside
abbrev pub sentinel_len : LineClass → ℕ
sentinel_len Directive = 5
sentinel_len _ = 0

abbrev pub text_start : LineClass → List ℕ → ℕ
text_start class bytes = prefix_len is_blank bytes + sentinel_len class

-- the text from there on, up to a comment
abbrev pub text_from : ℕ → List ℕ → List ℕ
text_from from bytes = before_first is_bang (drop from bytes)

-- the length of a text without the blanks behind it
abbrev pub trimmed_len : List ℕ → ℕ
trimmed_len text = length text - suffix_len is_blank text

-- whether the last text is `&`
unfoldable pub goes_on : List ℕ → Bool
goes_on text = nat_lt 0 (trimmed_len text) && (slice_index text (trimmed_len text - 1) == 38)

-- the text without that `&`
unfoldable pub body_of : List ℕ → List ℕ
body_of text = if goes_on text then take (trimmed_len text - 1) text else text

-- what the next line is that has text
abbrev pub or_else : LineClass → LineClass → LineClass
or_else Empty class = class
or_else class _ = class

unfoldable pub next_class : List Line → LineClass
next_class [] = Empty
next_class (l ∷ ls) = or_else (class_of l.bytes) (next_class ls)

-- whether a line of the second class may continue one of the first
abbrev pub continues : LineClass → LineClass → Bool
continues Directive Directive = true
continues Statement Statement = true
continues Statement Conditional = true
continues _ _ = false

-- a line of the code
abbrev pub view : declared.Line → Line
view l = line l.bytes.now l.ending
