-- Which certificate a text is.
use Rattle.std.specs.Prelude.{◌≡◌, ℕ, suc, ◌==◌, if◌then◌else◌, ℤ, List, [], ◌∷◌, ◌++◌, map, codes, bytes_eq, option_map, option_and_then, Option, Some, None, Result, Ok, Err}
use Rattle.std.specs.Borrow.{Bor}
use Rattle.std.specs.List.{slice_split}
use Rattle.certificate.specs.declared.derivation.Multiple.{Multiple}
use Rattle.certificate.specs.declared.derivation.Line.{Line}
use Rattle.certificate.specs.declared.derivation.Line.TheVariants.{Hyp, Comb, Cong}
use Rattle.certificate.specs.declared.derivation.Close.{Close}
use Rattle.certificate.specs.declared.derivation.Close.TheVariants.{Distinct, Residue, Range, Fact}
use Rattle.certificate.specs.declared.derivation.Heading.{Heading}
use Rattle.certificate.specs.declared.derivation.Derivation.{Derivation}
use Rattle.certificate.specs.declared.derivation.Given.{Given}
use Rattle.certificate.specs.declared.error.CertError.{CertError}
use Rattle.certificate.specs.declared.error.CertError.TheVariants.{Syntax, Memory}
use Rattle.certificate.specs.declared.stage.Stage.{Stage}
use Rattle.certificate.specs.declared.stage.Stage.TheVariants.{Opening, Between, Inside, Closed}
use Rattle.certificate.specs.Numbers.{number_in, multiplier_in}

-- what stands before, between and behind the line feeds
abbrev pub lines_of : List ℕ → List (List ℕ)
lines_of bytes = slice_split (λ b. b == 10) bytes

-- the same with blanks
abbrev pub words_of : List ℕ → List (List ℕ)
words_of line = slice_split (λ b. b == 32) line

abbrev pub texts : List (Bor (List ℕ)) → List (List ℕ)
texts words = map (λ word. word.now) words

-- ---- lists of numbers

abbrev pub and_item : {A : Type 0} → Option A → Option (List A) → Option (List A)
and_item None o = None
and_item (Some x) None = None
and_item (Some x) (Some xs) = Some (x ∷ xs)

abbrev pub numbers_in : List (List ℕ) → Option (List ℕ)
numbers_in [] = Some []
numbers_in (w ∷ ws) = and_item (number_in w) (numbers_in ws)

abbrev pub multiple_by : Option ℤ → Option ℕ → Option Multiple
multiple_by None o = None
multiple_by (Some m) None = None
multiple_by (Some m) (Some l) = Some (record { multiplier = m; line = l })

abbrev pub multiple_in : List ℕ → List ℕ → Option Multiple
multiple_in m l = multiple_by (multiplier_in m) (number_in l)

abbrev pub multiples_in : List (List ℕ) → Option (List Multiple)
multiples_in [] = Some []
multiples_in (m ∷ []) = None
multiples_in (m ∷ l ∷ ws) = and_item (multiple_in m l) (multiples_in ws)

-- ---- lines

abbrev pub hyp_of : List ℕ → Option Line
hyp_of [] = None
hyp_of (d ∷ []) = Some (Hyp d)
hyp_of (d ∷ e ∷ ns) = None

abbrev pub cong_of : List ℕ → Option Line
cong_of [] = None
cong_of (a ∷ []) = None
cong_of (a ∷ b ∷ ls) = Some (Cong a b ls)

abbrev pub line_of : List ℕ → List ℕ → Option Line
line_of word ns = if bytes_eq word (codes "hyp") then hyp_of ns else (if bytes_eq word (codes "cong") then cong_of ns else None)

abbrev pub line_by : List ℕ → List (List ℕ) → Option Line
line_by word ws = if bytes_eq word (codes "comb") then option_map Comb (multiples_in ws) else option_and_then (line_of word) (numbers_in ws)

unfoldable pub line_in : List (List ℕ) → Option Line
line_in [] = None
line_in (word ∷ ws) = line_by word ws

abbrev pub distinct_of : List ℕ → Option Close
distinct_of [] = None
distinct_of (l ∷ []) = Some (Distinct l None)
distinct_of (l ∷ m ∷ []) = Some (Distinct l (Some m))
distinct_of (l ∷ m ∷ n ∷ ns) = None

abbrev pub one_of : (ℕ → Close) → List ℕ → Option Close
one_of close [] = None
one_of close (l ∷ []) = Some (close l)
one_of close (l ∷ m ∷ ns) = None

abbrev pub fact_of : List ℕ → Option Close
fact_of [] = None
fact_of (n ∷ ls) = Some (Fact n ls)

abbrev pub close_of : List ℕ → List ℕ → Option Close
close_of kind ns =
    if bytes_eq kind (codes "distinct") then distinct_of ns
    else (if bytes_eq kind (codes "residue") then one_of Residue ns
    else (if bytes_eq kind (codes "range") then one_of Range ns
    else (if bytes_eq kind (codes "fact") then fact_of ns else None)))

unfoldable pub close_in : List (List ℕ) → Option Close
close_in [] = None
close_in (word ∷ []) = None
close_in (word ∷ kind ∷ ws) = if bytes_eq word (codes "close") then option_and_then (close_of kind) (numbers_in ws) else None

abbrev pub heading_of : ℕ → List ℕ → Option Heading
heading_of n [] = None
heading_of n (l ∷ []) = None
heading_of n (l ∷ f ∷ []) = None
heading_of n (l ∷ f ∷ g ∷ []) = Some (record { line = n; loop_number = l; first = f; second = g })
heading_of n (l ∷ f ∷ g ∷ h ∷ ns) = None

-- n being the line's number
unfoldable pub heading_in : ℕ → List (List ℕ) → Option Heading
heading_in n [] = None
heading_in n (word ∷ ws) = if bytes_eq word (codes "pair") then option_and_then (heading_of n) (numbers_in ws) else None

-- ---- the order of lines

-- a stage, and the derivations that are whole
abbrev pub Reached : Type 0
Reached = Stage × List Given

abbrev pub with_done : List Given → Option Stage → Option Reached
with_done done None = None
with_done done (Some stage) = Some (stage, done)

abbrev pub between_if : List ℕ → List ℕ → Option Stage
between_if line text = if bytes_eq line text then Some Between else None

abbrev pub begun : Option Heading → Option Stage
begun None = None
begun (Some h) = Some (Inside h [])

abbrev pub closed_by : Heading → List Line → Option Close → Option Stage
closed_by h ls None = None
closed_by h ls (Some c) = Some (Closed h (record { lines = ls; close = c }))

abbrev pub inside_by : Heading → List Line → Option Line → Option Close → Option Stage
inside_by h ls None o = closed_by h ls o
inside_by h ls (Some l) o = Some (Inside h (ls ++ l ∷ []))

abbrev pub given : Heading → Derivation → Given
given h d = record { heading = h; derivation = d }

-- what a line leads to, n being its number
abbrev pub stepped : ℕ → List ℕ → Stage → List Given → Option Reached
stepped n line Opening done = with_done done (between_if line (codes "formad 1"))
stepped n line Between done = with_done done (begun (heading_in n (words_of line)))
stepped n line (Inside h ls) done = with_done done (inside_by h ls (line_in (words_of line)) (close_in (words_of line)))
stepped n line (Closed h d) done = with_done (done ++ given h d ∷ []) (between_if line (codes "end"))

-- nothing stands behind the last line feed, and no derivation is open
abbrev pub ended : ℕ → List ℕ → Stage → List Given → Result (List Given) ℕ
ended n [] Between done = Ok done
ended n [] Opening done = Err n
ended n [] (Inside h ls) done = Err n
ended n [] (Closed h d) done = Err n
ended n (b ∷ bs) stage done = Err n

abbrev pub after_line : ℕ → Option Reached → (Stage → List Given → Result (List Given) ℕ) → Result (List Given) ℕ
after_line n None rest = Err n
after_line n (Some r) rest = rest r.0 r.1

-- the derivations of these lines, or the number of the first one with which no certificate goes on, n being that of the first of all
abbrev pub read_from : ℕ → List (List ℕ) → Stage → List Given → Result (List Given) ℕ
read_from n [] stage done = Err n
read_from n (last ∷ []) stage done = ended n last stage done
read_from n (line ∷ next ∷ lines) stage done = after_line n (stepped n line stage done) (read_from (suc n) (next ∷ lines))

unfoldable pub cert_in : List ℕ → Result (List Given) ℕ
cert_in bytes = read_from 1 (lines_of bytes) Opening []

-- a reader answers that, or memory is wanting
abbrev pub Reads : Result (List Given) ℕ → Result (List Given) CertError → Type 0
Reads found (Ok list) = found ≡ Ok list
Reads found (Err (Syntax n)) = found ≡ Err n
Reads found (Err Memory) = Unit {0}
