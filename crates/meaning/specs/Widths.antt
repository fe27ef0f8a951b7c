-- What is left of a word at a width.
use Rattle.std.specs.Prelude.{◌≡◌, ℕ, ◌%◌, ◌<◌, ◌^◌, [], ◌∷◌, Option, Some, None, Result, Ok, Err}
use Rattle.ring_core.specs.declared.ring.Width.{Width}
use Rattle.ring_core.specs.Ring.{modulus}
use Rattle.ring_core.specs.declared.ring.Width.TheVariants.{Bits64}
use Rattle.fl_ast.specs.declared.kind.BinOp.{BinOp}
use Rattle.fl_ast.specs.declared.kind.RelOp.{RelOp}
use Rattle.meaning.specs.declared.value.Dual.{Dual}
use Rattle.meaning.specs.declared.value.Value.{Value}
use Rattle.meaning.specs.declared.value.Value.TheVariants.{Index, Ring}
use Rattle.meaning.specs.declared.value.TrapAt.{TrapAt}
use Rattle.fl_ast.specs.Tree.{Statements}
use Rattle.meaning.specs.Logs.{Event, begins, touches, pushes, ends, traps, Log, silence, single, touched, sets, both, within, events}
use Rattle.meaning.specs.Sites.{Cells, Site}
use Rattle.meaning.specs.Statements.{run_all}
use Rattle.meaning.specs.Stops.{Judge, Limits, first_stop, ticks}
use Rattle.meaning.specs.Values.{Found, binary_result, negation_result, power_result, larger_result, smaller_result, absolute_result, relates}

abbrev pub reduced_dual : Width → Dual → Dual
reduced_dual w d = record { value = d.value % modulus w; tangent = d.tangent % modulus w }

abbrev pub reduced_value : Width → Value → Value
reduced_value w (Index z) = Index z
reduced_value w (Ring d) = Ring (reduced_dual w d)

abbrev pub reduced_found : Width → Found → Found
reduced_found w (Ok v) = Ok (reduced_value w v)
reduced_found w (Err c) = Err c

abbrev pub reduced_cell : Width → Option Value → Option Value
reduced_cell w None = None
reduced_cell w (Some v) = Some (reduced_value w v)

abbrev pub reduced_cells : Width → Cells → Cells
reduced_cells w [] = []
reduced_cells w (c ∷ cs) = reduced_cell w c ∷ reduced_cells w cs

abbrev pub reduced_out : Width → Result Cells TrapAt → Result Cells TrapAt
reduced_out w (Ok cells) = Ok (reduced_cells w cells)
reduced_out w (Err t) = Err t

-- what an operation on data at a width gives depends on what is left of its operands alone
pub record OperationsRespect (w : Width) : Type 0 where
  pub binary : (op : BinOp) (a b c d : Value) → reduced_value w a ≡ reduced_value w b → reduced_value w c ≡ reduced_value w d → reduced_found w (binary_result op a c) ≡ reduced_found w (binary_result op b d)
  pub negation : (a b : Value) → reduced_value w a ≡ reduced_value w b → reduced_found w (negation_result a) ≡ reduced_found w (negation_result b)
  pub power : (a b : Value) (n : ℕ) → reduced_value w a ≡ reduced_value w b → reduced_found w (power_result a n) ≡ reduced_found w (power_result b n)
  pub relation : (op : RelOp) (a b c d : Value) → reduced_value w a ≡ reduced_value w b → reduced_value w c ≡ reduced_value w d → relates w op a c ≡ relates w op b d
  pub larger_value : (a b c d : Value) → reduced_value w a ≡ reduced_value w b → reduced_value w c ≡ reduced_value w d → reduced_found w (larger_result w a c) ≡ reduced_found w (larger_result w b d)
  pub smaller_value : (a b c d : Value) → reduced_value w a ≡ reduced_value w b → reduced_value w c ≡ reduced_value w d → reduced_found w (smaller_result w a c) ≡ reduced_found w (smaller_result w b d)
  pub absolute_value : (a b : Value) → reduced_value w a ≡ reduced_value w b → reduced_found w (absolute_result w a) ≡ reduced_found w (absolute_result w b)

abbrev pub WidthsAreRespected : Type 0
WidthsAreRespected = (w : Width) → OperationsRespect w

-- a word is below 2^64
abbrev pub IsWordCell : Option Value → Type 0
IsWordCell None = Unit {0}
IsWordCell (Some (Index z)) = Unit {0}
IsWordCell (Some (Ring d)) = (d.value < 2 ^ 64) × (d.tangent < 2 ^ 64)

abbrev pub AreWordCells : Cells → Type 0
AreWordCells [] = Unit {0}
AreWordCells (c ∷ cs) = IsWordCell c × AreWordCells cs

-- with 64 bits nothing is lost
abbrev pub WordsAreResidues : Type 0
WordsAreResidues = (cells : Cells) → AreWordCells cells → reduced_cells Bits64 cells ≡ cells

-- ---- whole runs

abbrev pub reduced_event : Width → Event → Event
reduced_event w begins = begins
reduced_event w (touches t) = touches t
reduced_event w (pushes v) = pushes (reduced_cell w v)
reduced_event w (ends line) = ends line
reduced_event w (traps t) = traps t

abbrev pub reduced_log : Width → Log → Log
reduced_log w silence = silence
reduced_log w (single e) = single (reduced_event w e)
reduced_log w (touched p kind) = touched p kind
reduced_log w (sets p v) = sets p (reduced_cell w v)
reduced_log w (both a b) = both (reduced_log w a) (reduced_log w b)
reduced_log w (within p a) = within p (reduced_log w a)

-- from cells that are equal modulo the width, runs have logs that are, and end with cells that are or with the same trap
abbrev pub RunsRespect : Width → Type 0
RunsRespect w =
    (body : Statements) (site : Site) → site.width ≡ w → (c d : Cells) → reduced_cells w c ≡ reduced_cells w d →
    (reduced_log w (run_all body site c).log ≡ reduced_log w (run_all body site d).log) × (reduced_out w (run_all body site c).out ≡ reduced_out w (run_all body site d).out)

abbrev pub RunsRespectWidths : Type 0
RunsRespectWidths = (w : Width) → RunsRespect w

-- and so they have the same first stop and the same ticks, whatever is judged a conflict and whatever the limits are
abbrev pub StopsRespectWidths : Type 0
StopsRespectWidths =
    (w : Width) (body : Statements) (site : Site) → site.width ≡ w → (c d : Cells) → reduced_cells w c ≡ reduced_cells w d → (judge : Judge) (limits : Limits) →
    (first_stop judge limits (events (run_all body site c).log) ≡ first_stop judge limits (events (run_all body site d).log))
    × (ticks judge limits (events (run_all body site c).log) ≡ ticks judge limits (events (run_all body site d).log))
