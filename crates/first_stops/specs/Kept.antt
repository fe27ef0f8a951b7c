-- A run that keeps its first stop.
use Rattle.std.specs.Prelude.{◌≡◌, ℕ, ◌+◌, List, [], ◌∷◌, ◌++◌, Result, Ok, Err, slice_set}
use Rattle.meaning.specs.Logs.{Log, Note, tells, stores, notes, events}
use Rattle.meaning.specs.Sites.{Cells}
use Rattle.meaning.specs.Stops.{Limits, Stop, at_end, Seen, nothing_seen, Judge, seen_with, first_stop, tick_of, ticks, cells_at_stop}

-- what was seen so far, or the first stop; the ticks; the cells
pub record Kept : Type 0 where
  pub seen : Result Seen Stop
  pub ticks : ℕ
  pub cells : Cells

abbrev pub begun : Cells → Kept
begun cells = record { seen = Ok nothing_seen; ticks = 0; cells = cells }

abbrev pub taken : Judge → Limits → Note → ℕ → Cells → Result Seen Stop → Kept
taken judge limits (tells e) n cells (Ok s) = record { seen = seen_with judge limits s e; ticks = n + tick_of e; cells = cells }
taken judge limits (stores p v) n cells (Ok s) = record { seen = Ok s; ticks = n; cells = slice_set cells p v }
taken judge limits note n cells (Err x) = record { seen = Err x; ticks = n; cells = cells }

-- after one thing more that is told: nothing after a stop
abbrev pub with_note : Judge → Limits → Kept → Note → Kept
with_note judge limits k note = taken judge limits note k.ticks k.cells k.seen

abbrev pub after_notes : Judge → Limits → Kept → List Note → Kept
after_notes judge limits k [] = k
after_notes judge limits k (n ∷ ns) = after_notes judge limits (with_note judge limits k n) ns

abbrev pub stop_of : Result Seen Stop → Stop
stop_of (Ok s) = at_end
stop_of (Err x) = x

-- what a run keeps is the first stop among a log's events, the ticks up to there, and the cells there
pub record KeepsFirstStop (judge : Judge) (limits : Limits) (log : Log) (cells : Cells) (k : Kept) : Type 0 where
  pub stop : stop_of k.seen ≡ first_stop judge limits (events log)
  pub all_ticks : k.ticks ≡ ticks judge limits (events log)
  pub all_cells : k.cells ≡ cells_at_stop judge limits log cells

abbrev pub RunsKeepTheirFirstStop : Type 0
RunsKeepTheirFirstStop =
    (judge : Judge) (limits : Limits) (log : Log) (cells : Cells) → KeepsFirstStop judge limits log cells (after_notes judge limits (begun cells) (notes log))

abbrev pub NotesAreKeptInParts : Type 0
NotesAreKeptInParts =
    (judge : Judge) (limits : Limits) (k : Kept) (ms ns : List Note) → after_notes judge limits k (ms ++ ns) ≡ after_notes judge limits (after_notes judge limits k ms) ns
