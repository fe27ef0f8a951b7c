-- Where a run stops first.
use Rattle.std.specs.Prelude.{ℕ, ◌+◌, if◌then◌else◌, nat_le, List, [], ◌∷◌, ◌++◌, Option, Some, None, Result, Ok, Err, slice_set}
use Rattle.meaning.specs.declared.value.TrapAt.{TrapAt}
use Rattle.meaning.specs.Logs.{Touch, Event, begins, touches, pushes, ends, traps, Log, Note, tells, stores, notes}
use Rattle.meaning.specs.Sites.{Cells}
use Rattle.meaning.specs.Conflicts.{Clash, conflict}

pub record Limits : Type 0 where
  pub statements : ℕ
  pub touches : ℕ
  pub words : ℕ

pub data Stop : Type 0 where
  at_end : Stop
  trapped : TrapAt → Stop
  over_statements : Stop
  over_touches : Stop
  over_words : Stop
  conflicted : (line : ℕ) → Clash → Stop

-- how many events there were of each kind, and the touches since the last end of a parallel loop
pub record Seen : Type 0 where
  pub statements : ℕ
  pub touches : ℕ
  pub words : ℕ
  pub since : List Touch

abbrev pub nothing_seen : Seen
nothing_seen = record { statements = 0; touches = 0; words = 0; since = [] }

-- what is said of a parallel loop's touches at its end, by its line
abbrev pub Judge : Type 0
Judge = ℕ → List Touch → Option Clash

-- the rule of this language
abbrev pub by_conflict : Judge
by_conflict line ts = conflict ts

abbrev pub the_limits : Limits
the_limits = record { statements = 16777216; touches = 16777216; words = 8388608 }

abbrev pub unless_conflict : ℕ → Seen → Option Clash → Result Seen Stop
unless_conflict line seen None = Ok seen
unless_conflict line seen (Some c) = Err (conflicted line c)

-- what was seen with one event more, or that it is a stop: a trap, past a limit, or the end of a parallel loop that is judged
abbrev pub seen_with : Judge → Limits → Seen → Event → Result Seen Stop
seen_with judge limits seen begins =
    if nat_le (seen.statements + 1) limits.statements then Ok (record seen { statements = seen.statements + 1 }) else Err over_statements
seen_with judge limits seen (touches t) =
    if nat_le (seen.touches + 1) limits.touches then Ok (record seen { touches = seen.touches + 1; since = seen.since ++ t ∷ [] }) else Err over_touches
seen_with judge limits seen (pushes v) =
    if nat_le (seen.words + 1) limits.words then Ok (record seen { words = seen.words + 1 }) else Err over_words
seen_with judge limits seen (ends line) = unless_conflict line (record seen { since = [] }) (judge line seen.since)
seen_with judge limits seen (traps t) = Err (trapped t)

abbrev pub stop_or : Result Seen Stop → (Seen → Stop) → Stop
stop_or (Ok seen) f = f seen
stop_or (Err s) f = s

-- the first event that is a stop
abbrev pub stop_after : Judge → Limits → Seen → List Event → Stop
stop_after judge limits seen [] = at_end
stop_after judge limits seen (e ∷ es) = stop_or (seen_with judge limits seen e) (λ s. stop_after judge limits s es)

abbrev pub first_stop : Judge → Limits → List Event → Stop
first_stop judge limits es = stop_after judge limits nothing_seen es

-- ---- ticks: one for each statement instance that begins up to the first stop, that one too where it is the stop

abbrev pub tick_of : Event → ℕ
tick_of begins = 1
tick_of (touches t) = 0
tick_of (pushes v) = 0
tick_of (ends line) = 0
tick_of (traps t) = 0

abbrev pub ticks_or : Result Seen Stop → (Seen → ℕ) → ℕ
ticks_or (Ok seen) f = f seen
ticks_or (Err s) f = 0

abbrev pub ticks_after : Judge → Limits → Seen → List Event → ℕ
ticks_after judge limits seen [] = 0
ticks_after judge limits seen (e ∷ es) = tick_of e + ticks_or (seen_with judge limits seen e) (λ s. ticks_after judge limits s es)

abbrev pub ticks : Judge → Limits → List Event → ℕ
ticks judge limits es = ticks_after judge limits nothing_seen es

-- ---- the cells at the first stop, of ring values without tangents

abbrev pub cells_or : Result Seen Stop → Cells → (Seen → Cells) → Cells
cells_or (Ok seen) cells f = f seen
cells_or (Err s) cells f = cells

abbrev pub cells_after : Judge → Limits → Seen → List Note → Cells → Cells
cells_after judge limits seen [] cells = cells
cells_after judge limits seen (tells e ∷ ns) cells = cells_or (seen_with judge limits seen e) cells (λ s. cells_after judge limits s ns cells)
cells_after judge limits seen (stores p v ∷ ns) cells = cells_after judge limits seen ns (slice_set cells p v)

abbrev pub cells_at_stop : Judge → Limits → Log → Cells → Cells
cells_at_stop judge limits log cells = cells_after judge limits nothing_seen (notes log) cells

-- the statement instances
abbrev pub statement_count : List Event → ℕ
statement_count [] = 0
statement_count (begins ∷ es) = 1 + statement_count es
statement_count (touches t ∷ es) = statement_count es
statement_count (pushes w ∷ es) = statement_count es
statement_count (ends line ∷ es) = statement_count es
statement_count (traps t ∷ es) = statement_count es

-- the events that a run sees which counts statements alone
abbrev pub statements_and_traps : List Event → List Event
statements_and_traps [] = []
statements_and_traps (begins ∷ es) = begins ∷ statements_and_traps es
statements_and_traps (touches t ∷ es) = statements_and_traps es
statements_and_traps (pushes w ∷ es) = statements_and_traps es
statements_and_traps (ends line ∷ es) = statements_and_traps es
statements_and_traps (traps t ∷ es) = traps t ∷ statements_and_traps es
