-- What a run tells: its log, and its value or why it stopped.
use Rattle.std.specs.Prelude.{ℕ, List, [], ◌∷◌, ◌++◌, Option, Result, Ok, Err, slice_set}
use Rattle.fl_types.specs.declared.access.AccessKind.{AccessKind}
use Rattle.meaning.specs.declared.value.Value.{Value}
use Rattle.meaning.specs.declared.value.Cause.{Cause}
use Rattle.meaning.specs.declared.value.TrapAt.{TrapAt}

-- a touch of a place in an iteration of a parallel loop
pub record Touch : Type 0 where
  pub place : ℕ
  pub iteration : ℕ
  pub kind : AccessKind

pub data Event : Type 0 where
  -- a statement instance begins
  begins : Event
  touches : Touch → Event
  -- a word goes to the tape: that of this content, of a ring value told without its tangent
  pushes : (content : Option Value) → Event
  -- a parallel loop's last iteration is over
  ends : (line : ℕ) → Event
  traps : TrapAt → Event

-- a piece of a run whose events belong together
pub data Passage : Type 0 where
  -- a statement, and a turn of a sequential loop or an iteration of a parallel one, each a statement instance
  instance : Passage
  -- the right side of an assignment, an increment's terms
  right_side : (target : List ℕ) → Passage
  -- all iterations of a parallel loop
  rounds : Passage
  turn : (number : ℕ) → Passage
  iteration : (number : ℕ) → Passage
  -- the condition and the statements of an arm of an `if`, by the arm's number
  condition : (arm : ℕ) → Passage
  taken : (arm : ℕ) → Passage

-- a log is a forest of passages
pub data Log : Type 0 where
  silence : Log
  single : Event → Log
  -- a place was touched; the passage around it tells in which iteration
  touched : (place : ℕ) → AccessKind → Log
  -- from here on a place has this content, None where it is unset; of a ring value it is told without its tangent
  sets : (place : ℕ) → (content : Option Value) → Log
  both : Log → Log → Log
  within : Passage → Log → Log

abbrev pub opening_events : Passage → List Event
opening_events instance = begins ∷ []
opening_events (right_side x) = []
opening_events rounds = []
opening_events (turn k) = begins ∷ []
opening_events (iteration k) = begins ∷ []
opening_events (condition m) = []
opening_events (taken m) = []

-- the iteration in which a passage's touches are, k being that of the passage around it
abbrev pub iteration_in : ℕ → Passage → ℕ
iteration_in k instance = k
iteration_in k (right_side x) = k
iteration_in k rounds = k
iteration_in k (turn j) = k
iteration_in k (iteration j) = j
iteration_in k (condition m) = k
iteration_in k (taken m) = k

-- the events in order, of a log in iteration k
abbrev pub events_in : ℕ → Log → List Event
events_in k silence = []
events_in k (single e) = e ∷ []
events_in k (touched p kind) = touches (record { place = p; iteration = k; kind = kind }) ∷ []
events_in k (sets p v) = []
events_in k (both a b) = events_in k a ++ events_in k b
events_in k (within p a) = opening_events p ++ events_in (iteration_in k p) a

-- the events of a run; outside parallel loops nothing is touched
abbrev pub events : Log → List Event
events l = events_in 0 l

pub record Traced (X A : Type 0) : Type 0 where
  pub log : Log
  pub out : Result A X

abbrev pub pure : {X A : Type 0} → A → Traced X A
pure a = record { log = silence; out = Ok a }

abbrev pub lift : {X A : Type 0} → Result A X → Traced X A
lift r = record { log = silence; out = r }

-- a log, and then what is told
abbrev pub after : {X A : Type 0} → Log → Traced X A → Traced X A
after l t = record { log = both l t.log; out = t.out }

abbrev pub continuation : {X A B : Type 0} → Log → Result A X → (A → Traced X B) → Traced X B
continuation l (Ok a) f = after l (f a)
continuation l (Err x) f = record { log = l; out = Err x }

-- one run, and another from its value
infixl 10 ◌>>=◌
abbrev pub ◌>>=◌ : {X A B : Type 0} → Traced X A → (A → Traced X B) → Traced X B
t >>= f = continuation t.log t.out f

-- what a log tells in order: its events, and the stores between them
pub data Note : Type 0 where
  tells : Event → Note
  stores : (place : ℕ) → (content : Option Value) → Note

abbrev pub event_notes : List Event → List Note
event_notes [] = []
event_notes (e ∷ es) = tells e ∷ event_notes es

abbrev pub notes_in : ℕ → Log → List Note
notes_in k silence = []
notes_in k (single e) = tells e ∷ []
notes_in k (touched p kind) = tells (touches (record { place = p; iteration = k; kind = kind })) ∷ []
notes_in k (sets p v) = stores p v ∷ []
notes_in k (both a b) = notes_in k a ++ notes_in k b
notes_in k (within p a) = event_notes (opening_events p) ++ notes_in (iteration_in k p) a

abbrev pub notes : Log → List Note
notes l = notes_in 0 l

-- the cells, of ring values without tangents, after what a log tells of stores
abbrev pub replay : Log → List (Option Value) → List (Option Value)
replay silence cells = cells
replay (single e) cells = cells
replay (touched p kind) cells = cells
replay (sets p v) cells = slice_set cells p v
replay (both a b) cells = replay b (replay a cells)
replay (within p a) cells = replay a cells

-- as one passage
abbrev pub inside : {X A : Type 0} → Passage → Traced X A → Traced X A
inside p t = record { log = within p t.log; out = t.out }

abbrev pub at_line_by : {A : Type 0} → ℕ → Log → Result A Cause → Traced TrapAt A
at_line_by line l (Ok a) = record { log = l; out = Ok a }
at_line_by line l (Err c) =
    let t : TrapAt = record { line = line; cause = c } in
    record { log = both l (single (traps t)); out = Err t }

-- the cause of a stop becomes a trap at a line, which ends the log
abbrev pub at_line : {A : Type 0} → ℕ → Traced Cause A → Traced TrapAt A
at_line line t = at_line_by line t.log t.out
