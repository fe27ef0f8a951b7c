-- What a reverse sweep has at hand, and what its steps leave.
use Rattle.std.specs.Prelude.{◌≡◌, ◌≤◌, ◌+◌, ◌%◌, ◌^◌, ℕ, zero, suc, Bool, false, List, [], ◌∷◌, length, map, reverse, Option, Some, None}
use Rattle.ring_core.specs.Ring.{ring_add}
use Rattle.operations.specs.declared.op.Op.{Op}
use Rattle.transposition.specs.Tapes.{Tape, Tapes, tape_at, top, top_tapes}
use Rattle.transposition.specs.Worlds.{Local}
use Rattle.sweep_evaluation.specs.Machine.{Ran, ran, Told}
use Rattle.reverse_sweep.specs.Reversing.{Sums, Stage, Reversing, reversing, on_tape, popped, told}
use Rattle.reverse_state.specs.declared.sums.Sum.{Sum}
use Rattle.reverse_state.specs.Reading.{TapeReading, now_of, around_of}

-- what a reverse sweep has: the number of shared places, the tape, the iteration's own words and those of the loop's entry, the cells, the
-- sums, the innermost first, and a number that counts atomic additions to adjoints modulo 2^64
pub record Held : Type 0 where
  pub shared : ℕ
  pub reading : TapeReading
  pub values : List ℕ
  pub adjoints : List ℕ
  pub entry_values : List ℕ
  pub entry_adjoints : List ℕ
  pub cells : List ℕ
  pub sums : List (ℕ × ℕ)
  pub adds : ℕ
  -- memory was wanting
  pub lost : Bool

-- in a parallel loop: the tapes of its iterations, and what its entry has
pub record Home : Type 0 where
  pub tapes : Tapes
  pub entry : Local

abbrev pub local_of : Held → Local
local_of h = record { tape = now_of h.reading; values = h.values; adjoints = h.adjoints }

abbrev pub home_by : Option (Tapes × Tape) → (values adjoints : List ℕ) → Option Home
home_by None xs ys = None
home_by (Some a) xs ys = Some (record { tapes = a.0; entry = record { tape = a.1; values = xs; adjoints = ys } })

abbrev pub home_of : Held → Option Home
home_of h = home_by (around_of h.reading) h.entry_values h.entry_adjoints

-- the stage that it stands for, whatever operations there were
pub record HasStage (h : Held) (g : Stage) : Type 0 where
  pub cells : g.cells ≡ h.cells
  pub sums : g.sums ≡ h.sums
  pub adds : g.adds % 2 ^ 64 ≡ h.adds % 2 ^ 64

-- the state that it stands for
pub record Stands (h : Held) (s : Reversing) : Type 0 where
  pub local : s.local ≡ local_of h
  pub stage : HasStage h s.stage

pub record Keeps (old new : Held) : Type 0 where
  pub shared : new.shared ≡ old.shared
  pub home : home_of new ≡ home_of old

-- what a call does that runs as m, where memory wasn't wanting
pub record Gives {A : Type 0} (old new : Held) (result : A) (m : Reversing → Ran Reversing A) : Type 0 where
  pub before : new.lost ≡ false → old.lost ≡ false
  pub keeps : new.lost ≡ false → Keeps old new
  pub runs : new.lost ≡ false → (s : Reversing) → Stands old s → (result ≡ (m s).out) × Stands new (m s).state

-- what a step leaves, where memory wasn't wanting
pub record Leaves (old new : Held) (f : Reversing → Reversing) : Type 0 where
  pub before : new.lost ≡ false → old.lost ≡ false
  pub keeps : new.lost ≡ false → Keeps old new
  pub leaves : new.lost ≡ false → (s : Reversing) → Stands old s → Stands new (f s)

-- ---- what evaluations see

pub record Placed : Type 0 where
  pub run : Reversing
  pub shared : ℕ
  pub home : Option Home

abbrev pub placed : ℕ → Option Home → Reversing → Placed
placed n home s = record { run = s; shared = n; home = home }

abbrev pub told_placed : Told Placed
told_placed = record {
  word = λ s p. (told s.shared).word s.run p;
  loaded = λ s slot p accessed. placed s.shared s.home ((told s.shared).loaded s.run slot p accessed);
  stopped = λ s why. s;
}

pub record PlacedStands (h : Held) (s : Placed) : Type 0 where
  pub run : Stands h s.run
  pub shared : s.shared ≡ h.shared
  pub home : s.home ≡ home_of h

-- ---- the parts that it is made of

-- the newest sum is the innermost
abbrev pub sum_pair : Sum → ℕ × ℕ
sum_pair s = (s.cell, s.amount)

abbrev pub sums_back : List Sum → Sums
sums_back ss = map sum_pair (reverse ss)

-- the sums with an addition to the one at a position
abbrev pub with_added : ℕ → ℕ → List Sum → List Sum
with_added i a [] = []
with_added zero a (s ∷ ss) = record s { amount = ring_add s.amount a } ∷ ss
with_added (suc i) a (s ∷ ss) = s ∷ with_added i a ss

abbrev pub cell_in : List Sum → ℕ → ℕ
cell_in [] i = 0
cell_in (s ∷ ss) zero = s.cell
cell_in (s ∷ ss) (suc i) = cell_in ss i

abbrev pub summed_at : List Sum → ℕ → Option ℕ → Option Sums
summed_at ss a None = None
summed_at ss a (Some i) = Some (sums_back (with_added i a ss))

-- each shared place has two cells, and no operation is due
pub record IsReversing (shared : ℕ) (cells : List ℕ) (due : Option (List Op)) (values adjoints entry_values entry_adjoints : List ℕ) : Type 0 where
  pub few : shared ≤ 1048576
  pub doubled : length cells ≡ shared + shared
  pub alone : due ≡ None
  pub own_values : length entry_values ≡ length values
  pub own_adjoints : length entry_adjoints ≡ length adjoints

-- ---- steps

-- the word on top is taken
abbrev pub word_taken : Reversing → Ran Reversing ℕ
word_taken s = ran (top s.local.tape) (reversing (popped s.local) s.stage)

abbrev pub on_local : (Local → Local) → Reversing → Reversing
on_local f s = reversing (f s.local) s.stage

abbrev pub on_stage : (Stage → Stage) → Reversing → Reversing
on_stage f s = reversing s.local (f s.stage)

-- the stage stays
pub record KeepsStage (old new : Held) : Type 0 where
  pub shared : new.shared ≡ old.shared
  pub cells : new.cells ≡ old.cells
  pub sums : new.sums ≡ old.sums
  pub adds : new.adds ≡ old.adds
  pub lost : new.lost ≡ old.lost

-- a parallel loop whose tapes of iterations are on top is come to
pub record Enters (old new : Held) : Type 0 where
  pub stage : KeepsStage old new
  pub home : home_of new ≡ Some (record { tapes = top_tapes (now_of old.reading); entry = popped (local_of old) })

-- an iteration has what the loop's entry has, and its own tape
pub record Begins (k : ℕ) (old new : Held) : Type 0 where
  pub stage : KeepsStage old new
  pub home : home_of new ≡ home_of old
  pub local : (m : Home) → home_of old ≡ Some m → local_of new ≡ on_tape (tape_at m.tapes k) m.entry

-- the loop's entry goes on below the tapes of iterations
pub record Quits (old new : Held) : Type 0 where
  pub stage : KeepsStage old new
  pub home : home_of new ≡ None
  pub local : (m : Home) → home_of old ≡ Some m → local_of new ≡ m.entry
