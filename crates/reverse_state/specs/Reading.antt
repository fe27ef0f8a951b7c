-- The tape as a reverse sweep reads it.
use Rattle.std.specs.Prelude.{◌≡◌, ◌≤◌, ℕ, List, [], length, Option, Some, None, take, slice_index_or}
use Rattle.store_core.specs.Tapes.{Item, IterationLists}
use Rattle.transposition.specs.Tapes.{Tape, empty, Tapes, none, top, rest}
use Rattle.forward_law.specs.Forward.{words_on, tapes_back, tape_back}
use Rattle.reverse_state.specs.declared.reading.Iterations.{Iterations}

-- the tapes of iterations, none where there are none
abbrev pub lists_back : Option IterationLists → Tapes
lists_back None = none
lists_back (Some l) = tapes_back l.tapes

-- in a parallel loop: the tapes of its iterations, and what is left of the words of the one that is read
pub record Inside : Type 0 where
  pub lists : Option IterationLists
  pub words : List ℕ

-- the items of the tape, in a parallel loop those below its iterations' tapes
pub record TapeReading : Type 0 where
  pub items : List Item
  pub inside : Option Inside

abbrev pub now_by : List Item → Option Inside → Tape
now_by items None = tape_back items
now_by items (Some i) = words_on i.words empty

-- the tape that is read
abbrev pub now_of : TapeReading → Tape
now_of r = now_by r.items r.inside

abbrev pub around_by : List Item → Option Inside → Option (Tapes × Tape)
around_by items None = None
around_by items (Some i) = Some (lists_back i.lists, tape_back items)

-- in a parallel loop the tapes of its iterations, and the tape below them
abbrev pub around_of : TapeReading → Option (Tapes × Tape)
around_of r = around_by r.items r.inside

-- one word is taken
pub record Takes (old new : TapeReading) (result : ℕ) : Type 0 where
  pub word : result ≡ top (now_of old)
  pub now : now_of new ≡ rest (now_of old)
  pub around : around_of new ≡ around_of old

-- the words of an iteration, none where it has no tape
abbrev pub words_of : Option IterationLists → ℕ → List ℕ
words_of None k = []
words_of (Some l) k = slice_index_or l.tapes k []

abbrev pub inside_of : Option Iterations → Option Inside
inside_of None = None
inside_of (Some i) = Some (record { lists = i.tapes; words = take i.left (words_of i.tapes i.iteration) })

-- no more words are left than there are
abbrev pub AreWithin : Iterations → Type 0
AreWithin i = i.left ≤ length (words_of i.tapes i.iteration)

abbrev pub IsWithin : Option Iterations → Type 0
IsWithin None = Unit {0}
IsWithin (Some i) = AreWithin i

abbrev pub words_left : Iterations → Tape
words_left i = words_on (take i.left (words_of i.tapes i.iteration)) empty

-- one word of an iteration is taken
pub record TakesWord (old new : Iterations) (result : ℕ) : Type 0 where
  pub word : result ≡ top (words_left old)
  pub now : words_left new ≡ rest (words_left old)
  pub tapes : new.tapes ≡ old.tapes
  pub within : AreWithin new
