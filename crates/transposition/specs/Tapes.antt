-- The tape that a run leaves, read off its log: words, and for each parallel loop the tapes of its iterations.
use Rattle.std.specs.Prelude.{ℕ, zero, suc}
use Rattle.meaning.specs.Logs.{Log, silence, single, touched, sets, both, within, Event, begins, touches, pushes, ends, traps, instance, right_side, rounds, turn, iteration, condition, taken}
use Rattle.meaning.specs.Sites.{word_of}

mutual
  -- the newest on top
  pub data Tape : Type 0 where
    empty : Tape
    word : ℕ → Tape → Tape
    many : Tapes → Tape → Tape

  -- the first iteration's first
  pub data Tapes : Type 0 where
    none : Tapes
    more : Tape → Tapes → Tapes

abbrev pub both_tapes : Tapes → Tapes → Tapes
both_tapes none us = us
both_tapes (more t ts) us = more t (both_tapes ts us)

-- the tape of an iteration
abbrev pub tape_at : Tapes → ℕ → Tape
tape_at none i = empty
tape_at (more t ts) zero = t
tape_at (more t ts) (suc i) = tape_at ts i

abbrev pub top : Tape → ℕ
top (word x t) = x
top (many l t) = 0
top empty = 0

abbrev pub rest : Tape → Tape
rest (word x t) = t
rest (many l t) = t
rest empty = empty

abbrev pub top_tapes : Tape → Tapes
top_tapes (many l t) = l
top_tapes (word x t) = none
top_tapes empty = none

abbrev pub with_event : Event → Tape → Tape
with_event begins t = t
with_event (touches u) t = t
with_event (pushes v) t = word (word_of v) t
with_event (ends line) t = t
with_event (traps u) t = t

abbrev mutual
  -- the tape after a log
  pub tape_after : Log → Tape → Tape
  tape_after silence t = t
  tape_after (single e) t = with_event e t
  tape_after (touched p kind) t = t
  tape_after (sets p v) t = t
  tape_after (both a b) t = tape_after b (tape_after a t)
  tape_after (within rounds a) t = many (iteration_tapes a) t
  tape_after (within instance a) t = tape_after a t
  tape_after (within (right_side x) a) t = tape_after a t
  tape_after (within (turn k) a) t = tape_after a t
  tape_after (within (iteration k) a) t = tape_after a t
  tape_after (within (condition m) a) t = tape_after a t
  tape_after (within (taken m) a) t = tape_after a t

  -- the tapes of the iterations of a parallel loop
  pub iteration_tapes : Log → Tapes
  iteration_tapes silence = none
  iteration_tapes (single e) = none
  iteration_tapes (touched p kind) = none
  iteration_tapes (sets p v) = none
  iteration_tapes (both a b) = both_tapes (iteration_tapes a) (iteration_tapes b)
  iteration_tapes (within (iteration k) a) = more (tape_after a empty) none
  iteration_tapes (within instance a) = none
  iteration_tapes (within (right_side x) a) = none
  iteration_tapes (within rounds a) = none
  iteration_tapes (within (turn k) a) = none
  iteration_tapes (within (condition m) a) = none
  iteration_tapes (within (taken m) a) = none
