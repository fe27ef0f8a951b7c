-- What a forward sweep's numbers stand for.
use Rattle.std.specs.Prelude.{◌≡◌, ℕ, ◌+◌, Bool, true, false, if◌then◌else◌, List, [], length, Option, Some, None, Result, Ok, Err}
use Rattle.meaning.specs.Logs.{Touch}
use Rattle.meaning.specs.Stops.{Judge, the_limits, Seen, Stop, trapped, over_statements, over_touches, over_words, conflicted}
use Rattle.dual_evaluation.specs.Answers.{halt_cause}
use Rattle.resolved.specs.SlotTables.{Names}
use Rattle.forward_state.specs.declared.run.Run.{Run}
use Rattle.forward_state.specs.declared.run.SweepStop.{SweepStop}
use Rattle.forward_state.specs.declared.run.SweepStop.TheVariants.{Trap, Statements, Touches, Words, Conflict}
use Rattle.sweep_law.specs.Telling.{Standing}

-- the stop that is kept, with the names of a table for its slots
abbrev pub stop_back : Names → SweepStop → Stop
stop_back names (Trap line halt) = trapped (record { line = line; cause = halt_cause names.0 halt })
stop_back names Statements = over_statements
stop_back names Touches = over_touches
stop_back names Words = over_words
stop_back names (Conflict c) = conflicted c.line (record { place = c.place; first = c.first; second = c.second })

-- one tick more where a statement instance had no room
abbrev pub over_by : Option SweepStop → ℕ
over_by None = 0
over_by (Some (Trap line halt)) = 0
over_by (Some Statements) = 1
over_by (Some Touches) = 0
over_by (Some Words) = 0
over_by (Some (Conflict c)) = 0

abbrev pub ticks_of : Run → ℕ
ticks_of r = r.statements + over_by r.stop

-- the touches of a parallel loop so far are those that the watch stands for; outside there are none
abbrev pub AreSince : (ℕ → List Touch → Type 0) → Option ℕ → List Touch → Type 0
AreSince watched (Some line) ts = watched line ts
AreSince watched None ts = ts ≡ []

-- what was seen, or the first stop
abbrev pub SeenAs : Names → Run → (ℕ → List Touch → Type 0) → Result Seen Stop → Type 0
SeenAs names r watched (Ok seen) =
    (r.stop ≡ None) × (seen.statements ≡ r.statements) × (seen.touches ≡ r.touches) × (seen.words ≡ r.words) × AreSince watched r.around seen.since
SeenAs names r watched (Err x) = (y : SweepStop) × ((r.stop ≡ Some y) × (x ≡ stop_back names y))

pub record Holds (r : Run) (watched : ℕ → List Touch → Type 0) (places : ℕ) (judge : Judge) (s : Standing) : Type 0 where
  pub judged : s.scene.judge ≡ judge
  pub limits : s.scene.limits ≡ the_limits
  pub line : s.scene.line ≡ r.line
  pub around : s.scene.around ≡ r.around
  pub iteration : s.scene.iteration ≡ r.iteration
  pub cells : s.kept.cells ≡ r.cells.items
  pub watches : places ≡ length r.cells.items
  pub ticks : s.kept.ticks ≡ ticks_of r
  pub seen : SeenAs s.scene.names r watched s.kept.seen
  pub items : s.tape.items ≡ r.tape
  pub running : s.tape.running ≡ r.running

-- what a step leaves, where memory wasn't wanting
pub record Leaves (old new : Run) (before after : ℕ → List Touch → Type 0) (places placed : ℕ) (judge : Judge) (m : Standing → Standing) : Type 0 where
  pub was : new.lost ≡ false → old.lost ≡ false
  pub leaves : new.lost ≡ false → (s : Standing) → Holds old before places judge s → Holds new after placed judge (m s)
