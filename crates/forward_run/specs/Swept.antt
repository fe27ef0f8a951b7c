-- What the forward sweep of a program answers.
use Rattle.std.specs.Prelude.{◌≡◌, ℕ, ◌+◌, Bool, false, true, List, [], Some, None, Result, Ok, Err}
use Rattle.fl_ast.specs.Tree.{Subroutine}
use Rattle.store_core.specs.declared.layout.Shape.{Shape}
use Rattle.store_core.specs.Tapes.{Item}
use Rattle.meaning.specs.declared.value.TrapAt.{TrapAt}
use Rattle.meaning.specs.Logs.{Traced, events}
use Rattle.meaning.specs.Sites.{Cells}
use Rattle.meaning.specs.Fitting.{Fits, IsWellKinded}
use Rattle.meaning.specs.Stops.{Judge, the_limits, Stop, at_end, trapped, over_statements, over_touches, over_words, conflicted, first_stop, ticks}
use Rattle.meaning.specs.Adjoints.{cells_along}
use Rattle.meaning.specs.Laws.{values_out}
use Rattle.meaning.specs.Programs.{entry_site, entry_cells}
use Rattle.first_stops.specs.Kept.{begun, stop_of}
use Rattle.resolved.specs.SlotTables.{Names, names_of}
use Rattle.transposition.specs.Tapes.{empty, tape_after}
use Rattle.sweep_steps.specs.Steps.{StepTrees}
use Rattle.sweep_steps.specs.StepsStand.{AllStand}
use Rattle.sweep_law.specs.Telling.{Standing, standing, goes_on}
use Rattle.forward_state.specs.declared.run.Run.{Run}
use Rattle.forward_state.specs.declared.run.SweepStop.{SweepStop}
use Rattle.forward_state.specs.Holding.{stop_back}
use Rattle.forward_law.specs.Forward.{tape_back, are_flat}
use Rattle.forward_run.specs.declared.stop.ForwardStop.{ForwardStop}
use Rattle.forward_run.specs.declared.stop.ForwardStop.TheVariants.{Trap, Statements, Touches, Words, Conflict, Memory}

-- the contents of all places, and the tape, the newest on top
pub record Left : Type 0 where
  pub cells : Cells
  pub tape : List Item

-- an answer is this stop; nothing is said where memory was wanting
abbrev pub IsStop : ForwardStop → Stop → Type 0
IsStop (Trap t) s = s ≡ trapped t
IsStop Statements s = s ≡ over_statements
IsStop Touches s = s ≡ over_touches
IsStop Words s = s ≡ over_words
IsStop (Conflict c) s = s ≡ conflicted c.line (record { place = c.place; first = c.first; second = c.second })
IsStop Memory s = Unit {0}

-- what is so unless memory was wanting
abbrev pub Unless : ForwardStop → Type 0 → Type 0
Unless (Trap t) P = P
Unless Statements P = P
Unless Touches P = P
Unless Words P = P
Unless (Conflict c) P = P
Unless Memory P = Unit {0}

-- ---- of what a sweep keeps

-- where a sweep begins
abbrev pub opening_standing : Judge → Names → Cells → Standing
opening_standing judge names cells =
    standing (record { judge = judge; limits = the_limits; names = names; line = 0; around = None; iteration = 0 }) (record { items = []; running = None }) (begun cells)

abbrev pub EndsAs : {T : Type 0} → (T → Left) → Names → Run → Result T ForwardStop → Type 0
EndsAs view names r (Ok f) = (r.lost ≡ false) × (r.stop ≡ None) × (view f ≡ record { cells = r.cells.items; tape = r.tape })
EndsAs view names r (Err e) = Unless e ((r.lost ≡ false) × ((y : SweepStop) × ((r.stop ≡ Some y) × IsStop e (stop_back names y))))

-- where the scene's names are those of the sweep
abbrev pub EndsAt : {T : Type 0} → (T → Left) → Names → Standing → Result T ForwardStop → (before after : ℕ) → Type 0
EndsAt view names s (Ok f) before after = (goes_on s.kept.seen ≡ true) × (view f ≡ record { cells = s.kept.cells; tape = s.tape.items }) × (after ≡ before + s.kept.ticks)
EndsAt view names s (Err e) before after = s.scene.names ≡ names → IsStop e (stop_of s.kept.seen) × Unless e (after ≡ before + s.kept.ticks)

-- ---- of programs

-- the names of a program, its statements as sweeps run them, and the contents of all places at its entry
pub record IsOpened (p : Subroutine) (shapes : List Shape) (pushed : List ℕ → Bool) (words : List ℕ) (names : Names) (ts : StepTrees) (cells : Cells) : Type 0 where
  pub named : names ≡ names_of shapes p.decls
  pub stands : AllStand names (entry_site p shapes pushed) ts p.body
  pub kinded : IsWellKinded (entry_site p shapes pushed) p.body
  pub flat : are_flat false p.body ≡ true
  pub entry : cells ≡ cells_along [] (entry_cells p shapes words)
  pub fits : Fits (entry_site p shapes pushed) cells

-- the first stop of a run, and the ticks up to there
abbrev pub stop_in : Judge → Traced TrapAt Cells → Stop
stop_in judge t = first_stop judge the_limits (events t.log)

abbrev pub ticks_in : Judge → Traced TrapAt Cells → ℕ
ticks_in judge t = ticks judge the_limits (events t.log)

-- without a stop the run's cells, but for tangents, and the tape of its log; else the first stop; and the ticks up to there
abbrev pub ForwardsAs : {T : Type 0} → (T → Left) → Judge → Traced TrapAt Cells → Result T ForwardStop → (before after : ℕ) → Type 0
ForwardsAs view judge t (Ok f) before after =
    (stop_in judge t ≡ at_end) × (values_out t.out ≡ Ok (view f).cells) × (tape_back (view f).tape ≡ tape_after t.log empty) × (after ≡ before + ticks_in judge t)
ForwardsAs view judge t (Err e) before after = IsStop e (stop_in judge t) × Unless e (after ≡ before + ticks_in judge t)
