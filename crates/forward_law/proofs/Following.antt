-- A sweep beside the meaning, as the proofs have it: what a log leaves of a tape is told piece by piece.
use Rattle.std.specs.Prelude.{◌≡◌, ℕ, ℤ, Bool, true, false, not, ◌&&◌, List, [], ◌∷◌, Option, Some, None, is_some, Result, Ok}
use Rattle.fl_ast.specs.Tree.{Statement, assignment, branch, loop, Statements, no_statements, statement, Arms, no_arms, arm}
use Rattle.store_core.specs.Tapes.{Item, word, lists, IterationLists}
use Rattle.meaning.specs.declared.value.TrapAt.{TrapAt}
use Rattle.meaning.specs.Logs.{Event, begins, touches, pushes, ends, traps, Log, silence, single, touched, sets, both, within, instance, right_side, rounds, turn, iteration, condition, taken, notes_in, Traced}
use Rattle.meaning.specs.Sites.{Cells, Site, word_of}
use Rattle.meaning.specs.Fitting.{Fits, IsWellKinded}
use Rattle.meaning.specs.Stops.{the_limits}
use Rattle.meaning.specs.Statements.{run_all}
use Rattle.meaning.specs.Adjoints.{cells_along}
use Rattle.transposition.specs.Tapes.{Tape, empty, many, Tapes, none, more, both_tapes, tape_after, iteration_tapes}
use Rattle.transposition.specs.Tapes.{word as tape_word}
use Rattle.first_stops.specs.Kept.{after_notes}
use Rattle.resolved.specs.SlotTables.{Names}
use Rattle.sweep_steps.specs.Steps.{StepTrees}
use Rattle.sweep_steps.specs.StepsStand.{flags_at, AllStand}
use Rattle.sweep_law.specs.Telling.{Scene, ForwardTape, Standing, goes_on, IsSite}
use Rattle.forward_sweep.specs.Machine.{steps_run}
use Rattle.forward_law.specs.Forward.{TapeView, outside_loops, in_loop, view, on_tape, unlined}

abbrev pub event_taped : Event → TapeView → TapeView
event_taped begins w = w
event_taped (touches u) w = w
event_taped (pushes v) w = on_tape (tape_word (word_of v)) w
event_taped (ends line) w = w
event_taped (traps u) w = w

-- what a log leaves of a tape, in a parallel loop on that of the last iteration
abbrev pub taped : Log → TapeView → TapeView
taped silence w = w
taped (single e) w = event_taped e w
taped (touched p kind) w = w
taped (sets p v) w = w
taped (both a b) w = taped b (taped a w)
taped (within rounds a) w = on_tape (many (iteration_tapes a)) w
taped (within instance a) w = taped a w
taped (within (right_side x) a) w = taped a w
taped (within (turn k) a) w = taped a w
taped (within (iteration k) a) w = taped a w
taped (within (condition m) a) w = taped a w
taped (within (taken m) a) w = taped a w

-- what a log of iterations leaves of a tape, in a parallel loop the tapes of these
abbrev pub rounded : Log → TapeView → TapeView
rounded l (outside_loops t) = outside_loops (tape_after l t)
rounded l (in_loop items bounds outer ts) = in_loop items bounds outer (both_tapes ts (iteration_tapes l))

-- ---- sweeps

-- from where it stood a sweep comes to what the meaning tells, and where there is no stop to what R says of the meaning's value, with
-- a tape as the log leaves it
pub record FollowsBy {X : Type 0} (leaves : Log → TapeView → TapeView) (s : Standing) (t : Traced TrapAt X) (R : X → Type 0) (r : Standing) : Type 0 where
  pub kept : r.kept ≡ after_notes s.scene.judge s.scene.limits s.kept (notes_in s.scene.iteration t.log)
  pub scene : unlined r.scene ≡ unlined s.scene
  pub value : goes_on r.kept.seen ≡ true → (x : X) × ((t.out ≡ Ok x) × R x)
  pub tape : goes_on r.kept.seen ≡ true → view r.tape ≡ leaves t.log (view s.tape)

abbrev pub Follows : {X : Type 0} → Standing → Traced TrapAt X → (X → Type 0) → Standing → Type 0
Follows s t R r = FollowsBy taped s t R r

-- a sweep has come to these cells, but for tangents
abbrev pub Lands : Standing → Cells → Type 0
Lands r d = r.kept.cells ≡ cells_along [] d
