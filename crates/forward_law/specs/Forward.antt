-- What a forward sweep is to do: what the meaning tells of its statements.
use Rattle.std.specs.Prelude.{◌≡◌, ℕ, ℤ, Bool, true, false, not, ◌&&◌, List, [], ◌∷◌, Option, Some, None, is_some, Result, Ok}
use Rattle.fl_ast.specs.Tree.{Statement, assignment, branch, loop, Statements, no_statements, statement, Arms, no_arms, arm}
use Rattle.store_core.specs.Tapes.{Item, word, lists, IterationLists}
use Rattle.meaning.specs.declared.value.TrapAt.{TrapAt}
use Rattle.meaning.specs.Logs.{Event, begins, touches, pushes, ends, traps, Log, silence, single, touched, sets, both, within, instance, right_side, rounds, turn, iteration, condition, taken, notes_in, Traced}
use Rattle.meaning.specs.Sites.{Cells, Site, word_of}
use Rattle.meaning.specs.Fitting.{Fits, IsWellKinded}
use Rattle.meaning.specs.Stops.{the_limits}
use Rattle.meaning.specs.Statements.{run_all}
use Rattle.meaning.specs.Adjoints.{cells_along}
use Rattle.transposition.specs.Tapes.{Tape, empty, many, Tapes, none, more, both_tapes, tape_after, iteration_tapes}
use Rattle.transposition.specs.Tapes.{word as tape_word}
use Rattle.first_stops.specs.Kept.{after_notes}
use Rattle.resolved.specs.SlotTables.{Names}
use Rattle.sweep_steps.specs.Steps.{StepTrees}
use Rattle.sweep_steps.specs.StepsStand.{flags_at, AllStand}
use Rattle.sweep_law.specs.Telling.{Scene, ForwardTape, Standing, goes_on, IsSite}
use Rattle.forward_sweep.specs.Machine.{steps_run}

-- ---- tapes

-- the words of an iteration, in the order in which they were pushed
abbrev pub words_on : List ℕ → Tape → Tape
words_on [] t = t
words_on (w ∷ ws) t = words_on ws (tape_word w t)

abbrev pub tapes_back : List (List ℕ) → Tapes
tapes_back [] = none
tapes_back (ws ∷ rest) = more (words_on ws empty) (tapes_back rest)

-- the tape that items are, the newest on top
abbrev pub tape_back : List Item → Tape
tape_back [] = empty
tape_back (word w ∷ items) = tape_word w (tape_back items)
tape_back (lists l ∷ items) = many (tapes_back l.tapes) (tape_back items)

-- what a sweep's tape stands for: outside parallel loops a tape, and in one the tapes of its iterations, over the items before it
pub data TapeView : Type 0 where
  outside_loops : Tape → TapeView
  in_loop : List Item → (bounds : List ℤ) → (outer : List (List ℕ × ℤ)) → Tapes → TapeView

abbrev pub view_by : List Item → Option IterationLists → TapeView
view_by items None = outside_loops (tape_back items)
view_by items (Some l) = in_loop items l.bounds l.outer (tapes_back l.tapes)

abbrev pub view : ForwardTape → TapeView
view t = view_by t.items t.running

-- the last iteration's tape, as f makes it
abbrev pub with_last : (Tape → Tape) → Tapes → Tapes
with_last f none = none
with_last f (more t none) = more (f t) none
with_last f (more t (more u us)) = more t (with_last f (more u us))

abbrev pub on_tape : (Tape → Tape) → TapeView → TapeView
on_tape f (outside_loops t) = outside_loops (f t)
on_tape f (in_loop items bounds outer ts) = in_loop items bounds outer (with_last f ts)

-- ---- sweeps

-- a scene but for its line
abbrev pub unlined : Scene → Scene
unlined c = record c { line = 0 }

-- a sweep stands at a site of the meaning, in a parallel loop or not, beside cells that it has but for tangents
pub record Beside (names : Names) (site : Site) (inside : Bool) (s : Standing) (c : Cells) : Type 0 where
  pub named : s.scene.names ≡ names
  pub limits : s.scene.limits ≡ the_limits
  pub around : is_some s.scene.around ≡ inside
  pub outside : inside ≡ false → (s.scene.iteration ≡ 0) × (s.tape.running ≡ None)
  pub site_is : IsSite site names (flags_at names site) inside
  pub fits : Fits site c
  pub cells : s.kept.cells ≡ cells_along [] c

-- no parallel loop is in another, and in one there is none
abbrev mutual
  pub is_flat : Bool → Statement → Bool
  is_flat inside (assignment line atomic target value) = true
  is_flat inside (branch line arms other) = are_arms_flat inside arms && are_flat inside other
  is_flat inside (loop line number None var first last by body) = are_flat inside body
  is_flat inside (loop line number (Some directive) var first last by body) = not inside && are_flat true body

  pub are_flat : Bool → Statements → Bool
  are_flat inside no_statements = true
  are_flat inside (statement s ss) = is_flat inside s && are_flat inside ss

  pub are_arms_flat : Bool → Arms → Bool
  are_arms_flat inside no_arms = true
  are_arms_flat inside (arm test body arms) = are_flat inside body && are_arms_flat inside arms

-- from where it stood a sweep comes to what the meaning tells, and where there is no stop to the meaning's cells, but for tangents, with the
-- tape of the log: in a parallel loop on that of the last iteration
pub record IsTold (s : Standing) (t : Traced TrapAt Cells) (r : Standing) : Type 0 where
  pub kept : r.kept ≡ after_notes s.scene.judge s.scene.limits s.kept (notes_in s.scene.iteration t.log)
  pub scene : unlined r.scene ≡ unlined s.scene
  pub cells : goes_on r.kept.seen ≡ true → (d : Cells) × ((t.out ≡ Ok d) × (r.kept.cells ≡ cells_along [] d))
  pub tape : goes_on r.kept.seen ≡ true → view r.tape ≡ on_tape (tape_after t.log) (view s.tape)

-- beside fitting cells the steps of statements do what the meaning tells of these
abbrev pub ForwardIsTold : Type 0
ForwardIsTold =
    (names : Names) (site : Site) (ts : StepTrees) (body : Statements) → AllStand names site ts body → IsWellKinded site body → (inside : Bool) → are_flat inside body ≡ true →
    (s : Standing) (c : Cells) → Beside names site inside s c → IsTold s (run_all body site c) (steps_run names ts s)

-- so outside parallel loops, by the items of the tape
pub record IsToldOutside (s : Standing) (t : Traced TrapAt Cells) (r : Standing) : Type 0 where
  pub told : IsTold s t r
  pub items : goes_on r.kept.seen ≡ true → tape_back r.tape.items ≡ tape_after t.log (tape_back s.tape.items)
  pub running : goes_on r.kept.seen ≡ true → r.tape.running ≡ None

abbrev pub OutsideIsTold : Type 0
OutsideIsTold =
    (names : Names) (site : Site) (ts : StepTrees) (body : Statements) → AllStand names site ts body → IsWellKinded site body → are_flat false body ≡ true →
    (s : Standing) (c : Cells) → Beside names site false s c → IsToldOutside s (run_all body site c) (steps_run names ts s)
