-- What a reverse sweep asks of statements, and loops by their bounds.
use Rattle.std.specs.Prelude.{◌≡◌, ℕ, Bool, true, false, not, ◌&&◌, nat_lt, List, [], ◌∷◌, Option, Some, is_some, replicate}
use Rattle.meaning.specs.declared.value.IterationCount.{IterationCount}
use Rattle.forward_sweep.specs.Machine.{HasNumbers}
use Rattle.undo_steps.specs.UndoSteps.{AroundUndo, back_turns, back_iterations, UndoTree, undo_store, undo_choice, undo_loop, UndoTrees, no_undos, undos, UndoArms, no_undo_arms, undo_arm}
use Rattle.sweep_evaluation.specs.Machine.{Ran, ran}
use Rattle.reverse_sweep.specs.Reversing.{Stage, Reversing, reversing, on_tape}
use Rattle.resolved.specs.SlotTables.{Names}
use Rattle.transposition.specs.Tapes.{Tape}
use Rattle.reverse_sweep.specs.Machine.{Counts, bounds_on, below_words, counts_on, below_counts, undos_run}
use Rattle.reverse_state.specs.Holding.{Held, Home, home_of, HasStage, Keeps}
use Rattle.reverse_run.specs.declared.bounds.Round.{Round}
use Rattle.reverse_run.specs.declared.bounds.Rounds.{Rounds}
use Rattle.reverse_run.specs.declared.bounds.Rounds.TheVariants as rounds

-- ---- statements

-- each place is below n
abbrev pub are_below : ℕ → List ℕ → Bool
are_below n [] = true
are_below n (q ∷ qs) = nat_lt q n && are_below n qs

abbrev pub is_around_flat : ℕ → Bool → AroundUndo → Bool
is_around_flat n inside (back_turns place) = true
is_around_flat n inside (back_iterations places privates reductions) = not inside && are_below n reductions

-- inside its iterations
abbrev pub is_inside : Bool → AroundUndo → Bool
is_inside inside (back_turns place) = inside
is_inside inside (back_iterations places privates reductions) = true

-- no parallel loop is in another, nor, inside one, is any; and the places of Reductions are below n
abbrev mutual
  pub is_flat : ℕ → Bool → UndoTree → Bool
  is_flat n inside (undo_store s) = true
  is_flat n inside (undo_choice arms other) = are_arms_flat n inside arms && are_flat n inside other
  is_flat n inside (undo_loop around body) = is_around_flat n inside around && are_flat n (is_inside inside around) body

  pub are_flat : ℕ → Bool → UndoTrees → Bool
  are_flat n inside no_undos = true
  are_flat n inside (undos u us) = is_flat n inside u && are_flat n inside us

  pub are_arms_flat : ℕ → Bool → UndoArms → Bool
  are_arms_flat n inside no_undo_arms = true
  are_arms_flat n inside (undo_arm us arms) = are_flat n inside us && are_arms_flat n inside arms

abbrev pub is_within : Held → Bool
is_within h = is_some (home_of h)

-- ---- loops

-- the words of a loop's bounds are taken
abbrev pub bounds_taken : Reversing → Ran Reversing IterationCount
bounds_taken s = ran (bounds_on s.local.tape) (reversing (on_tape (below_words s.local.tape) s.local) s.stage)

abbrev pub round_back : Round → Option ℕ × IterationCount
round_back r = (r.place, r.turns)

abbrev pub counts_back : Rounds → Counts
counts_back (rounds.One only) = round_back only ∷ []
counts_back (rounds.Two outer inner) = round_back outer ∷ round_back inner ∷ []

-- the words of the bounds of one loop, or of two
abbrev pub counts_taken : List (Option ℕ) → Reversing → Ran Reversing Counts
counts_taken places s = ran (counts_on places s.local.tape) (reversing (on_tape (below_counts places s.local.tape) s.local) s.stage)

-- the variables are of the index kind in each turn
abbrev pub HaveNumbers : Rounds → Type 0
HaveNumbers (rounds.One only) = HasNumbers only.turns
HaveNumbers (rounds.Two outer inner) = HasNumbers outer.turns × HasNumbers inner.turns

-- what iterations leave of the stage, the loop's entry being m
pub record Works (old new : Held) (f : Home → Stage → Stage) : Type 0 where
  pub before : new.lost ≡ false → old.lost ≡ false
  pub keeps : new.lost ≡ false → Keeps old new
  pub stage : new.lost ≡ false → (m : Home) → home_of old ≡ Some m → (g : Stage) → HasStage old g → HasStage new (f m g)

-- ---- programs

-- what a program's reverse sweep begins with: a tape, so many words of an iteration's own, which are 0, and cells
abbrev pub opening : Tape → ℕ → List ℕ → Reversing
opening t own c = reversing (record { tape = t; values = replicate own 0; adjoints = replicate own 0 }) (record { cells = c; sums = []; ops = []; adds = 0 })

-- the cells after all statements are undone
abbrev pub swept_back : Names → ℕ → UndoTrees → Tape → ℕ → List ℕ → List ℕ
swept_back names n us t own c = (undos_run names n us (opening t own c)).stage.cells

-- how many atomic additions to adjoints there were
abbrev pub swept_adds : Names → ℕ → UndoTrees → Tape → ℕ → List ℕ → ℕ
swept_adds names n us t own c = (undos_run names n us (opening t own c)).stage.adds
