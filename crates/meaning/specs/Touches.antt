-- The touches among events, and those that accesses make.
use Rattle.std.specs.Prelude.{◌≡◌, ℕ, Bool, false, if◌then◌else◌, List, [], ◌∷◌, ◌++◌, map, Option, Some, None, option_map, Result, Ok, Err}
use Rattle.fl_ast.specs.Tree.{Expression, Designator, Condition, assignment}
use Rattle.fl_types.specs.declared.access.PathStep.{PathStep}
use Rattle.fl_types.specs.Accesses.{Scope, Occurrence, reads, step_reads, condition_reads, accesses}
use Rattle.meaning.specs.declared.value.Value.{Value}
use Rattle.meaning.specs.declared.value.Cause.{Cause}
use Rattle.meaning.specs.declared.value.IterationCount.{IterationCount}
use Rattle.meaning.specs.Values.{whole_numbers}
use Rattle.meaning.specs.Logs.{Touch, Event, begins, touches, pushes, ends, traps, Passage, instance, right_side, rounds, turn, iteration, condition, taken, iteration_in, Log, silence, single, touched, sets, both, within, events_in}
use Rattle.meaning.specs.Sites.{Cells, Site, place_of}
use Rattle.meaning.specs.Expressions.{values_of, holds}
use Rattle.meaning.specs.Statements.{turns_of, run}

abbrev pub touches_among : List Event → List Touch
touches_among [] = []
touches_among (begins ∷ es) = touches_among es
touches_among (touches t ∷ es) = t ∷ touches_among es
touches_among (pushes w ∷ es) = touches_among es
touches_among (ends line ∷ es) = touches_among es
touches_among (traps t ∷ es) = touches_among es

-- the touches of a log in iteration k
abbrev pub touches_in : ℕ → Log → List Touch
touches_in k l = touches_among (events_in k l)

abbrev pub is_right_side : (List ℕ → Bool) → Passage → Bool
is_right_side on (right_side x) = on x
is_right_side on instance = false
is_right_side on rounds = false
is_right_side on (turn k) = false
is_right_side on (iteration k) = false
is_right_side on (condition m) = false
is_right_side on (taken m) = false

-- the touches of a log in the right sides of assignments to the names `on`
abbrev pub right_touches_in : (List ℕ → Bool) → ℕ → Log → List Touch
right_touches_in on k silence = []
right_touches_in on k (single e) = []
right_touches_in on k (touched p kind) = []
right_touches_in on k (sets p v) = []
right_touches_in on k (both a b) = right_touches_in on k a ++ right_touches_in on k b
right_touches_in on k (within p a) = if is_right_side on p then touches_in (iteration_in k p) a else right_touches_in on (iteration_in k p) a

-- the names that make touches at a site, as those that make accesses
abbrev pub scope_at : Site → Scope
scope_at site = record { accessed = site.accessed; pluses = site.pluses; ring = site.ring }

abbrev pub place_at : Site → List ℕ → Result (List Value) Cause → Option ℕ
place_at site x (Ok vs) = place_of site x (whole_numbers vs)
place_at site x (Err c) = None

-- the place of a name with the values that its subscripts have
abbrev pub designated_place : Site → Cells → Designator → Option ℕ
designated_place site cells p = place_at site p.name (values_of p.subscripts site cells).out

-- the touch that an access makes in iteration k, None where it has no place
abbrev pub touch_of : Site → Cells → ℕ → Occurrence → Option Touch
touch_of site cells k o = option_map (λ (p : ℕ). let t : Touch = record { place = p; iteration = k; kind = o.kind } in t) (designated_place site cells o.place)

-- a log's touches are those of the accesses, in order, each of which has a place
abbrev pub AreTouches : Site → Cells → Log → List Occurrence → Type 0
AreTouches site cells l os = (k : ℕ) → map Some (touches_in k l) ≡ map (touch_of site cells k) os

-- what one path holds makes one group of accesses, evaluated in the same cells: an assignment or increment,
pub record GroupTouches (site : Site) (cells : Cells) (line : ℕ) (path : List PathStep) : Type 0 where
  pub of_assignment : (atomic : Bool) (p : Designator) (e : Expression) (number : ℕ) (d : Cells) → (run (assignment line atomic p e) site cells).out ≡ Ok d →
      AreTouches site cells (run (assignment line atomic p e) site cells).log (accesses (scope_at site) number path (assignment line atomic p e))
  -- a condition,
  pub of_condition : (c : Condition) (b : Bool) → (holds c site cells).out ≡ Ok b → AreTouches site cells (holds c site cells).log (condition_reads (scope_at site) line path c)
  -- the bounds and the step of a loop
  pub of_bounds : (first last : Expression) (step : Option Expression) (t : IterationCount) → (turns_of first last step site cells).out ≡ Ok t →
      AreTouches site cells (turns_of first last step site cells).log (reads (scope_at site) line path first ++ (reads (scope_at site) line path last ++ step_reads (scope_at site) line path step))
