-- The steps of a forward sweep, as what they leave.
use Rattle.std.specs.Prelude.{ℕ, ℤ, Bool, true, false, ◌&&◌, if◌then◌else◌, nat_lt, List, [], ◌∷◌, ◌++◌, length, Option, Some, None, is_some}
use Rattle.fl_types.specs.declared.access.AccessKind.{AccessKind}
use Rattle.store_core.specs.Tapes.{Item, word, lists, IterationLists, with_word}
use Rattle.meaning.specs.declared.value.Value.{Value}
use Rattle.meaning.specs.Logs.{begins, touches, pushes, ends, Note, tells, stores}
use Rattle.meaning.specs.Sites.{with_tangent, word_of}
use Rattle.meaning.specs.declared.value.Value.TheVariants.{Index}
use Rattle.meaning.specs.Expressions.{content}
use Rattle.meaning.specs.Statements.{content_at}
use Rattle.first_stops.specs.Kept.{with_note}
use Rattle.sweep_law.specs.Telling.{Scene, ForwardTape, Standing, standing, goes_on}

-- one thing more is told
abbrev pub noted : Standing → Note → Standing
noted s n = standing s.scene s.tape (with_note s.scene.judge s.scene.limits s.kept n)

-- a statement instance begins
abbrev pub begun : Standing → Standing
begun s = noted s (tells begins)

-- the iteration that runs touches a place; outside parallel loops nothing is touched
abbrev pub touched_at : Standing → ℕ → AccessKind → Standing
touched_at s p kind =
    if is_some s.scene.around && nat_lt p (length s.kept.cells) then noted s (tells (touches (record { place = p; iteration = s.scene.iteration; kind = kind }))) else s

-- a place gets a content, without tangent
abbrev pub set_at : Standing → ℕ → Option Value → Standing
set_at s p v = noted s (stores p (with_tangent 0 v))

-- a word more on the tape: in a parallel loop on that of the last iteration
abbrev pub with_word_on : ForwardTape → ℕ → ForwardTape
with_word_on t w = onto t.items t.running w where
  onto : List Item → Option IterationLists → ℕ → ForwardTape
  onto items None w = record { items = word w ∷ items; running = None }
  onto items (Some l) w = record { items = items; running = Some (record l { tapes = with_word l.tapes w }) }

-- the word of a content goes to the tape, where it is told without a stop
abbrev pub pushed : Standing → Option Value → Standing
pushed s v =
    let k = with_note s.scene.judge s.scene.limits s.kept (tells (pushes (with_tangent 0 v))) in
    standing s.scene (if goes_on k.seen then with_word_on s.tape (word_of v) else s.tape) k

-- the statement at a line runs
abbrev pub on_line : ℕ → Standing → Standing
on_line line s = standing (record s.scene { line = line }) s.tape s.kept

abbrev pub no_tapes : List ℤ → List (List ℕ × ℤ) → IterationLists
no_tapes bounds outer = record { bounds = bounds; outer = outer; tapes = [] }

-- the iterations of the parallel loop at a line come; there is none around it
abbrev pub entered : ℕ → List ℤ → List (List ℕ × ℤ) → Standing → Standing
entered line bounds outer s =
    if is_some s.scene.around then s
    else standing (record s.scene { around = Some line }) (record s.tape { running = Some (no_tapes bounds outer) }) s.kept

abbrev pub with_tape : ForwardTape → ForwardTape
with_tape t = onto t.items t.running where
  onto : List Item → Option IterationLists → ForwardTape
  onto items None = record { items = items; running = None }
  onto items (Some l) = record { items = items; running = Some (record l { tapes = l.tapes ++ [] ∷ [] }) }

abbrev pub with_next_tape : ℕ → Standing → Standing
with_next_tape i s = standing (record s.scene { iteration = i }) (with_tape s.tape) s.kept

-- an iteration begins, with a tape of its own
abbrev pub in_iteration : ℕ → Standing → Standing
in_iteration i s = begun (with_next_tape i s)

abbrev pub closed : ForwardTape → ForwardTape
closed t = onto t.items t.running where
  onto : List Item → Option IterationLists → ForwardTape
  onto items None = record { items = items; running = None }
  onto items (Some l) = record { items = lists l ∷ items; running = None }

abbrev pub outside : Standing → Standing
outside s = standing (record s.scene { around = None; iteration = 0 }) (closed s.tape) s.kept

-- the last iteration of the parallel loop around is over
abbrev pub left : Standing → Standing
left s = from s.scene.around where
  from : Option ℕ → Standing
  from None = s
  from (Some line) = noted (outside s) (tells (ends line))

-- ---- the same, where there is one

abbrev pub touched_if : Bool → ℕ → AccessKind → Standing → Standing
touched_if accessed p kind s = if accessed then touched_at s p kind else s

abbrev pub pushed_if : Bool → Option Value → Standing → Standing
pushed_if flag v s = if flag then pushed s v else s

-- the content of a place goes to the tape
abbrev pub pushed_old : Bool → ℕ → Standing → Standing
pushed_old flag p s = pushed_if flag (content s.kept.cells p) s

abbrev pub number_set : Option ℕ → ℤ → Standing → Standing
number_set None z s = s
number_set (Some p) z s = set_at s p (Some (Index z))

abbrev pub unset_at : Option ℕ → Standing → Standing
unset_at None s = s
unset_at (Some p) s = set_at s p None

abbrev pub scalar_pushed : Bool → Option ℕ → Standing → Standing
scalar_pushed flag place s = pushed_if flag (content_at s.kept.cells place) s
