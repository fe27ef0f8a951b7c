-- Logs as lists, and their stores replayed, compute.
use Rattle.std.specs.Prelude.{◌≡◌, ℕ, suc, List, [], ◌∷◌, ◌++◌, Option, None, refl, codes}
use Rattle.fl_ast.specs.declared.kind.Kind.TheVariants as kind
use Rattle.fl_ast.specs.declared.directive.Directive.{Directive}
use Rattle.fl_ast.specs.Tree.{Statements, statement, loop}
use Rattle.ring_core.specs.Index.{exact_index}
use Rattle.fl_types.specs.declared.access.AccessKind.{AccessKind}
use Rattle.fl_types.specs.declared.access.AccessKind.TheVariants.{Read, Write}
use Rattle.meaning.specs.declared.value.Value.{Value}
use Rattle.meaning.specs.Logs.{Event, touches, begins, pushes, ends, Passage, instance, right_side, rounds, iteration, Log, silence, single, touched, sets, both, within, events, replay}
use Rattle.meaning.specs.Sites.{Cells, Site, opening_site}
use Rattle.meaning.specs.Expressions.{content}
use Rattle.meaning.specs.Statements.{run_all}
use Rattle.meaning.specs.Programs.{tape_words}
use Rattle.meaning.specs.Stops.{by_conflict, the_limits, first_stop, at_end, conflicted, ticks, cells_at_stop}
use Rattle.meaning.proofs.Small.{declared, scalar, array, word, number, one, name, at, to, into, ◌plus◌, ◌times◌, only, set, clauses, parallel, all_pushed}

abbrev n : List ℕ
n = codes "n"

abbrev i : List ℕ
i = codes "i"

abbrev t : List ℕ
t = codes "t"

abbrev x : List ℕ
x = codes "x"

abbrev y : List ℕ
y = codes "y"

-- a log as a list, with the begins and ends of passages
pub data Mark : Type 0 where
  opens : Passage → Mark
  closes : Mark
  tells : Event → Mark
  touches_at : ℕ → AccessKind → Mark
  stores : ℕ → Option Value → Mark

abbrev marks : Log → List Mark
marks silence = []
marks (single e) = tells e ∷ []
marks (touched p k) = touches_at p k ∷ []
marks (sets p v) = stores p v ∷ []
marks (both a b) = marks a ++ marks b
marks (within p a) = opens p ∷ (marks a ++ closes ∷ [])

abbrev site : ℕ → Site
site m =
    opening_site (declared kind.Index n ∷ declared kind.Index i ∷ declared kind.Ring x ∷ declared kind.Ring y ∷ declared kind.Ring t ∷ [])
    (scalar n ∷ array x m ∷ array y m ∷ []) all_pushed

abbrev with_private : Directive
with_private = record clauses { privates = t ∷ [] }

-- parallel do i = 1, n, with t private
--   t = x(i)*x(i)
--   y(i) = y(i) + t
abbrev squares : Statements
squares = parallel with_private i (one 1) (name n) (statement (set 6 (to t) (at x (name i) times at x (name i))) (only (set 7 (into y (name i)) (at y (name i) plus name t))))

pub one_square : marks (run_all squares (site 1) (number 1 ∷ word 3 ∷ word 10 ∷ None ∷ None ∷ [])).log
    ≡ opens instance
    ∷ opens rounds ∷ opens (iteration 0) ∷ stores 4 None ∷ stores 3 (number 1)
    ∷ opens instance ∷ opens (right_side t) ∷ touches_at 1 Read ∷ touches_at 1 Read ∷ closes
    ∷ tells (pushes None) ∷ stores 4 (word 9) ∷ closes
    ∷ opens instance ∷ opens (right_side y) ∷ closes
    ∷ touches_at 2 Write ∷ stores 2 (word 19) ∷ closes
    ∷ tells (pushes (word 9)) ∷ closes ∷ closes
    ∷ tells (ends 5) ∷ tells (pushes (number 1)) ∷ tells (pushes (number 1)) ∷ tells (pushes (number 1)) ∷ closes ∷ []
unfolding exact_index
one_square = refl

abbrev cells : Cells
cells = number 2 ∷ word 3 ∷ word 5 ∷ word 1 ∷ word 2 ∷ None ∷ None ∷ []

pub squares_replayed : replay (run_all squares (site 2) cells).log cells
    ≡ number 2 ∷ word 3 ∷ word 5 ∷ word 10 ∷ word 27 ∷ number 2 ∷ word 25 ∷ []
unfolding exact_index
squares_replayed = refl

-- parallel do i = 1, n: y(i) = x(i), where y has three elements: the cells where it traps
abbrev copy : Statements
copy = parallel clauses i (one 1) (name n) (only (set 6 (into y (name i)) (at x (name i))))

pub copy_replayed :
    replay
    (run_all copy
    (opening_site (declared kind.Index n ∷ declared kind.Index i ∷ declared kind.Ring x ∷ declared kind.Ring y ∷ []) (scalar n ∷ array x 4 ∷ array y 3 ∷ []) all_pushed)
    (number 4 ∷ word 1 ∷ word 2 ∷ word 3 ∷ word 4 ∷ word 0 ∷ word 0 ∷ word 0 ∷ None ∷ [])).log
    (number 4 ∷ word 1 ∷ word 2 ∷ word 3 ∷ word 4 ∷ word 0 ∷ word 0 ∷ word 0 ∷ None ∷ [])
    ≡ number 4 ∷ word 1 ∷ word 2 ∷ word 3 ∷ word 4 ∷ word 1 ∷ word 2 ∷ word 3 ∷ number 4 ∷ []
unfolding exact_index
copy_replayed = refl

-- the touches of an iteration have its number
pub squares_events : events (run_all squares (site 2) cells).log
    ≡ begins ∷ begins ∷ begins ∷ touches (record { place = 1; iteration = 0; kind = Read }) ∷ touches (record { place = 1; iteration = 0; kind = Read }) ∷ pushes None
    ∷ begins ∷ touches (record { place = 3; iteration = 0; kind = Write }) ∷ pushes (word 9)
    ∷ begins ∷ begins ∷ touches (record { place = 2; iteration = 1; kind = Read }) ∷ touches (record { place = 2; iteration = 1; kind = Read }) ∷ pushes None
    ∷ begins ∷ touches (record { place = 4; iteration = 1; kind = Write }) ∷ pushes (word 25)
    ∷ ends 5 ∷ pushes (number 1) ∷ pushes (number 2) ∷ pushes (number 1) ∷ []
unfolding exact_index
squares_events = refl

-- with four touches allowed, the run stops in the second iteration, before the second touch of x(2)
pub squares_at_stop : cells_at_stop by_conflict (record the_limits { touches = 4 }) (run_all squares (site 2) cells).log cells
    ≡ number 2 ∷ word 3 ∷ word 5 ∷ word 10 ∷ word 2 ∷ number 2 ∷ None ∷ []
unfolding exact_index
squares_at_stop = refl

abbrev squares_told : List Event
squares_told = events (run_all squares (site 2) cells).log

pub squares_ticks : ticks by_conflict (record the_limits { touches = 4 }) squares_told ≡ 6
unfolding exact_index
squares_ticks = refl

-- the statement that passes a limit counts, too
pub squares_ticks_over : ticks by_conflict (record the_limits { statements = 4 }) squares_told ≡ 5
unfolding exact_index
squares_ticks_over = refl

-- where nothing is judged a conflict, the run that has one goes on
abbrev sum : Statements
sum = parallel clauses i (one 1) (name n) (only (set 6 (into y (one 1)) (at y (one 1) plus at x (name i))))

pub sum_conflict : first_stop by_conflict the_limits (events (run_all sum (site 2) cells).log) ≡ conflicted 5 (record { place = 3; first = 0; second = 1 })
unfolding exact_index
sum_conflict = refl

pub sum_unjudged : first_stop (λ line ts. None) the_limits (events (run_all sum (site 2) cells).log) ≡ at_end
unfolding exact_index
sum_unjudged = refl

-- at the conflict y(1) has both terms, and the loop's words are not told yet
pub sum_at_stop : cells_at_stop by_conflict the_limits (run_all sum (site 2) cells).log cells
    ≡ number 2 ∷ word 3 ∷ word 5 ∷ word 9 ∷ word 2 ∷ number 2 ∷ None ∷ []
unfolding exact_index
sum_at_stop = refl

-- do i = 1, n
--   x(i) = x(i)*x(i)
abbrev powers : Statements
powers = only (loop 4 1 None i (one 1) (name n) None (only (set 5 (into x (name i)) (at x (name i) times at x (name i)))))

-- with four statement instances allowed, the run stops in the second turn, whose variable is stored and whose element isn't
pub powers_at_stop : cells_at_stop by_conflict (record the_limits { statements = 4 }) (run_all powers (site 2) cells).log cells
    ≡ number 2 ∷ word 9 ∷ word 5 ∷ word 1 ∷ word 2 ∷ number 2 ∷ None ∷ []
unfolding exact_index
powers_at_stop = refl

-- the tape of the whole run: the old values of x, and the words of the loop
pub powers_tape : tape_words (events (run_all powers (site 2) cells).log) ≡ 3 ∷ 5 ∷ 1 ∷ 2 ∷ 1 ∷ []
unfolding exact_index
powers_tape = refl

-- contents compute from the front
pub content_more : (c : Option Value) (s : Cells) (p : ℕ) → content (c ∷ s) (suc p) ≡ content s p
content_more c s p = refl
