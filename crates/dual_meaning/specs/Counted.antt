-- Runs of which only the statement instances and the trap are looked at, and that may have so many instances and no more.
use Rattle.std.specs.Prelude.{ℕ, ◌≡◌, zero, suc, ◌+◌, ◌-◌, Bool, true, false, List, [], ◌∷◌, Option, Some, None, Result, Ok, Err}
use Rattle.fl_ast.specs.Tree.{Statement, assignment, branch, loop, Statements, no_statements, statement, Arms, no_arms, arm}
use Rattle.fl_types.specs.Increment.{increment_terms}
use Rattle.fl_types.specs.Nests.{Head, is_nest, further_head}
use Rattle.meaning.specs.declared.value.Cause.{Cause}
use Rattle.meaning.specs.declared.value.TrapAt.{TrapAt}
use Rattle.meaning.specs.declared.value.IterationCount.{IterationCount}
use Rattle.meaning.specs.Logs.{begins, touches, pushes, ends, traps, Passage, instance, right_side, rounds, turn, iteration, condition, taken, Log, silence, single, touched, sets, both, within, events, Traced}
use Rattle.meaning.specs.Sites.{Cells, Site}
use Rattle.meaning.specs.Expressions.{holds}
use Rattle.meaning.specs.Statements.{assignment_by, turns_of, value_at, private_names, with_all_unset, Heads, iterations}
use Rattle.meaning.specs.Reached.{cells_with, cells_with_heads}
use Rattle.meaning.specs.Stops.{Stop, at_end, trapped, over_statements, over_touches, over_words, conflicted, by_conflict, the_limits, first_stop, ticks, statements_and_traps}

-- a value or the stop, and how many statement instances may still begin
abbrev pub Counted : Type 0 → Type 0
Counted A = Result A Stop × ℕ

-- what follows a value
abbrev pub going : {A B : Type 0} → Result A Stop → ℕ → (A → ℕ → Counted B) → Counted B
going (Ok a) n f = f a n
going (Err s) n f = (Err s, n)

abbrev pub followed : {A B : Type 0} → Counted A → (A → ℕ → Counted B) → Counted B
followed t f = going t.0 t.1 f

-- a statement instance begins, where one may still
abbrev pub begun : {A : Type 0} → ℕ → (ℕ → Counted A) → Counted A
begun zero f = (Err over_statements, 0)
begun (suc n) f = f n

-- ---- what is seen of a log

abbrev pub opened : {A : Type 0} → Passage → ℕ → (ℕ → Counted A) → Counted A
opened instance n f = begun n f
opened (right_side x) n f = f n
opened rounds n f = f n
opened (turn k) n f = begun n f
opened (iteration k) n f = begun n f
opened (condition m) n f = f n
opened (taken m) n f = f n

abbrev pub seen : Log → ℕ → Counted (Unit {0})
seen silence n = (Ok tt, n)
seen (single begins) n = begun n (λ m. (Ok tt, m))
seen (single (touches t)) n = (Ok tt, n)
seen (single (pushes v)) n = (Ok tt, n)
seen (single (ends line)) n = (Ok tt, n)
seen (single (traps t)) n = (Err (trapped t), n)
seen (touched p kind) n = (Ok tt, n)
seen (sets p v) n = (Ok tt, n)
seen (both a b) n = followed (seen a n) (λ u m. seen b m)
seen (within p a) n = opened p n (λ m. seen a m)

abbrev pub ended : {A : Type 0} → Result A TrapAt → ℕ → Counted A
ended (Ok a) n = (Ok a, n)
ended (Err t) n = (Err (trapped t), n)

-- a run's value, behind what is seen of its log
abbrev pub counted : {A : Type 0} → Traced TrapAt A → ℕ → Counted A
counted t n = followed (seen t.log n) (λ u m. ended t.out m)

-- ---- the same from the tree, at one site: what is seen of a run doesn't depend on the loops around it

abbrev pub CountedRun : Type 0
CountedRun = Cells → ℕ → Counted Cells

-- a cause in a statement at a line
abbrev pub lined : {A : Type 0} → ℕ → Result A Cause → Result A TrapAt
lined line (Ok a) = Ok a
lined line (Err c) = Err (record { line = line; cause = c })

-- the first n turns
abbrev pub counted_turns : ℕ → (ℕ → CountedRun) → CountedRun
counted_turns zero f cells left = (Ok cells, left)
counted_turns (suc n) f cells left = followed (counted_turns n f cells left) (f n)

abbrev pub counted_turn : Site → List ℕ → IterationCount → CountedRun → ℕ → CountedRun
counted_turn site var t body k cells left = begun left (body (cells_with site var (value_at t k) cells))

abbrev pub counted_iteration : Site → List (List ℕ) → Heads → CountedRun → ℕ → CountedRun
counted_iteration site privates heads body k cells left = begun left (body (cells_with_heads site heads k (with_all_unset site privates cells)))

-- a loop's variable with its turns, before those of the loops in it
abbrev pub headed : List ℕ → Result IterationCount TrapAt → Result Heads TrapAt → Result Heads TrapAt
headed var (Ok t) (Ok hs) = Ok ((var, t) ∷ hs)
headed var (Ok t) (Err x) = Err x
headed var (Err x) r = Err x

abbrev pub turns_at : Head → Site → Cells → Result IterationCount TrapAt
turns_at h site cells = lined h.line (turns_of h.first h.last h.step site cells).out

-- the heads of a parallel loop and of the one that is collapsed with it
abbrev pub counted_heads : Head → Option Head → Site → Cells → Result Heads TrapAt
counted_heads h None site cells = headed h.var (turns_at h site cells) (Ok [])
counted_heads h (Some g) site cells = headed h.var (turns_at h site cells) (headed g.var (turns_at g site cells) (Ok []))

abbrev pub chosen : Bool → CountedRun → CountedRun → CountedRun
chosen true f g = f
chosen false f g = g

-- a statement whose instance has begun
abbrev mutual
  pub counted_begun : Statement → Site → CountedRun
  counted_begun (assignment line atomic p e) site cells left = ended (lined line (assignment_by site cells atomic p e (increment_terms site.ring p e)).out) left
  counted_begun (branch line arms other) site cells left = counted_arms arms line (counted_all other site) site cells left
  counted_begun (loop line number None var first last step body) site cells left =
      followed (ended (turns_at (record { line = line; var = var; first = first; last = last; step = step }) site cells) left)
      (λ t. counted_turns t.count (counted_turn site var t (counted_all body site)) cells)
  counted_begun (loop line number (Some directive) var first last step body) site cells left =
      followed (ended (counted_heads (record { line = line; var = var; first = first; last = last; step = step }) (further_head directive body) site cells) left)
      (λ heads. counted_turns (iterations heads)
      (counted_iteration site (private_names site directive var body) heads (chosen (is_nest directive body) (counted_inner body site) (counted_all body site))) cells)

  pub counted_all : Statements → Site → CountedRun
  counted_all no_statements site cells left = (Ok cells, left)
  counted_all (statement s ss) site cells left = followed (begun left (counted_begun s site cells)) (counted_all ss site)

  -- the statements of the loop in a body
  pub counted_inner : Statements → Site → CountedRun
  counted_inner no_statements site cells left = (Ok cells, left)
  counted_inner (statement s ss) site cells left = counted_within s site cells left

  pub counted_within : Statement → Site → CountedRun
  counted_within (assignment line atomic p e) site cells left = (Ok cells, left)
  counted_within (branch line arms other) site cells left = (Ok cells, left)
  counted_within (loop line number directive var first last step body) site cells left = counted_all body site cells left

  -- the first arm whose condition holds, or the statements after all of them
  pub counted_arms : Arms → (line : ℕ) → CountedRun → Site → CountedRun
  counted_arms no_arms line other site cells left = other cells left
  counted_arms (arm test body arms) line other site cells left =
      followed (ended (lined line (holds test site cells).out) left) (λ p. chosen p (counted_all body site) (counted_arms arms line other site) cells)

abbrev pub counted_run : Statement → Site → CountedRun
counted_run s site cells left = begun left (counted_begun s site cells)

-- ---- what a count says of the first stop and the ticks

-- one more, where it was a statement instance that there was no room for
abbrev pub overs : Stop → ℕ
overs at_end = 0
overs (trapped t) = 0
overs over_statements = 1
overs over_touches = 0
overs over_words = 0
overs (conflicted line clash) = 0

-- a run has this outcome where statement instances and traps alone are looked at, m of 2^24 instances being left
abbrev pub EndsBy : Traced TrapAt Cells → Result Cells Stop → ℕ → Type 0
EndsBy t (Ok cells) m =
    (t.out ≡ Ok cells) × (first_stop by_conflict the_limits (statements_and_traps (events t.log)) ≡ at_end)
    × (ticks by_conflict the_limits (statements_and_traps (events t.log)) ≡ 16777216 - m)
EndsBy t (Err s) m =
    (first_stop by_conflict the_limits (statements_and_traps (events t.log)) ≡ s)
    × (ticks by_conflict the_limits (statements_and_traps (events t.log)) ≡ (16777216 - m) + overs s)

abbrev pub EndsAs : Traced TrapAt Cells → Counted Cells → Type 0
EndsAs t c = EndsBy t c.0 c.1
