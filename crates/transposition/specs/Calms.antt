-- A run in which no parallel loop has a conflict.
use Rattle.std.specs.Prelude.{◌≡◌, ◌≢◌, ℕ, ◌<◌, Bool, cond, List, [], Some, None, Result, Ok, Err}
use Rattle.fl_ast.specs.declared.directive.Directive.{Directive}
use Rattle.fl_ast.specs.Tree.{Statement, assignment, branch, loop, Statements, no_statements, statement, Arms, no_arms, arm}
use Rattle.fl_types.specs.Nests.{further_head, iteration_body}
use Rattle.meaning.specs.declared.value.Value.TheVariants.{Index}
use Rattle.meaning.specs.declared.value.IterationCount.{IterationCount}
use Rattle.meaning.specs.Logs.{Log, silence, single, touched, sets, both, within}
use Rattle.meaning.specs.Sites.{Cells, Site, place_of}
use Rattle.meaning.specs.Expressions.{holds}
use Rattle.meaning.specs.Statements.{Run, turns, turns_of, value_at, set_at, one_turn, Heads, iterations, heads_of, one_iteration, run, run_all}
use Rattle.transposition.specs.Worlds.{World, in_turn, in_iteration}
use Rattle.transposition.specs.Law.{Calm}

-- the cells before turn n, and what is told in it
abbrev pub cells_of : {X : Type 0} → Result Cells X → Cells
cells_of (Ok c) = c
cells_of (Err x) = []

abbrev pub state_at : (ℕ → Run) → Cells → ℕ → Cells
state_at f s n = cells_of (turns n f s).out

abbrev pub inner_of : Log → Log
inner_of (within p a) = a
inner_of silence = silence
inner_of (single e) = silence
inner_of (touched p kind) = silence
inner_of (sets p v) = silence
inner_of (both a b) = silence

abbrev pub log_at : (ℕ → Run) → Cells → ℕ → Log
log_at f s n = inner_of (f n (state_at f s n)).log

-- what a parallel loop's iteration tells, the iterations before it having run
abbrev pub iteration_log : Site → Directive → List ℕ → Heads → Statements → Cells → ℕ → Log
iteration_log site directive var heads body s i = log_at (one_iteration site directive var heads body (run_all (iteration_body directive body))) s i

-- what two iterations tell, in the world of their loop
abbrev pub OfLogs : Type 1
OfLogs = World → Log → Log → Type 0

abbrev mutual
  -- any two iterations of each parallel loop that runs are so
  pub Pairwise : OfLogs → Statement → World → Cells → Type 0
  Pairwise P (assignment line atomic p e) w s = Unit {0}
  Pairwise P (branch line arms other) w s = PairwiseArms P arms (PairwiseAll P other w s) w s
  Pairwise P (loop line number None var first last step body) w s =
      (t : IterationCount) → (turns_of first last step w.site s).out ≡ Ok t → (k : ℕ) → k < t.count → (s1 : Cells) → (turns k (one_turn w.site var t (run_all body)) s).out ≡ Ok s1
      → PairwiseAll P body (in_turn w var) (set_at (place_of w.site var []) (Some (Index (value_at t k))) s1)
  Pairwise P (loop line number (Some directive) var first last step body) w s =
      (heads : Heads) → (heads_of (record { line = line; var = var; first = first; last = last; step = step }) (further_head directive body) w.site s).out ≡ Ok heads
      → (i j : ℕ) → i < iterations heads → j < iterations heads → i ≢ j
      → P (in_iteration w number directive var body) (iteration_log w.site directive var heads body s i) (iteration_log w.site directive var heads body s j)

  pub PairwiseAll : OfLogs → Statements → World → Cells → Type 0
  PairwiseAll P no_statements w s = Unit {0}
  PairwiseAll P (statement x xs) w s = Pairwise P x w s × ((s1 : Cells) → (run x w.site s).out ≡ Ok s1 → PairwiseAll P xs w s1)

  pub PairwiseArms : OfLogs → Arms → Type 0 → World → Cells → Type 0
  PairwiseArms P no_arms C w s = C
  PairwiseArms P (arm test body arms) C w s = (p : Bool) → (holds test w.site s).out ≡ Ok p → cond p (PairwiseAll P body w s) (PairwiseArms P arms C w s)

abbrev pub IsCalm : Statement → World → Cells → Type 0
IsCalm x w s = Pairwise Calm x w s

abbrev pub IsCalmAll : Statements → World → Cells → Type 0
IsCalmAll xs w s = PairwiseAll Calm xs w s

abbrev pub IsCalmArms : Arms → Type 0 → World → Cells → Type 0
IsCalmArms arms C w s = PairwiseArms Calm arms C w s

-- without parallel loops, as the body of one is
abbrev mutual
  pub IsFlat : Statement → Type 0
  IsFlat (assignment line atomic p e) = Unit {0}
  IsFlat (branch line arms other) = AreFlatArms arms × AreFlat other
  IsFlat (loop line number None var first last step body) = AreFlat body
  IsFlat (loop line number (Some directive) var first last step body) = ⊥

  pub AreFlat : Statements → Type 0
  AreFlat no_statements = Unit {0}
  AreFlat (statement x xs) = IsFlat x × AreFlat xs

  pub AreFlatArms : Arms → Type 0
  AreFlatArms no_arms = Unit {0}
  AreFlatArms (arm test body arms) = AreFlat body × AreFlatArms arms
