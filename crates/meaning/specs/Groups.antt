-- The groups of accesses that a run evaluates, in order. A group is what one path holds: an assignment, a condition, a loop's bounds.
use Rattle.std.specs.Prelude.{◌≡◌, ℕ, zero, suc, ◌+◌, Bool, true, if◌then◌else◌, List, [], ◌∷◌, ◌++◌, map, flat_map, Option, Some, None, Result, Ok, Err}
use Rattle.fl_ast.specs.declared.decl.Decl.{Decl}
use Rattle.fl_ast.specs.Tree.{Expression, Designator, Statement, assignment, branch, loop, Statements, no_statements, statement, Arms, no_arms, arm}
use Rattle.fl_types.specs.declared.access.PathStep.{PathStep}
use Rattle.fl_types.specs.declared.access.PathStep.TheVariants.{Arm, Body}
use Rattle.fl_types.specs.Sharing.{is_ring_name, ParallelLoop}
use Rattle.fl_types.specs.Increment.{Signed, increment_terms}
use Rattle.fl_types.specs.Accesses.{Scope, Occurrence, loop_accesses, reads, term_reads, step_reads, condition_reads, accesses, accesses_all, statement_count, statements_count, test_path}
use Rattle.fl_types.specs.Nests.{is_nest, iteration_body}
use Rattle.meaning.specs.declared.value.TrapAt.{TrapAt}
use Rattle.meaning.specs.Logs.{Touch, Log}
use Rattle.meaning.specs.Sites.{Cells, Site, in_turn, in_iteration}
use Rattle.meaning.specs.Expressions.{holds}
use Rattle.meaning.specs.Statements.{Run, turns_of, value_at, turns, one_turn, Heads, one_iteration, run, run_all, run_inner}
use Rattle.meaning.specs.Sequential.{are_sequential}
use Rattle.meaning.specs.Touches.{touches_in, right_touches_in, scope_at, touch_of}
use Rattle.meaning.specs.Reached.{cells_with, iteration_cells}

-- a group with where it stands and the cells in which it is evaluated; of an assignment also the target, and the accesses on the right side
pub record Group : Type 0 where
  pub site : Site
  pub cells : Cells
  pub accesses : List Occurrence
  pub target : List ℕ
  pub right : List Occurrence

-- of a condition or bounds
abbrev pub group_at : Site → Cells → List Occurrence → Group
group_at site cells os = record { site = site; cells = cells; accesses = os; target = []; right = [] }

-- on the right side of an assignment, or in the terms of an increment
abbrev pub right_accesses : Scope → ℕ → List PathStep → Expression → Option (List Signed) → List Occurrence
right_accesses scope line path e None = reads scope line path e
right_accesses scope line path e (Some rest) = term_reads scope line path rest

abbrev pub assignment_group : ℕ → List PathStep → Site → Cells → (line : ℕ) → (atomic : Bool) → Designator → Expression → Group
assignment_group n path site cells line atomic p e = record {
  site = site;
  cells = cells;
  accesses = accesses (scope_at site) n path (assignment line atomic p e);
  target = p.name;
  right = right_accesses (scope_at site) line path e (increment_terms site.ring p e);
}

-- the accesses of a group on the right side of an assignment to one of the names `on`
abbrev pub right_of : (List ℕ → Bool) → Group → List Occurrence
right_of on g = if on g.target then g.right else []

-- the groups that follow where there is a result
abbrev pub groups_from : {X A : Type 0} → Result A X → (A → List Group) → List Group
groups_from (Ok a) f = f a
groups_from (Err x) f = []

-- the groups of the first n turns
abbrev pub groups_of_turns : ℕ → (ℕ → Run) → (ℕ → Cells → List Group) → Cells → List Group
groups_of_turns zero f g cells = []
groups_of_turns (suc n) f g cells = groups_of_turns n f g cells ++ groups_from (turns n f cells).out (g n)

-- of a statement with number n at a path
abbrev mutual
  pub groups_of : ℕ → List PathStep → Statement → Site → Cells → List Group
  groups_of n path (assignment line atomic p e) site cells = assignment_group n path site cells line atomic p e ∷ []
  groups_of n path (branch line arms other) site cells = groups_of_arms line n (n + 1) 0 path arms (λ k steps. groups_of_all k steps other) site cells
  groups_of n path (loop line number directive var first last step body) site cells =
      group_at site cells (reads (scope_at site) line path first ++ (reads (scope_at site) line path last ++ step_reads (scope_at site) line path step))
      ∷ groups_from (turns_of first last step site cells).out
      (λ t. groups_of_turns t.count (one_turn site var t (run_all body))
      (λ k c. groups_of_all (n + 1) (path ++ Body n ∷ []) body (in_turn site var) (cells_with site var (value_at t k) c)) cells)

  pub groups_of_all : ℕ → List PathStep → Statements → Site → Cells → List Group
  groups_of_all n path no_statements site cells = []
  groups_of_all n path (statement s ss) site cells = groups_of n path s site cells ++ groups_from (run s site cells).out (groups_of_all (n + statement_count s) path ss site)

  -- the conditions up to the one that holds, and the arm that is taken
  pub groups_of_arms : (line n k m : ℕ) → List PathStep → Arms → (ℕ → List PathStep → Site → Cells → List Group) → Site → Cells → List Group
  groups_of_arms line n k m path no_arms other site cells = other k (path ++ Arm n m ∷ []) site cells
  groups_of_arms line n k m path (arm test body arms) other site cells =
      group_at site cells (condition_reads (scope_at site) line (test_path path n m) test)
      ∷ groups_from (holds test site cells).out
      (λ b. if b then groups_of_all k (path ++ Arm n m ∷ []) body site cells else groups_of_arms line n (k + statements_count body) (m + 1) path arms other site cells)

-- the touches in iteration k of accesses of the groups, None where one has no place
abbrev pub touches_of_groups : (Group → List Occurrence) → ℕ → List Group → List (Option Touch)
touches_of_groups part k gs = flat_map (λ (g : Group). map (touch_of g.site g.cells k) (part g)) gs

-- a log's touches are those of all accesses of the groups, and those in right sides of those on right sides
pub record AreGroupTouches (i k : ℕ) (l : Log) (gs : List Group) : Type 0 where
  pub all : map Some (touches_in i l) ≡ touches_of_groups (λ g. g.accesses) k gs
  pub right_sides : (on : List ℕ → Bool) → map Some (right_touches_in on i l) ≡ touches_of_groups (right_of on) k gs

-- a list stands in another as it is
pub record IsPiece (os ps : List Occurrence) : Type 0 where
  pub before : List Occurrence
  pub after : List Occurrence
  pub whole : os ≡ before ++ (ps ++ after)

-- each group's accesses stand among these, those on the right side first
abbrev pub ArePieces : List Occurrence → List Group → Type 0
ArePieces os [] = Unit {0}
ArePieces os (g ∷ gs) = IsPiece os g.accesses × IsPiece g.accesses g.right × ArePieces os gs

-- a run of statements without parallel loops touches what the groups that it evaluates access, in order; each group stands among the accesses of the statements
pub record RunTouches (n : ℕ) (path : List PathStep) (body : Statements) (site : Site) (cells : Cells) : Type 0 where
  pub touches : (d : Cells) → (run_all body site cells).out ≡ Ok d → (k : ℕ) → AreGroupTouches k k (run_all body site cells).log (groups_of_all n path body site cells)
  pub groups : ArePieces (accesses_all (scope_at site) n path body) (groups_of_all n path body site cells)

abbrev pub RunsTouch : Type 0
RunsTouch = (n : ℕ) (path : List PathStep) (body : Statements) → are_sequential body ≡ true → (site : Site) (cells : Cells) → RunTouches n path body site cells

-- iteration k of a parallel loop, with the turns of its heads
abbrev pub iteration_of : Site → ParallelLoop → Heads → ℕ → Run
iteration_of site l heads k = one_iteration site l.directive l.var heads l.body (if is_nest l.directive l.body then run_inner l.body else run_all l.body) k

abbrev pub groups_of_iteration : Site → ParallelLoop → Heads → ℕ → Cells → List Group
groups_of_iteration site l heads k cells =
    groups_of_all 1 [] (iteration_body l.directive l.body) (in_iteration site l.directive l.var l.body) (iteration_cells site l.directive l.var l.body heads k cells)

-- an iteration touches what the groups that it evaluates access, in order, whatever iteration is around it; each group stands among the loop's accesses
pub record IterationTouches (decls : List Decl) (site : Site) (l : ParallelLoop) (heads : Heads) (k : ℕ) (cells : Cells) : Type 0 where
  pub touches : (d : Cells) → (iteration_of site l heads k cells).out ≡ Ok d → (i : ℕ) → AreGroupTouches i k (iteration_of site l heads k cells).log (groups_of_iteration site l heads k cells)
  pub groups : ArePieces (loop_accesses decls l) (groups_of_iteration site l heads k cells)

-- of a loop without another parallel loop in it, where a run comes to it: the loops around it are those of the site, which has the kinds of the declarations
abbrev pub IterationsTouch : Type 0
IterationsTouch =
    (decls : List Decl) (site : Site) (l : ParallelLoop) → site.outer ≡ l.outer → site.ring ≡ is_ring_name decls → are_sequential (iteration_body l.directive l.body) ≡ true →
    (heads : Heads) (k : ℕ) (cells : Cells) → IterationTouches decls site l heads k cells

abbrev pub touches_from : Result Cells TrapAt → (Cells → List (Option Touch)) → List (Option Touch)
touches_from (Ok cells) f = f cells
touches_from (Err t) f = []

-- those of the first n iterations, each in the cells that the ones before it leave
abbrev pub touches_of_iterations : (Group → List Occurrence) → Site → ParallelLoop → Heads → ℕ → Cells → List (Option Touch)
touches_of_iterations part site l heads zero cells = []
touches_of_iterations part site l heads (suc n) cells =
    touches_of_iterations part site l heads n cells
    ++ touches_from (turns n (iteration_of site l heads) cells).out (λ c. touches_of_groups part n (groups_of_iteration site l heads n c))

-- so do the iterations of a parallel loop together, each with its number
abbrev pub LoopsTouch : Type 0
LoopsTouch =
    (site : Site) (l : ParallelLoop) → are_sequential (iteration_body l.directive l.body) ≡ true → (heads : Heads) (n : ℕ) (cells d : Cells) → (turns n (iteration_of site l heads) cells).out ≡ Ok d → (i : ℕ) →
    (map Some (touches_in i (turns n (iteration_of site l heads) cells).log) ≡ touches_of_iterations (λ g. g.accesses) site l heads n cells)
    × ((on : List ℕ → Bool) → map Some (right_touches_in on i (turns n (iteration_of site l heads) cells).log) ≡ touches_of_iterations (right_of on) site l heads n cells)
