-- What holds at each statement that a run reaches, of the cells in which it is run.
use Rattle.std.specs.Prelude.{◌≡◌, ℕ, ◌<◌, ◌/◌, ◌%◌, ℤ, true, false, cond, if◌then◌else◌, List, [], ◌∷◌, Option, Some, None, is_some, Ok}
use Rattle.fl_ast.specs.declared.kind.Kind.{Kind}
use Rattle.fl_ast.specs.declared.kind.Kind.TheVariants as kind
use Rattle.fl_ast.specs.declared.directive.Directive.{Directive}
use Rattle.fl_ast.specs.Tree.{Expression, Designator, Statement, assignment, branch, loop, Statements, no_statements, statement, Arms, no_arms, arm}
use Rattle.fl_types.specs.Increment.{Signed, target_of, increment_terms}
use Rattle.fl_types.specs.Nests.{is_nest, further_head}
use Rattle.meaning.specs.declared.value.Value.{Value}
use Rattle.meaning.specs.declared.value.Value.TheVariants.{Index}
use Rattle.meaning.specs.declared.value.IterationCount.{IterationCount}
use Rattle.meaning.specs.Sites.{Cells, Site, in_turn, in_iteration, place_of, kind_of}
use Rattle.meaning.specs.Expressions.{value_of, holds}
use Rattle.meaning.specs.Statements.{turns_of, value_at, set_at, turns, one_turn, private_names, with_all_unset, Heads, iterations, heads_of, one_iteration, run, run_all, run_inner}
use Rattle.meaning.specs.Fitting.{Fits, IsWellKinded}
use Rattle.meaning.specs.Defined.{IsIndexValue, IsDefined, IsDefinedCondition}

-- the cells with a loop's variable set
abbrev pub cells_with : Site → List ℕ → ℤ → Cells → Cells
cells_with site var z cells = set_at (place_of site var []) (Some (Index z)) cells

-- the cells with the variables set for iteration k
abbrev pub cells_with_heads : Site → Heads → ℕ → Cells → Cells
cells_with_heads site [] k cells = cells
cells_with_heads site (h ∷ []) k cells = cells_with site h.0 (value_at h.1 k) cells
cells_with_heads site (h ∷ g ∷ hs) k cells =
    cells_with_heads site (g ∷ hs) (k % iterations (g ∷ hs)) (cells_with site h.0 (value_at h.1 (k / iterations (g ∷ hs))) cells)

-- the cells in which the body of a parallel loop begins in iteration k
abbrev pub iteration_cells : Site → Directive → List ℕ → Statements → Heads → ℕ → Cells → Cells
iteration_cells site directive var body heads k cells = cells_with_heads site heads k (with_all_unset site (private_names site directive var body) cells)

abbrev pub StatementFact : Type 1
StatementFact = Statement → Site → Cells → Type 0

abbrev mutual
  pub HoldsAtEach : StatementFact → Statement → Site → Cells → Type 0
  HoldsAtEach P (assignment line atomic p e) site cells = P (assignment line atomic p e) site cells
  HoldsAtEach P (branch line arms other) site cells = P (branch line arms other) site cells × HoldsInArms P arms (HoldsAtAll P other) site cells
  HoldsAtEach P (loop line number None var first last step body) site cells =
      P (loop line number None var first last step body) site cells
      × ((t : IterationCount) → (turns_of first last step site cells).out ≡ Ok t →
      (k : ℕ) → k < t.count → (c : Cells) → (turns k (one_turn site var t (run_all body)) cells).out ≡ Ok c →
      HoldsAtAll P body (in_turn site var) (cells_with site var (value_at t k) c))
  HoldsAtEach P (loop line number (Some directive) var first last step body) site cells =
      P (loop line number (Some directive) var first last step body) site cells
      × ((heads : Heads) → (heads_of (record { line = line; var = var; first = first; last = last; step = step }) (further_head directive body) site cells).out ≡ Ok heads →
      (k : ℕ) → k < iterations heads → (c : Cells) →
      (turns k (one_iteration site directive var heads body (if is_nest directive body then run_inner body else run_all body)) cells).out ≡ Ok c →
      cond (is_nest directive body)
      (HoldsInLoop P body (in_iteration site directive var body) (iteration_cells site directive var body heads k c))
      (HoldsAtAll P body (in_iteration site directive var body) (iteration_cells site directive var body heads k c)))

  pub HoldsAtAll : StatementFact → Statements → Site → Cells → Type 0
  HoldsAtAll P no_statements site cells = Unit {0}
  HoldsAtAll P (statement s ss) site cells = HoldsAtEach P s site cells × ((c : Cells) → (run s site cells).out ≡ Ok c → HoldsAtAll P ss site c)

  -- in the arm that is taken
  pub HoldsInArms : StatementFact → Arms → (Site → Cells → Type 0) → Site → Cells → Type 0
  HoldsInArms P no_arms other site cells = other site cells
  HoldsInArms P (arm test body arms) other site cells =
      ((holds test site cells).out ≡ Ok true → HoldsAtAll P body site cells) × ((holds test site cells).out ≡ Ok false → HoldsInArms P arms other site cells)

  -- at the statements of the loop in a body
  pub HoldsInLoop : StatementFact → Statements → Site → Cells → Type 0
  HoldsInLoop P no_statements site cells = Unit {0}
  HoldsInLoop P (statement s ss) site cells = HoldsWithin P s site cells

  pub HoldsWithin : StatementFact → Statement → Site → Cells → Type 0
  HoldsWithin P (assignment line atomic p e) site cells = Unit {0}
  HoldsWithin P (branch line arms other) site cells = Unit {0}
  HoldsWithin P (loop line number directive var first last step body) site cells = HoldsAtAll P body site cells

-- ---- a statement's own evaluations

-- data is never made an index
abbrev pub IsStorable : Kind → Value → Type 0
IsStorable kind.Ring v = Unit {0}
IsStorable kind.Index v = IsIndexValue v

abbrev pub AreDefinedTerms : Site → Cells → List Signed → Type 0
AreDefinedTerms site cells [] = Unit {0}
AreDefinedTerms site cells (r ∷ rs) = IsDefined site cells r.1 × AreDefinedTerms site cells rs

abbrev pub IsDefinedAssignment : Site → Cells → Designator → Expression → Option (List Signed) → Type 0
IsDefinedAssignment site cells p e None =
    IsDefined site cells e × IsDefined site cells (target_of p) × ((v : Value) → (value_of e site cells).out ≡ Ok v → IsStorable (kind_of site p.name) v)
IsDefinedAssignment site cells p e (Some rest) = AreDefinedTerms site cells rest × IsDefined site cells (target_of p) × (kind_of site p.name ≡ kind.Ring)

abbrev pub AreDefinedTests : Site → Cells → Arms → Type 0
AreDefinedTests site cells no_arms = Unit {0}
AreDefinedTests site cells (arm test body arms) = IsDefinedCondition site cells test × AreDefinedTests site cells arms

abbrev pub IsIndexNumber : Site → Cells → Expression → Type 0
IsIndexNumber site cells e = IsDefined site cells e × ((v : Value) → (value_of e site cells).out ≡ Ok v → IsIndexValue v)

abbrev pub IsIndexStep : Site → Cells → Option Expression → Type 0
IsIndexStep site cells None = Unit {0}
IsIndexStep site cells (Some e) = IsIndexNumber site cells e

-- bounds and step are index numbers, and the variable is a scalar of the index kind with a place
pub record IsDefinedLoop (site : Site) (cells : Cells) (var : List ℕ) (low high : Expression) (by : Option Expression) : Type 0 where
  pub first : IsIndexNumber site cells low
  pub last : IsIndexNumber site cells high
  pub step : IsIndexStep site cells by
  pub variable : kind_of site var ≡ kind.Index
  pub placed : is_some (place_of site var []) ≡ true

abbrev pub IsDefinedStatement : StatementFact
IsDefinedStatement (assignment line atomic p e) site cells = IsDefinedAssignment site cells p e (increment_terms site.ring p e)
IsDefinedStatement (branch line arms other) site cells = AreDefinedTests site cells arms
IsDefinedStatement (loop line number directive var first last step body) site cells = IsDefinedLoop site cells var first last step

-- a statement is run in cells that fit, and evaluates only what is defined
abbrev pub IsSound : StatementFact
IsSound s site cells = Fits site cells × IsDefinedStatement s site cells

-- a well-kinded body that starts from fitting cells: so it is at every statement that the run reaches
abbrev pub RunsAreSound : Type 0
RunsAreSound = (body : Statements) (site : Site) (cells : Cells) → IsWellKinded site body → Fits site cells → HoldsAtAll IsSound body site cells
