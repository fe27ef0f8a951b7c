-- Accesses of which one writes, in different iterations of a run without a conflict.
use Rattle.std.specs.Prelude.{◌≡◌, ◌≢◌, ◌⊎◌, ℕ, ◌<◌, true, List, [], ◌∷◌, Option, None, Some, Ok}
use Rattle.fl_types.specs.declared.access.AccessKind.TheVariants.{Write}
use Rattle.fl_types.specs.Accesses.{Occurrence}
use Rattle.fl_types.specs.Nests.{iteration_body}
use Rattle.fl_types.specs.Sharing.{ParallelLoop}
use Rattle.meaning.specs.Sites.{Cells, Site}
use Rattle.meaning.specs.Statements.{Heads, iterations, turns}
use Rattle.meaning.specs.Sequential.{are_sequential}
use Rattle.meaning.specs.Conflicts.{conflict}
use Rattle.meaning.specs.Touches.{touches_in, designated_place}
use Rattle.meaning.specs.Groups.{Group, iteration_of, groups_of_iteration}

abbrev pub In : {A : Type 0} → A → List A → Type 0
In x [] = ⊥
In x (y ∷ ys) = (y ≡ x) ⊎ In x ys

-- a run of a parallel loop, without another one in it, that came to its end without a conflict
pub record FreeRun (site : Site) (l : ParallelLoop) (heads : Heads) (cells : Cells) : Type 0 where
  pub sequential : are_sequential (iteration_body l.directive l.body) ≡ true
  pub end : Cells
  pub ran : (turns (iterations heads) (iteration_of site l heads) cells).out ≡ Ok end
  pub free : conflict (touches_in 0 (turns (iterations heads) (iteration_of site l heads) cells).log) ≡ None

-- an access that iteration k evaluates: one of a group that the iteration comes to
pub record Evaluated (site : Site) (l : ParallelLoop) (heads : Heads) (cells : Cells) (k : ℕ) : Type 0 where
  pub within : k < iterations heads
  pub before : Cells
  pub reached : (turns k (iteration_of site l heads) cells).out ≡ Ok before
  pub group : Group
  pub comes : In group (groups_of_iteration site l heads k before)
  pub access : Occurrence
  pub stands : In access group.accesses

-- where it falls
abbrev pub place_in : (site : Site) (l : ParallelLoop) (heads : Heads) (cells : Cells) (k : ℕ) → Evaluated site l heads cells k → Option ℕ
place_in site l heads cells k e = designated_place e.group.site e.group.cells e.access.place

-- an access of one iteration and another of another, of which one writes, never fall on one place
abbrev pub FactsHold : Type 0
FactsHold =
    (site : Site) (l : ParallelLoop) (heads : Heads) (cells : Cells) → FreeRun site l heads cells →
    (i j : ℕ) → i ≢ j → (a : Evaluated site l heads cells i) (b : Evaluated site l heads cells j) → (a.access.kind ≡ Write) ⊎ (b.access.kind ≡ Write) →
    (p : ℕ) → place_in site l heads cells i a ≡ Some p → place_in site l heads cells j b ≡ Some p → ⊥
