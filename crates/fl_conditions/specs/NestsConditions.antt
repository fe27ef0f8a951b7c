-- A function value that reads what stands in a bracket of a condition, with so many brackets to open.
use Rattle.std.specs.Prelude.{◌≤◌, ◌<◌, ◌+◌, ◌-◌, ◌^◌, ℕ, Result, IfOk, Some}
use Rattle.std.specs.declared.alloc.Global.{Global}
use denote.Ref.{MutBor}
use Rattle.parsing.specs.declared.cursor.Cursor.{Cursor}
use Rattle.parsing.specs.declared.fault.Failure.{Failure}
use Rattle.parsing.specs.Code.{Reads}
use Rattle.fl_conditions.specs.declared.tree.Mixed.{Mixed}
use Rattle.fl_conditions.specs.declared.tree.Mixed.TheVariants.{Value, Test}
use Rattle.fl_conditions.specs.CondReading.{below_mixed}

-- an expression has so many levels beneath its root at most, and a condition one more
abbrev pub IsShallow : ℕ → Mixed → Type 0
IsShallow d (Value e) = (0 < e.depth) × (e.depth ≤ d + 1)
IsShallow d (Test c) = (0 < c.levels) × (c.levels ≤ d + 1)

pub record NestsConditions (b : ℕ) (pre : Global → MutBor Cursor → ℕ → ℕ → Type 0)
    (post : Global → MutBor Cursor → ℕ → ℕ → Result Mixed Failure → MutBor Cursor → Type 0) : Type 0 where
  pub callable : (alloc : Global) (old : MutBor Cursor) (d : ℕ) → 0 < b → d < 2 ^ 32 → pre alloc old (b - 1) d
  pub reads : (alloc : Global) (old new : MutBor Cursor) (d : ℕ) (r : Result Mixed Failure) → 0 < b → post alloc old (b - 1) d r new
      → Reads (below_mixed b (Some d) old.now) r new.now
  pub depth : (alloc : Global) (old new : MutBor Cursor) (d : ℕ) (r : Result Mixed Failure) → 0 < b → post alloc old (b - 1) d r new
      → IfOk r (IsShallow d)
