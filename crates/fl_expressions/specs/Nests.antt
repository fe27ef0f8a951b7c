-- A function value that reads expressions, with so many brackets to open.
use Rattle.std.specs.Prelude.{◌≤◌, ◌<◌, ◌+◌, ◌-◌, ◌^◌, ℕ, Result, IfOk, Some}
use Rattle.std.specs.declared.alloc.Global.{Global}
use denote.Ref.{MutBor}
use Rattle.parsing.specs.declared.cursor.Cursor.{Cursor}
use Rattle.parsing.specs.declared.fault.Failure.{Failure}
use Rattle.parsing.specs.Code.{Reads}
use Rattle.fl_expressions.specs.declared.tree.Measured.{Measured}
use Rattle.fl_expressions.specs.ExprReading.{below}

pub record Nests (b : ℕ) (pre : Global → MutBor Cursor → ℕ → ℕ → Type 0)
    (post : Global → MutBor Cursor → ℕ → ℕ → Result Measured Failure → MutBor Cursor → Type 0) : Type 0 where
  pub callable : (alloc : Global) (old : MutBor Cursor) (d : ℕ) → 0 < b → d < 2 ^ 32 → pre alloc old (b - 1) d
  pub reads : (alloc : Global) (old new : MutBor Cursor) (d : ℕ) (r : Result Measured Failure) → 0 < b → post alloc old (b - 1) d r new
      → Reads (below b (Some d) old.now) r new.now
  pub depth : (alloc : Global) (old new : MutBor Cursor) (d : ℕ) (r : Result Measured Failure) → 0 < b → post alloc old (b - 1) d r new
      → IfOk r (λ e. (0 < e.depth) × (e.depth ≤ d + 1))
