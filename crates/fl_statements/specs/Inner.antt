-- A function value that reads the statements of a block, in which so many blocks may stand in each other.
use Rattle.std.specs.Prelude.{◌≤◌, ◌<◌, ◌-◌, ℕ, Bool, Result, IfOk}
use Rattle.std.specs.declared.alloc.Global.{Global}
use denote.Ref.{MutBor}
use Rattle.parsing.specs.declared.cursor.Cursor.{Cursor}
use Rattle.parsing.specs.declared.fault.Failure.{Failure}
use Rattle.parsing.specs.Code.{Reads}
use Rattle.fl_statements.specs.declared.block.Block.{Block}
use Rattle.fl_statements.specs.declared.limit.Limits as code
use Rattle.fl_statements.specs.Limits.{limits_of}
use Rattle.fl_statements.specs.StmtReading.{nested}

pub record ReadsInner (limits : code.Limits) (n : ℕ) (pre : Global → MutBor Cursor → code.Limits → ℕ → Bool → Block → Type 0)
    (post : Global → MutBor Cursor → code.Limits → ℕ → Bool → Block → Result Block Failure → MutBor Cursor → Type 0) : Type 0 where
  pub callable : (alloc : Global) (old : MutBor Cursor) (inside : Bool) (c : Block) → 0 < n → c.loops ≤ c.count → pre alloc old limits (n - 1) inside c
  pub reads : (alloc : Global) (old new : MutBor Cursor) (inside : Bool) (c : Block) (r : Result Block Failure) → 0 < n →
      post alloc old limits (n - 1) inside c r new → Reads (nested (limits_of limits) n inside c old.now) r new.now
  pub few : (alloc : Global) (old new : MutBor Cursor) (inside : Bool) (c : Block) (r : Result Block Failure) → 0 < n →
      post alloc old limits (n - 1) inside c r new → IfOk r (λ x. x.loops ≤ x.count)
