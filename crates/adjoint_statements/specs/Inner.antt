-- A function value that reads the statements of a block, in which so many blocks may stand in each other.
use Rattle.std.specs.Prelude.{◌<◌, ◌-◌, ℕ, Bool, Result}
use Rattle.std.specs.declared.alloc.Global.{Global}
use denote.Ref.{MutBor}
use Rattle.parsing.specs.declared.cursor.Cursor.{Cursor}
use Rattle.parsing.specs.declared.fault.Failure.{Failure}
use Rattle.parsing.specs.Code.{Reads}
use Rattle.adjoint_statements.specs.declared.block.Block.{Block}
use Rattle.adjoint_statements.specs.declared.room.Room as code
use Rattle.adjoint_statements.specs.Rooms.{limits_of}
use Rattle.adjoint_statements.specs.AdjointStmtReading.{nested}

pub record ReadsInner (room : code.Room) (n : ℕ) (pre : Global → MutBor Cursor → code.Room → ℕ → Bool → Block → Type 0)
    (post : Global → MutBor Cursor → code.Room → ℕ → Bool → Block → Result Block Failure → MutBor Cursor → Type 0) : Type 0 where
  pub callable : (alloc : Global) (old : MutBor Cursor) (inside : Bool) (c : Block) → 0 < n → pre alloc old room (n - 1) inside c
  pub reads : (alloc : Global) (old new : MutBor Cursor) (inside : Bool) (c : Block) (r : Result Block Failure) → 0 < n →
      post alloc old room (n - 1) inside c r new → Reads (nested (limits_of room) n inside c old.now) r new.now
