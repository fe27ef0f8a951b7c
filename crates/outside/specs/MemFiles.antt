-- A folder in memory.
use Rattle.std.specs.Prelude.{ℕ, List, Vec}
use Rattle.std.specs.declared.alloc.Global.{Global}

-- its files, the numbers of the calls that are to fail, the calls so far and those that have failed
pub record MemFiles : Type 0 where
  pub files : List (List ℕ × Vec ℕ Global)
  pub fails : List ℕ
  pub calls : ℕ
  pub faults : ℕ
