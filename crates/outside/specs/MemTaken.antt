-- A sink in memory.
use Rattle.std.specs.Prelude.{ℕ, List}

-- what it has taken and has room for, the numbers of the calls that are to fail, the calls so far and those that have failed
pub record MemTaken : Type 0 where
  pub taken : List ℕ
  pub room : ℕ
  pub fails : List ℕ
  pub calls : ℕ
  pub faults : ℕ
