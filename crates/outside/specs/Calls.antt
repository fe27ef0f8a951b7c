-- Calls that are counted.
use Rattle.std.specs.Prelude.{ℕ, ◌+◌, ◌-◌, ◌^◌, min}

-- the count after one more call; it stays at the end of its type
abbrev pub next : ℕ → ℕ
next calls = min (calls + 1) (2 ^ 64 - 1)
