-- Derivations: lines, each of which stands for a form that is 0 where the pair's two accesses fall on one place, and a close.
use Rattle.std.specs.Prelude.{ℕ, ℤ, List, Option}

pub data Line : Type 0 where
  -- the pair's difference with a number
  hyp : ℕ → Line
  -- the sum of multiples of lines above
  comb : List (ℤ × ℕ) → Line
  -- two elements of one index array at equal subscripts
  cong : (first second : ℕ) → (lines : List ℕ) → Line

pub data Close : Type 0 where
  distinct : ℕ → Option ℕ → Close
  residue : ℕ → Close
  range : ℕ → Close
  fact : ℕ → List ℕ → Close

pub record Derived : Type 0 where
  pub lines : List Line
  pub close : Close
