-- Races among the operations that iterations have made.
use Rattle.std.specs.Prelude.{◌≡◌, ℕ, ◌+◌, ◌-◌, ◌<◌, ◌≤◌, ◌⊎◌, false, List, length, take, Option, Some, None, Contains}
use Rattle.operations.specs.declared.op.Op.{Op}
use Rattle.operations.specs.Ops.{cell_of, may_meet}
use Rattle.operations.specs.Order.{chunk}

-- what the j-th iteration of a chunk has made, where the chunk has come to the position `at`
abbrev pub ops_made : (ℕ → List Op) → ℕ → ℕ → ℕ → List Op
ops_made its first at j = take (at - length (chunk its first j)) (its (first + j))

-- two iterations below n have made operations on cell p that may not meet
pub record Races (made : ℕ → List Op) (n p i j : ℕ) : Type 0 where
  pub order : i < j
  pub below : j < n
  pub first : Op
  pub second : Op
  pub first_made : Contains (made i) first
  pub second_made : Contains (made j) second
  pub first_cell : cell_of first ≡ p
  pub second_cell : cell_of second ≡ p
  pub meet : may_meet first second ≡ false

-- by the cell, and then by the first and the second iteration
abbrev pub ComesFirst : ℕ → ℕ → ℕ → ℕ → ℕ → ℕ → Type 0
ComesFirst p i j q k l = (p < q) ⊎ ((p ≡ q) × ((i < k) ⊎ ((i ≡ k) × (j ≤ l))))

-- the race that is told: the first of all, or that there is none
abbrev pub IsToldRace : (ℕ → List Op) → ℕ → Option (ℕ × ℕ × ℕ) → Type 0
IsToldRace made n None = (q k l : ℕ) → Races made n q k l → ⊥
IsToldRace made n (Some r) = Races made n r.0 r.1 r.2 × ((q k l : ℕ) → Races made n q k l → ComesFirst r.0 r.1 r.2 q k l)
