-- One cell of a list: the word that operations leave there, of one list and of several.
use Rattle.std.specs.Prelude.{ℕ, zero, suc, ◌+◌, ◌==◌, ◌||◌, if◌then◌else◌, Bool, false, List, [], ◌∷◌, take}
use Rattle.ring_core.specs.Ring.{ring_add}
use Rattle.operations.specs.declared.op.Op.{Op}
use Rattle.operations.specs.declared.op.Op.TheVariants.{Load, Store, Bump, Add}
use Rattle.operations.specs.Ops.{cell_of}

-- the word that an operation leaves in its cell
abbrev pub word_by : Op → ℕ → ℕ
word_by (Load p) x = x
word_by (Store p v) x = v
word_by (Bump p a) x = ring_add x a
word_by (Add p a) x = ring_add x a

-- the word of cell p after operations
abbrev pub word_after : ℕ → List Op → ℕ → ℕ
word_after p [] x = x
word_after p (o ∷ os) x = word_after p os (if p == cell_of o then word_by o x else x)

-- the word of cell p after the first `at k` operations of each list k below n
abbrev pub joint_word : ℕ → (ℕ → List Op) → (ℕ → ℕ) → ℕ → ℕ → ℕ
joint_word p ops at zero x = x
joint_word p ops at (suc n) x = word_after p (take (at n) (ops n)) (joint_word p ops at n x)

abbrev pub stores_to : ℕ → Op → Bool
stores_to p (Load q) = false
stores_to p (Store q v) = p == q
stores_to p (Bump q a) = p == q
stores_to p (Add q a) = false

-- one of the operations stores or bumps cell p
abbrev pub is_stored : ℕ → List Op → Bool
is_stored p [] = false
is_stored p (o ∷ os) = stores_to p o || is_stored p os

-- what is added to cell p
abbrev pub amounts : ℕ → List Op → ℕ
amounts p [] = 0
amounts p (Load q ∷ os) = amounts p os
amounts p (Store q v ∷ os) = amounts p os
amounts p (Bump q a ∷ os) = amounts p os
amounts p (Add q a ∷ os) = (if p == q then a else 0) + amounts p os

abbrev pub joint_amounts : ℕ → (ℕ → List Op) → (ℕ → ℕ) → ℕ → ℕ
joint_amounts p ops at zero = 0
joint_amounts p ops at (suc n) = joint_amounts p ops at n + amounts p (take (at n) (ops n))
