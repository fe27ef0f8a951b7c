-- Operations of every kind, computed from the opening words and a tape.
use Rattle.std.specs.Prelude.{ℕ, ◌+◌, ◌*◌, List, [], ◌∷◌, slice_index}
use Rattle.operations.specs.declared.op.Op.{Op}
use Rattle.operations.specs.declared.op.Op.TheVariants.{Load, Store, Bump, Add}
use Rattle.operations.specs.Order.{chunk}

-- iteration i adds the tape's word to the cell 2 i, stores its old word beside it, and adds that to the cell s
abbrev pub iteration : List ℕ → List ℕ → ℕ → ℕ → List Op
iteration xs ts s i = Load (2 * i) ∷ Bump (2 * i) (slice_index ts i) ∷ Store (2 * i + 1) (slice_index xs (2 * i)) ∷ Add s (slice_index xs (2 * i)) ∷ []

-- a chunk is two iterations
abbrev pub chunk_of : List ℕ → List ℕ → ℕ → ℕ → List Op
chunk_of xs ts s k = chunk (iteration xs ts s) (2 * k) 2
