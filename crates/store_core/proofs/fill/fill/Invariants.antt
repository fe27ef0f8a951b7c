use Rattle.std.proofs.Common.{◌≡◌, ◌+◌, drop, length}
use Rattle.store_core.specs.Filled.{fitted, written}
use Rattle.store_core.proofs.fill.fill.Given as goal

-- what is left to write makes of the store what all makes of the first one
abbrev pub invariant-loop-k : goal.invariant-loop-k
invariant-loop-k l =
    (written l.store (l.at + l.k) (drop l.k (fitted l.count l.words)) ≡ written l.initial.store l.at (fitted l.count l.words))
    × (length l.store ≡ length l.initial.store)
