use Rattle.std.proofs.Common.{◌≤◌, length, take}
use Rattle.store_core.specs.Keys.{keys_of}
use Rattle.store_core.proofs.layout.Layout.name_of.Given as goal

-- the place comes after those of the slots so far
abbrev pub invariant-loop-slot : goal.invariant-loop-slot
invariant-loop-slot l = length (keys_of (take l.slot l.self)) ≤ l.place
