use Rattle.std.proofs.Common.{◌≡◌, ◌+◌, drop, option_map}
use Rattle.store_core.specs.Keys.{slot_of}
use Rattle.store_core.proofs.layout.slot_among.Given as goal

-- the name isn't among those before i
abbrev pub invariant-loop-i : goal.invariant-loop-i
invariant-loop-i l = option_map (λ k. l.i + k) (slot_of (drop l.i l.shapes) l.name) ≡ slot_of l.shapes l.name
