use Rattle.std.proofs.Common.{◌≡◌, ◌+◌, drop, take, length}
use Rattle.store_core.specs.Keys.{keys_of}
use Rattle.store_core.specs.Filled.{place_words, written}
use Rattle.store_core.proofs.layout.Layout.fill.Given as goal

-- what is left to write makes of the store what all makes of the first one
abbrev pub invariant-loop-i : goal.invariant-loop-i
invariant-loop-i l =
    (written l.store (l.base + length (keys_of (take l.i l.self))) (place_words (drop l.i l.self) l.entries) ≡ written l.initial.store l.base (place_words l.self l.entries))
    × (length l.store ≡ length l.initial.store)
