use Rattle.std.proofs.Common.{◌≡◌, take, map}
use Rattle.store_core.specs.Filled.{entry_at}
use Rattle.store_core.proofs.layout.Layout.entries.Given as goal

abbrev pub invariant-loop-name : goal.invariant-loop-name
invariant-loop-name l = l.entries ≡ map (entry_at l.self l.words) (take l.name-index l.names)
