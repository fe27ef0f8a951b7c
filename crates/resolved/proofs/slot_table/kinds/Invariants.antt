use Rattle.std.proofs.Common.{◌≡◌, ◌++◌, drop}
use Rattle.resolved.specs.SlotTables.{kinds_of}
use Rattle.resolved.proofs.slot_table.kinds.Given as goal

abbrev pub invariant-loop-shape : goal.invariant-loop-shape
invariant-loop-shape l = kinds_of l.decls l.shapes ≡ l.kinds.items ++ kinds_of l.decls (drop l.shape-index l.shapes)
