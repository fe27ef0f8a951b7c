use Rattle.std.proofs.Common.{◌≡◌, [], ◌++◌, length, take, drop}
use Rattle.store_core.specs.Keys.{keys_of}
use Rattle.resolved.specs.SlotTables.{named_kind}
use Rattle.dual_meaning.specs.Tangents.{shape_cells}
use Rattle.forward_run.proofs.entry.cells_by.Given as goal

abbrev pub invariant-loop-i : goal.invariant-loop-i
invariant-loop-i l =
    l.cells.items ++ shape_cells (named_kind l.decls) l.args l.words [] (length (keys_of (take l.i l.table.0))) (drop l.i l.table.0) ≡ shape_cells (named_kind l.decls) l.args l.words [] 0 l.table.0
