use Rattle.std.proofs.Common.{◌≡◌, drop}
use Rattle.meaning.specs.Sites.{Cells}
use Rattle.resolved.specs.SlotTables.{table_site}
use Rattle.resolved.specs.ResolvedExprs.{slot_name}
use Rattle.resolved.specs.ResolvedStmts.{statements_back}
use Rattle.dual_meaning.specs.Running.{unset_places, unset_privates}
use Rattle.dual_meaning.proofs.privates.private_places.Given as goal

abbrev pub invariant-loop-name : goal.invariant-loop-name
invariant-loop-name l =
    (cells : Cells) → unset_privates (table_site l.table) l.directive (slot_name l.table.0 l.variable) (statements_back l.table.0 l.body) (drop l.name-index l.table.3) (unset_places l.places.items cells)
    ≡ unset_privates (table_site l.table) l.directive (slot_name l.table.0 l.variable) (statements_back l.table.0 l.body) l.table.3 cells
