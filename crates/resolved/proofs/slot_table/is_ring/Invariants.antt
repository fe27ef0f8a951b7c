use Rattle.std.proofs.Common.{◌≡◌, drop}
use Rattle.fl_types.specs.Sharing.{is_ring_name}
use Rattle.resolved.proofs.slot_table.is_ring.Given as goal

abbrev pub invariant-loop-decl : goal.invariant-loop-decl
invariant-loop-decl l = is_ring_name l.decls l.name ≡ is_ring_name (drop l.decl-index l.decls) l.name
