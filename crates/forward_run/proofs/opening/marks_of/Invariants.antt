use Rattle.std.proofs.Common.{◌≡◌, ◌++◌, map, drop}
use Rattle.fl_types.specs.Sharing.{has_name}
use Rattle.store_core.specs.declared.layout.Shape.{Shape}
use Rattle.forward_run.proofs.opening.marks_of.Given as goal

abbrev pub invariant-loop-shape : goal.invariant-loop-shape
invariant-loop-shape l = l.marks ++ map (λ (s : Shape). has_name s.name l.names) (drop l.shape-index l.shape-items) ≡ map (λ (s : Shape). has_name s.name l.names) l.table.0
