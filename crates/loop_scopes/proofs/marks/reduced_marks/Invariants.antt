use Rattle.std.proofs.Common.{◌≡◌, ◌++◌, drop}
use Rattle.std.specs.Prelude.{map}
use Rattle.store_core.specs.declared.layout.Shape.{Shape}
use Rattle.fl_types.specs.Sharing.{is_plus}
use Rattle.loop_scopes.specs.Loops.{class_by}
use Rattle.loop_scopes.proofs.marks.reduced_marks.Given as goal

abbrev pub invariant-loop-shape : goal.invariant-loop-shape
invariant-loop-shape l = map (λ (s : Shape). is_plus (class_by l.names s.name)) l.table.0 ≡ l.marks ++ map (λ (s : Shape). is_plus (class_by l.names s.name)) (drop l.shape-index l.table.0)
