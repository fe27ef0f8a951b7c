use Rattle.std.proofs.Common.{◌≡◌, ◌++◌, drop}
use Rattle.std.specs.Prelude.{map}
use Rattle.store_core.specs.declared.layout.Shape.{Shape}
use Rattle.loop_scopes.specs.Loops.{accessed_by}
use Rattle.loop_scopes.proofs.marks.accessed_marks.Given as goal

abbrev pub invariant-loop-shape : goal.invariant-loop-shape
invariant-loop-shape l = map (λ (s : Shape). accessed_by l.names s.name) l.table.0 ≡ l.marks ++ map (λ (s : Shape). accessed_by l.names s.name) (drop l.shape-index l.table.0)
