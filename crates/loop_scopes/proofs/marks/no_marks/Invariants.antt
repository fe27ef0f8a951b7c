use Rattle.std.proofs.Common.{◌≡◌, ◌++◌, drop}
use Rattle.std.specs.Prelude.{map, false}
use Rattle.store_core.specs.declared.layout.Shape.{Shape}
use Rattle.loop_scopes.proofs.marks.no_marks.Given as goal

abbrev pub invariant-loop-shape : goal.invariant-loop-shape
invariant-loop-shape l = map (λ (s : Shape). false) l.shapes ≡ l.marks ++ map (λ (s : Shape). false) (drop l._shape-index l.shapes)
