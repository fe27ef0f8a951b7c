use Rattle.std.proofs.Common.{◌≡◌, ◌++◌, drop}
use Rattle.store_core.proofs.layout.copy_shapes.Given as goal

abbrev pub invariant-loop-shape : goal.invariant-loop-shape
invariant-loop-shape l = l.shapes ≡ l.all ++ drop l.shape-index l.shapes
