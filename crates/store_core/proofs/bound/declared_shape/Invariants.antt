use Rattle.std.proofs.Common.{◌≡◌, All, take, map}
use Rattle.store_core.specs.Values.{value_in}
use Rattle.store_core.specs.Bounds.{axis_of, IsLow}
use Rattle.store_core.proofs.bound.declared_shape.Given as goal

abbrev pub invariant-loop-dim : goal.invariant-loop-dim
invariant-loop-dim l = (l.axes ≡ map (axis_of (value_in l.values)) (take l.dim-index l.dim-items)) × (All IsLow l.axes)
