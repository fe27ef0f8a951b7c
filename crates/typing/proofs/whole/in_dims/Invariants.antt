use Rattle.std.proofs.Common.{◌≡◌, drop}
use Rattle.typing.specs.Firsts.{first_in_dims}
use Rattle.typing.proofs.whole.in_dims.Given as goal

-- those that are left answer as all do
abbrev pub invariant-loop-dim : goal.invariant-loop-dim
invariant-loop-dim l = first_in_dims l.program l.line (drop l.dim-index l.dims) ≡ first_in_dims l.program l.line l.dims
