use Rattle.std.proofs.Common.{◌≡◌, ◌++◌, drop, filter}
use Rattle.fl_types.specs.Declarations.{is_ring_argument}
use Rattle.commands.proofs.tangent.ring_arguments.Given as goal

abbrev pub invariant-loop-name : goal.invariant-loop-name
invariant-loop-name l = filter (is_ring_argument l.typed) l.typed.args ≡ l.names ++ filter (is_ring_argument l.typed) (drop l.name-index l.typed.args)
